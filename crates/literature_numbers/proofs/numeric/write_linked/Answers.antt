use Rattle.std.proofs.Common.{rules, refl, w32, FitsSigned, ◌++◌, sym, ◌∙◌, true}
use Rattle.std.specs.Fmt.{signed_decimal}
use Rattle.std.proofs.lemmas.Int.{to_z-of_z}
use Rattle.std.proofs.Output.{has_written_of_eq, has_written_append}
use Rattle.laws.specs.Text.{text}
use Rattle.laws.proofs.Text.{text-append}
use Rattle.literature_numbers.specs.NumericText.{delimiter_text, separator_text}
use Rattle.literature_numbers.proofs.numeric.write_linked.Goals as goal

pub returns-in-Some : goal.returns-in-Some
returns-in-Some g c = λ plain ok.
    let number = c.in_ok-write_number.ensures plain (refl {a = true}) in
    let f : FitsSigned w32 c.args.linked.0 = search rules in
    has_written_of_eq _ _ _ _ _
    ((λ i. text (signed_decimal (to_z-of_z w32 c.args.linked.0 f i)) ++ text (delimiter_text c.in-Some.delimiter)) ∙ sym (text-append (signed_decimal c.args.linked.0) (delimiter_text c.in-Some.delimiter)) ∙ (λ i. text (signed_decimal c.args.linked.0 ++ separator_text (sym c.in-Some.is i))))
    (has_written_append _ _ _ _ _ _ number (c.fmt.ensures.writes number.plain ok))
