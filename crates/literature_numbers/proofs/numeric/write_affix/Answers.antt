use Rattle.std.proofs.Common.{rules, sym, ◌∙◌}
use Rattle.std.specs.Option.{option_map}
use Rattle.std.proofs.Output.{has_written_of_eq}
use Rattle.laws.specs.Text.{text, characters}
use Rattle.laws.proofs.Text.{text_of_chars}
use Rattle.literature_numbers.specs.NumericText.{affix_text}
use Rattle.literature_numbers.proofs.numeric.write_affix.Goals as goal

pub returns-in-Some : goal.returns-in-Some
returns-in-Some g c = λ plain ok.
    let u = rw c.as_str.ensures.value at c.as_str.utf8 in
    has_written_of_eq _ _ _ _ _
    (sym (text_of_chars _ u) ∙ (λ i. text (affix_text (option_map characters (sym c.in-Some.is i)))))
    (search rules)
