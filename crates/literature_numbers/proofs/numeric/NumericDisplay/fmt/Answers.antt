use Rattle.std.proofs.Common.{refl, List, ℕ, ◌++◌, sym, ap, ◌∙◌, true}
use Rattle.std.specs.Option.{option_map}
use Rattle.std.proofs.Output.{has_written_of_eq, has_written_append}
use Rattle.laws.specs.Text.{text, characters}
use Rattle.laws.proofs.Text.{text-append}
use Rattle.literature_numbers.specs.NumericText.{value_text, affix_text}
use Rattle.literature_numbers.specs.Views.{numeric_value_view}
use Rattle.literature_numbers.proofs.numeric.NumericDisplay.fmt.Goals as goal

pub returns-clause-writes : goal.returns-clause-writes
returns-clause-writes g c = λ plain ok.
    let n = c.args.self.now in
    let before : List ℕ = affix_text (option_map characters n.prefix) in
    let following : List ℕ = affix_text (option_map characters n.suffix) in
    let a = c.in_ok-write_affix.ensures plain (refl {a = true}) in
    let v = c.in_ok-fmt.ensures.writes a.plain (refl {a = true}) in
    has_written_of_eq _ _ _ _ _
    (sym (text-append before (value_text (numeric_value_view n.value) ++ following) ∙ ap (λ (t : List ℕ). text before ++ t) (text-append (value_text (numeric_value_view n.value)) following)))
    (has_written_append _ _ _ _ _ _ a (has_written_append _ _ _ _ _ _ v (c.write_affix-2.ensures v.plain ok)))
