use Rattle.std.proofs.Common.{rules, refl, w32, FitsSigned, true, List, ℕ, ◌++◌, sym, ◌∙◌}
use Rattle.std.proofs.lemmas.Int.{to_z-of_z}
use Rattle.std.proofs.Output.{has_written_of_eq, has_written_append}
use Rattle.laws.specs.Text.{text}
use Rattle.laws.proofs.Text.{text-append}
use Rattle.literature_values.specs.DateText.{side_text, end_text}
use Rattle.literature_values.proofs.date.DateDisplay.fmt.Goals as goal

pub returns-clause-writes : goal.returns-clause-writes
returns-clause-writes g c = λ plain ok.
    let d = c.args.self.now in
    let end : List ℕ = end_text d.approximate d.end in
    let f : FitsSigned w32 c.args.self.now.year = search rules in
    let a = c.in_ok-write_side.ensures plain (refl {a = true}) in
    has_written_of_eq _ _ _ _ _
    ((λ i. text (side_text (to_z-of_z w32 d.year f i) d.month d.day) ++ text end) ∙ sym (text-append (side_text d.year d.month d.day) end))
    (has_written_append _ _ _ _ _ _ a (c.write_end.ensures a.plain ok))
