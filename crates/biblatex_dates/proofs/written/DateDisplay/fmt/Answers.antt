use Rattle.std.proofs.Common.{refl, true, List, ℕ, ◌++◌, sym, ap, ◌∙◌}
use Rattle.std.proofs.Output.{has_written_of_eq, has_written_append}
use Rattle.laws.specs.Text.{text}
use Rattle.laws.proofs.Text.{text-append}
use Rattle.biblatex_dates.specs.Written.{sides_text, end_text, mark_text}
use Rattle.biblatex_dates.proofs.written.DateDisplay.fmt.Goals as goal

pub returns-clause-writes : goal.returns-clause-writes
returns-clause-writes g c = λ plain ok.
    let d = c.args.self.now in
    let sides : List ℕ = sides_text d.value in
    let mark : List ℕ = mark_text d.uncertain d.approximate in
    let end : List ℕ = end_text d.value in
    let a = c.in_ok-write_sides.ensures plain (refl {a = true}) in
    let b = c.in_ok-write_mark.ensures a.plain (refl {a = true}) in
    has_written_of_eq _ _ _ _ _
    (sym (text-append sides (mark ++ end) ∙ ap (λ (t : List ℕ). text sides ++ t) (text-append mark end)))
    (has_written_append _ _ _ _ _ _ a (has_written_append _ _ _ _ _ _ b (c.write_end.ensures b.plain ok)))
