use Rattle.std.proofs.Common.{ℕ, List, reverse, sym, ap, ◌∙◌}
use Rattle.biblatex_tex.specs.Accent.{marked}
use Rattle.biblatex_tex.proofs.AccentMarks.{marked-last}
use Rattle.biblatex_tex.proofs.accent.put_marks.Goals as goal

pub loop-mark-preserved : goal.loop-mark-preserved
loop-mark-preserved c =
    rw c.in_ok-put_mark.ensures
    (sym (ap (λ (marks : List ℕ). marked marks (reverse c.loop-mark.text.items)) c.in-Some.ensures.items ∙ marked-last c.pop.new.self.items c.in-Some.mark (reverse c.loop-mark.text.items)) ∙ c.loop-mark.invariant)
