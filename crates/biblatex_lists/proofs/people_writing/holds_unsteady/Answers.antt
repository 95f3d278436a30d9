use Rattle.std.proofs.Common.{◌≡◌, ℕ, false, drop, sym, ap, ◌∙◌, add-one}
use Rattle.biblatex_lists.specs.Writing.{holds}
use Rattle.biblatex_lists.proofs.PartsCut.{slice_to_end}
use Rattle.biblatex_lists.proofs.PartsTested.{holds_later}
use Rattle.biblatex_lists.specs.PeopleWriting.{is_unsteady}
use Rattle.biblatex_lists.proofs.people_writing.holds_unsteady.Goals as goal

pub loop-i-preserved : goal.loop-i-preserved
loop-i-preserved c =
    let none : is_unsteady (drop c.loop-i.i c.args.text.now) ≡ false = ap is_unsteady (sym (slice_to_end c.args.text.now c.loop-i.i)) ∙ (sym c.is_unsteady.ensures ∙ c.if-is_unsteady.false) in
    c.loop-i.invariant ∙ (holds_later is_unsteady c.args.text.now c.loop-i.i c.loop-i-test.true none ∙ ap (λ (k : ℕ). holds is_unsteady (drop k c.args.text.now)) (sym (add-one c.loop-i.i)))
