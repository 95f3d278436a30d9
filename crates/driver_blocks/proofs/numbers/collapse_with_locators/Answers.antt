use Rattle.std.proofs.Common.{false, rules}
use Rattle.std.proofs.lemmas.List.Sorted.{answers_always}
use Rattle.driver_blocks.specs.Collapsing.{is_next_number}
use Rattle.driver_blocks.specs.Views.{arranged_view}
use Rattle.driver_blocks.proofs.RunsCut.{mapped_cut}
use Rattle.driver_blocks.proofs.RunsSteps.{numbers_go_on}
use Rattle.driver_blocks.proofs.numbers.collapse_with_locators.Goals as goal

pub loop-run-preserved : goal.loop-run-preserved
loop-run-preserved c = λ s.
    let steps = c.in-Some.ensures.steps in
    let split = mapped_cut (arranged_view s) (is_next_number false) c.loop-run.run-iterator.rest.now c.in-Some.run'.now c.next.new.self.rest.now steps.0 steps.1
    (steps.2 (λ a b. is_next_number false (arranged_view s a) (arranged_view s b)) (answers_always _ _ _ (λ f a r g h. search rules))).1 in
    numbers_go_on s c.loop-run.is_after _ c.in-Some.run'.now _ _ _ _ _ split (c.loop-run.invariant s) (c.in_ok-push_numbers.ensures s) c.is_long-is_after.ensures
