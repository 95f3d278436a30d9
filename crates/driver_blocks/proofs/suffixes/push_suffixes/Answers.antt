use Rattle.std.proofs.Common.{rules, ◌++◌, append_assoc, sym, ap, ◌∙◌, map, flat_map}
use Rattle.std.proofs.lemmas.List.Sorted.{answers_always}
use Rattle.driver_blocks.specs.Runs.{collapsed_run}
use Rattle.driver_blocks.specs.Collapsing.{continues, suffixes_collapsed}
use Rattle.driver_blocks.specs.Views.{arranged_view}
use Rattle.driver_blocks.proofs.RunsCut.{mapped_cut}
use Rattle.driver_blocks.proofs.suffixes.push_suffixes.Goals as goal

pub loop-run-preserved : goal.loop-run-preserved
loop-run-preserved c = λ s.
    let steps = c.in-Some.ensures.steps in
    let split = mapped_cut (arranged_view s) continues c.loop-run.run-iterator.rest.now c.in-Some.run'.now c.next.new.self.rest.now steps.0 steps.1
    (steps.2 (λ a b. continues (arranged_view s a) (arranged_view s b)) (answers_always _ _ _ (λ f a r g h. search rules))).1 in
    ap (λ xs. xs ++ suffixes_collapsed (map (arranged_view s) c.next.new.self.rest.now)) (c.in_ok-push_suffix_run.ensures s)
    ∙ append_assoc (map (arranged_view s) c.loop-run.all.items) (collapsed_run (map (arranged_view s) c.in-Some.run'.now)) (suffixes_collapsed (map (arranged_view s) c.next.new.self.rest.now))
    ∙ ap (λ rs. map (arranged_view s) c.loop-run.all.items ++ flat_map collapsed_run rs) (sym split)
    ∙ c.loop-run.invariant s
