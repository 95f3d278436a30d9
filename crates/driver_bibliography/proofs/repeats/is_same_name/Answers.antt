use Rattle.std.proofs.Common.{sym, ap, ◌∙◌}
use Rattle.rendering_tree.specs.Views.{element_view}
use Rattle.driver_bibliography.specs.Substitution.{is_same_name}
use Rattle.driver_bibliography.proofs.repeats.is_same_name.Goals as goal

pub returns-then-alone : goal.returns-then-alone
returns-then-alone c = c.are_equal_trees.ensures.same ∙ ap (λ b. is_same_name b (element_view c.args.name.now) (element_view c.args.other.now)) (sym c.if-alone.true)

pub returns-else-alone : goal.returns-else-alone
returns-else-alone c = c.are_equal_elements.ensures.same ∙ ap (λ b. is_same_name b (element_view c.args.name.now) (element_view c.args.other.now)) (sym c.if-alone.false)
