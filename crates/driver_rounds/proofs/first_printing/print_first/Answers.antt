use Rattle.std.proofs.Common.{◌∙◌}
use Rattle.rendering_context.specs.Cites.{undisambiguated}
use Rattle.rendering_tree.specs.Views.{tree_view}
use Rattle.rendering.specs.Views.{rendering_view}
use Rattle.rendering_style.specs.Views.{citation_layout_view}
use Rattle.driver_rounds.specs.FirstPrints.{printed_by}
use Rattle.driver_rounds.specs.CitesInStep.{styled_view}
use Rattle.driver_rounds.proofs.FirstPrintsSteps.{printed_undisambiguated_is}
use Rattle.driver_rounds.proofs.first_printing.print_first.Goals as goal

pub returns-clause-printed : goal.returns-clause-printed
returns-clause-printed g c =
    let p = styled_view g.T.EntryLike.answers c.args.cite in
    c.in_ok-printed.ensures
    ∙ c.new-candidate.ensures (λ state. (printed_by p state).tree) undisambiguated (tree_view c.in_ok-first.first.tree)
    ∙ printed_undisambiguated_is p c.has_suffix_date.result (citation_layout_view c.args.style.now) c.repeats.result c.in_ok-names.names (rendering_view c.in_ok-first.first) c.has_suffix_date.ensures c.requires c.repeats.ensures
    c.in_ok-names.ensures c.in_ok-first.ensures.prints
