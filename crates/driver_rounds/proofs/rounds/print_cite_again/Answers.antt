use Rattle.std.proofs.Common.{map, sym, ap, ◌∙◌}
use Rattle.std.proofs.lemmas.List.{get_or-map}
use Rattle.rendering_context.specs.Cites.{undisambiguated}
use Rattle.rendering_context.specs.Views.{state_view}
use Rattle.driver_disambiguation.specs.CitesViews.{printed_cites_view}
use Rattle.driver_rounds.specs.CitesInStep.{styled_view}
use Rattle.driver_rounds.proofs.AgainSteps.{given_ok, not_given}
use Rattle.driver_rounds.proofs.rounds.print_cite_again.Goals as goal

pub returns-then-is_given-entry-clause-printed : goal.returns-then-is_given-entry-clause-printed
returns-then-is_given-entry-clause-printed g c =
    given_ok (map state_view c.args.states.now) c.args.is_given.now c.print_by.result (styled_view g.T.EntryLike.answers c.args.cite) (printed_cites_view c.args.printed.now) (printed_cites_view c.print_by.new.printed)
    c.args.at (state_view c.index-states-entry.result) c.if-is_given-entry.true (ap state_view c.index-states-entry.is ∙ sym (get_or-map state_view c.args.states.now c.args.cite.numbered.entry c.index-states-entry.result undisambiguated c.requires.within)) c.print_by.ensures.printed

pub returns-else-is_given-entry-clause-printed : goal.returns-else-is_given-entry-clause-printed
returns-else-is_given-entry-clause-printed g c =
    not_given (map state_view c.args.states.now) c.args.is_given.now (styled_view g.T.EntryLike.answers c.args.cite) (printed_cites_view c.args.printed.now) c.args.at c.if-is_given-entry.false
