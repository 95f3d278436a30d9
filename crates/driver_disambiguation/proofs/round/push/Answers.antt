use Rattle.std.proofs.Common.{◌∙◌, ap, sym}
use Rattle.std.specs.List.{list_any}
use Rattle.driver_disambiguation.specs.States.{is_given_to}
use Rattle.driver_names.specs.Views.{given_view, given_states_view}
use Rattle.driver_disambiguation.proofs.Gathering.{entry_added, pushed_one}
use Rattle.driver_disambiguation.proofs.round.push.Goals as goal

pub returns-clause-entries : goal.returns-clause-entries
returns-clause-entries c =
    λ e. c.in_ok-insert_entry.ensures.entries e
    ∙ entry_added (given_states_view c.args.given.now.items) (given_view c.args.one) e _ (c.requires e)
    ∙ ap (list_any (is_given_to e)) (sym (pushed_one c.args.given.now.items c.push.new.self.items c.args.one c.in_ok-push.ensures.items))
