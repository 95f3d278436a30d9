use Rattle.std.proofs.Common.{subst}
use Rattle.std.proofs.lemmas.Result.{IfOk-weaker}
use Rattle.driver_names.specs.Keys.{IsTally}
use Rattle.driver_names.specs.NamesViews.{members_view}
use Rattle.driver_names.proofs.NamesakesCounted.{equal_scoped, tally_counts}
use Rattle.driver_names.proofs.namesakes.counts_by.Goals as goal

pub returns : goal.returns
returns c =
    IfOk-weaker c.new.result _ _
    (λ t tally. tally_counts c.args.part t c.in_ok-names.names.items (members_view c.args.members.now) c.in_ok-names.ensures (subst (λ names. IsTally equal_scoped t names) c.as_slice.ensures.value tally))
    c.new.ensures
