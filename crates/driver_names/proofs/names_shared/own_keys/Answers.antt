use Rattle.std.proofs.Common.{sym, ◌∙◌, arith}
use Rattle.std.proofs.lemmas.List.{length-map}
use Rattle.driver_names.specs.NamesViews.{member_view, members_view}
use Rattle.driver_names.specs.Shared.{own_key}
use Rattle.driver_names.proofs.NamesShared.{beside_each, beside_more}
use Rattle.driver_names.proofs.names_shared.own_keys.Goals as goal

pub loop-at-preserved : goal.loop-at-preserved
loop-at-preserved c =
    beside_more member_view own_key c.args.groups.now c.args.members.now c.loop-at.at c.index-members-at.result c.loop-at.keys.items _
    c.requires c.loop-at-test.true c.index-members-at.is c.loop-at.invariant c.in_ok-push_own_key.ensures

pub returns : goal.returns
returns c =
    beside_each own_key c.args.groups.now (members_view c.args.members.now) c.loop-at.at c.loop-at.keys.items
    (c.requires ∙ sym (length-map c.args.members.now member_view)) (omega (arith, length-map c.args.members.now member_view, c.loop-at-test.false)) c.loop-at.invariant
