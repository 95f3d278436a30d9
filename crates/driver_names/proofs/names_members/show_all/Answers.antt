use Rattle.std.proofs.Common.{arith, sym, ◌∙◌}
use Rattle.std.proofs.lemmas.List.{length-map}
use Rattle.driver_names.specs.NamesViews.{member_view, members_view, shown_with}
use Rattle.driver_names.proofs.NamesDistinguished.{changed_member, changed_all}
use Rattle.driver_names.proofs.names_members.show_all.Goals as goal

pub loop-index-preserved : goal.loop-index-preserved
loop-index-preserved c =
    changed_member (shown_with c.args.nth) c.args.distinctions.now c.args.members.now c.loop-index.members c.loop-index.index _ c.index-members-index.result c.show.new.self
    c.requires.length c.loop-index-test.true c.loop-index.auto.members c.loop-index.invariant c.show.ensures

pub returns : goal.returns
returns c =
    let many = length-map c.args.members.now member_view in
    changed_all (shown_with c.args.nth) c.args.distinctions.now (members_view c.args.members.now) (members_view c.loop-index.members) c.loop-index.index (c.requires.length ∙ sym many)
    (omega (arith, many, c.loop-index-test.false)) c.loop-index.invariant
