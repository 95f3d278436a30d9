use Rattle.std.proofs.Common.{get_or, ap, sym, ◌∙◌, ◌∷◌, [], arith, map}
use Rattle.std.proofs.lemmas.List.{length-map, map-append}
use Rattle.driver_names.specs.NamesViews.{member_view, members_view}
use Rattle.driver_names.specs.Shared.{key_at, key_view}
use Rattle.driver_names.proofs.NamesShared.{beside_all, beside_step}
use Rattle.driver_names.proofs.names_shared.keys.Goals as goal

pub loop-at-preserved : goal.loop-at-preserved
loop-at-preserved c =
    beside_step member_view (key_at c.args.rule c.args.index) c.args.groups.now c.args.members.now c.loop-at.at c.index-members-at.result (map key_view c.loop-at.keys.items) (map key_view c.push.new.self.items) (key_view _)
    c.requires c.loop-at-test.true c.index-members-at.is c.loop-at.invariant
    (λ k. (get_or c.args.groups.now c.loop-at.at 0, c.compared_at.ensures k))
    (ap (map key_view) c.in_ok-push.ensures.items ∙ map-append key_view c.loop-at.keys.items (_ ∷ []))

pub returns : goal.returns
returns c =
    beside_all (key_at c.args.rule c.args.index) c.args.groups.now (members_view c.args.members.now) c.loop-at.at (map key_view c.loop-at.keys.items)
    (c.requires ∙ sym (length-map c.args.members.now member_view)) (omega (arith, length-map c.args.members.now member_view, c.loop-at-test.false)) c.loop-at.invariant
