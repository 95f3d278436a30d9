use Rattle.std.proofs.Common.{ap, ◌∙◌, length, map}
use Rattle.std.specs.List.{position_or_len}
use Rattle.std.proofs.lemmas.List.{length-map}
use Rattle.std.proofs.lemmas.Result.{IfOk-weaker}
use Rattle.driver_names.specs.NamesViews.{member_view, members_view}
use Rattle.driver_names.proofs.NamesShared.{parted, same_key}
use Rattle.driver_names.proofs.names_shared.parted.Goals as goal

pub keys-requires : goal.keys-requires
keys-requires c = ap length c.requires ∙ length-map (members_view c.args.members.now) _ ∙ length-map c.args.members.now member_view

pub returns : goal.returns
returns c =
    IfOk-weaker c.firsts.result _ _
    (λ v is. parted c.args.rule (members_view c.args.members.now) c.args.index c.in_ok-keys.keys.items c.args.groups.now v.items c.in_ok-keys.ensures c.requires (is ∙ ap (λ ks. map (λ k. position_or_len (same_key k) ks) ks) c.as_slice.ensures.value))
    c.firsts.ensures
