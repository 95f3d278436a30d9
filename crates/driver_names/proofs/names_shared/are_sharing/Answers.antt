use Rattle.std.proofs.Common.{◌≡◌, ◌&&◌, length, ap, subst, sym, ◌∙◌, arith}
use Rattle.std.proofs.lemmas.List.{get_or-map, length-map}
use Rattle.driver_names.specs.Keys.{IsTally}
use Rattle.driver_names.specs.Names.{rule_for}
use Rattle.driver_names.specs.NamesViews.{member_view, members_view}
use Rattle.driver_names.specs.Shared.{is_own_key, is_rule, own_keys, shares}
use Rattle.driver_names.proofs.NamesShared.{push_step, shares_in_group}
use Rattle.driver_names.proofs.names_shared.are_sharing.Goals as goal

pub loop-at-init : goal.loop-at-init
loop-at-init c = record {
  sizes = c.in_ok-sizes.ensures;
  owns = subst (λ keys. IsTally is_own_key c.in_ok-own_sizes.own_sizes keys) (c.as_slice.ensures.value ∙ c.in_ok-keys.ensures) c.in_ok-own_sizes.ensures;
  sharing = c.in_ok-sharing.ensures.items;
}

pub loop-at-preserved : goal.loop-at-preserved
loop-at-preserved c =
    let ms = members_view c.args.members.now in
    let rule = c.args.rule in
    let i = c.loop-at.at in
    let m = c.index-members-at.result in
    let viewed : length ms ≡ length c.args.members.now = length-map c.args.members.now member_view in
    let low = c.loop-at-test.true in
    let size : c.count.result ≡ _ = c.count.ensures ∙ c.loop-at.invariant.sizes _ in
    record {
      sizes = c.loop-at.invariant.sizes;
      owns = c.loop-at.invariant.owns;
      sharing = push_step member_view (λ o. is_rule (rule_for o) rule && shares rule ms o c.args.index) c.args.members.now i m c.loop-at.sharing.items c.push.new.self.items c.is_sharing.result low c.index-members-at.is c.loop-at.invariant.sharing
          (c.is_sharing.ensures
          ∙ ap (λ b. is_rule (rule_for (member_view m)) rule && b) (shares_in_group rule ms c.args.index i (member_view m) c.args.groups.now c.own_size-own.result c.count.result c.requires.order (omega (arith, viewed, low)) (ap member_view c.index-members-at.is ∙ sym (get_or-map member_view c.args.members.now i m (member_view m) low)) c.requires.groups (c.own_size-own.ensures (own_keys c.args.groups.now ms) c.loop-at.invariant.owns) size))
          c.in_ok-push.ensures.items;
    }
