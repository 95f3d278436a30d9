use Rattle.std.proofs.Common.{◌≡◌, length, map, cond, replicate, refl, ap, sym, ◌∙◌, ◌+◌}
use Rattle.std.specs.List.{zip}
use Rattle.std.proofs.lemmas.List.{length-map}
use Rattle.driver_names.specs.Names.{rule_for}
use Rattle.driver_names.specs.NamesViews.{member_view, members_view}
use Rattle.driver_names.specs.Shared.{is_rule}
use Rattle.driver_names.proofs.NamesDistinguished.{any-map}
use Rattle.driver_names.proofs.NamesShared.{grouped_none, shared_next, shared_none, shared_unused}
use Rattle.driver_names.proofs.names_shared.share_where.Goals as goal

pub returns-then-not-has_rule-clause-shared : goal.returns-then-not-has_rule-clause-shared
returns-then-not-has_rule-clause-shared c =
    let ms = members_view c.args.members.now in
    shared_unused c.args.rule c.args.most ms ms c.args.shared.now.items (c.requires.len ∙ sym (length-map c.args.members.now member_view))
    (any-map (λ m. is_rule (rule_for m) c.args.rule) member_view c.args.members.now ∙ sym c.has_rule.ensures ∙ c.if-not-has_rule.true)

pub loop-index-init : goal.loop-index-init
loop-index-init c =
    let ms = members_view c.args.members.now in
    let viewed : length ms ≡ length c.args.members.now = length-map c.args.members.now member_view in
    record {
      groups = c.in_ok-groups.ensures ∙ ap (λ n. replicate n 0) (sym viewed) ∙ grouped_none c.args.rule ms;
      shared = shared_none c.args.rule ms ms c.args.shared.now.items (c.requires.len ∙ sym viewed);
      len = refl;
    }

pub are_sharing-requires-clause-len : goal.are_sharing-requires-clause-len
are_sharing-requires-clause-len c = ap length (c.as_slice-in-loop-index.ensures.value ∙ c.in_ok-next.ensures) ∙ length-map (members_view c.args.members.now) _ ∙ length-map c.args.members.now member_view

pub set_where-requires : goal.set_where-requires
set_where-requires c =
    ap length (c.as_slice-in-loop-index-2.ensures.value ∙ c.in_ok-wanted.ensures) ∙ length-map (members_view c.args.members.now) _ ∙ length-map c.args.members.now member_view ∙ sym (c.loop-index.invariant.len ∙ c.requires.len)

pub loop-index-preserved : goal.loop-index-preserved
loop-index-preserved c =
    let ms = members_view c.args.members.now in
    record {
      groups = c.in_ok-next.ensures;
      shared = shared_next c.args.rule ms c.loop-index.index c.args.shared.now.items c.loop-index.shared.items c.set_where.new.numbers.items c.in_ok-wanted.wanted.items c.in_ok-wanted.ensures c.loop-index.invariant.shared
          (c.set_where.ensures.set ∙ ap (λ bs. map (λ p. cond p.0 (c.loop-index.index + 1) p.1) (zip bs c.loop-index.shared.items)) c.as_slice-in-loop-index-2.ensures.value);
      len = c.set_where.ensures.len ∙ c.loop-index.invariant.len;
    }
