use Rattle.std.proofs.Common.{◌++◌, map, append_assoc, ap, ◌∙◌, None}
use Rattle.std.proofs.lemmas.Result.{on_ok_weaker}
use Rattle.driver_names.specs.Namesakes.{own_parts, parts_within, scoped_view}
use Rattle.driver_names.specs.NamesViews.{member_view}
use Rattle.driver_names.proofs.namesakes.push_parts.Goals as goal

pub returns : goal.returns
returns c =
    let m = member_view c.args.member.now in
    let old = map scoped_view c.args.names.now.items in
    on_ok_weaker c.push_own_parts.result
    (λ done. done
    ∙ ap (λ ns. ns ++ own_parts c.args.part m) (c.in_ok-push_names.ensures ∙ ap (λ people. old ++ parts_within c.args.part None people) c.as_slice.ensures.value)
    ∙ append_assoc old (parts_within c.args.part None m.people) (own_parts c.args.part m))
    c.push_own_parts.ensures
