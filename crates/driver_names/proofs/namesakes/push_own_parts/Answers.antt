use Rattle.std.proofs.Common.{◌++◌, [], map, append-nil, cond, ap, sym, ◌∙◌, Some}
use Rattle.std.proofs.lemmas.Result.{on_ok_weaker}
use Rattle.driver_names.specs.Namesakes.{parts_within, scoped_view}
use Rattle.driver_names.specs.NamesViews.{member_view}
use Rattle.driver_names.proofs.namesakes.push_own_parts.Goals as goal

pub returns-then-is_by_entry : goal.returns-then-is_by_entry
returns-then-is_by_entry c =
    let m = member_view c.args.member.now in
    let old = map scoped_view c.args.names.now.items in
    let own = parts_within c.args.part (Some m.cite.entry) in
    on_ok_weaker c.push_names.result
    (λ done. done ∙ ap (λ people. old ++ own people) c.as_slice.ensures.value ∙ ap (λ b. old ++ cond b (own m.people) []) (sym (sym c.is_by_entry.ensures ∙ c.if-is_by_entry.true)))
    c.push_names.ensures

pub returns-else-is_by_entry : goal.returns-else-is_by_entry
returns-else-is_by_entry c =
    let m = member_view c.args.member.now in
    let old = map scoped_view c.args.names.now.items in
    let own = parts_within c.args.part (Some m.cite.entry) in
    sym (append-nil old) ∙ ap (λ b. old ++ cond b (own m.people) []) (sym (sym c.is_by_entry.ensures ∙ c.if-is_by_entry.false))
