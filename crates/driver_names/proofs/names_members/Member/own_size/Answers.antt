use Rattle.std.proofs.Common.{cond, ap, sym, ◌∙◌}
use Rattle.std.specs.Prelude.{count_by}
use Rattle.driver_names.specs.NamesViews.{member_view}
use Rattle.driver_names.specs.Shared.{is_own_key}
use Rattle.driver_names.proofs.names_members.Member.own_size.Goals as goal

pub returns-then-is_by_entry : goal.returns-then-is_by_entry
returns-then-is_by_entry c = λ keys says.
    let m = member_view c.args.self.now in
    c.count.ensures
    ∙ says (c.args.group, m.cite.entry)
    ∙ ap (λ b. cond b (count_by (is_own_key (c.args.group, m.cite.entry)) keys) 1) (sym (sym c.is_by_entry.ensures ∙ c.if-is_by_entry.true))

pub returns-else-is_by_entry : goal.returns-else-is_by_entry
returns-else-is_by_entry c = λ keys says.
    let m = member_view c.args.self.now in
    ap (λ b. cond b (count_by (is_own_key (c.args.group, m.cite.entry)) keys) 1) (sym (sym c.is_by_entry.ensures ∙ c.if-is_by_entry.false))
