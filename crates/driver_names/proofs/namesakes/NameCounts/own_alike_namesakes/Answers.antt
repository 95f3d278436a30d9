use Rattle.std.proofs.Common.{cond, Some, ap, sym, ◌∙◌}
use Rattle.std.specs.Prelude.{count_by}
use Rattle.driver_names.specs.NamesViews.{is_alike_namesake, member_view}
use Rattle.driver_names.specs.Namesakes.{people_within}
use Rattle.driver_names.proofs.namesakes.NameCounts.own_alike_namesakes.Goals as goal

pub returns-then-is_by_entry : goal.returns-then-is_by_entry
returns-then-is_by_entry c = λ ms says.
    let m = member_view c.args.member.now in
    c.alike_namesakes_within.ensures ms says
    ∙ ap (λ b. count_by (is_alike_namesake c.args.person.now) (cond b (people_within (Some m.cite.entry) ms) m.people)) (sym (sym c.is_by_entry.ensures ∙ c.if-is_by_entry.true))

pub returns-else-is_by_entry : goal.returns-else-is_by_entry
returns-else-is_by_entry c = λ ms says.
    let m = member_view c.args.member.now in
    c.alike_namesakes.ensures
    ∙ ap (λ b. count_by (is_alike_namesake c.args.person.now) (cond b (people_within (Some m.cite.entry) ms) m.people)) (sym (sym c.is_by_entry.ensures ∙ c.if-is_by_entry.false))
