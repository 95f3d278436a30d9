use Rattle.std.proofs.Common.{◌≡◌, sym, subst, ◌∙◌, Option, IfSome}
use Rattle.std.specs.Option.{option_map}
use Rattle.rendering_taxonomy.specs.declared.cite.IbidState.TheVariants as ibids
use Rattle.driver_requests.specs.Positions.{ibid_at}
use Rattle.driver_requests.specs.Views.{item_view, last_view}
use Rattle.driver_requests.specs.declared.position.LastCite.{LastCite}
use Rattle.driver_requests.proofs.IbidsSame.{may_repeat, not_repeated}
use Rattle.driver_requests.proofs.position.ibid_of.Goals as goal

pub returns-then-may_not_repeat : goal.returns-then-may_not_repeat
returns-then-may_not_repeat g c = λ answers counting.
    let item = item_view (λ e. c.args.entry) answers c.args.item.now in
    subst (λ (o : Option (LastCite g.row.T.Denot g.row.P.Denot)). IfSome o (λ l. c.args.counts ≡ counting (last_view answers l).1) → ibids.Different ≡ ibid_at g.P.PartialEq.eq counting c.args.after_one c.args.index (option_map (last_view answers) o) item)
    (sym c.in-Some.is)
    (λ counted. not_repeated g.P.PartialEq.eq counting c.args.after_one c.args.index c.in-Some.last.index (last_view answers c.in-Some.last).1 item (sym c.may_not_repeat.ensures ∙ c.if-may_not_repeat.true))

pub returns-else-may_not_repeat : goal.returns-else-may_not_repeat
returns-else-may_not_repeat g c = λ answers counting.
    let item = item_view (λ e. c.args.entry) answers c.args.item.now in
    subst (λ (o : Option (LastCite g.row.T.Denot g.row.P.Denot)). IfSome o (λ l. c.args.counts ≡ counting (last_view answers l).1) → c.ibid_after.result ≡ ibid_at g.P.PartialEq.eq counting c.args.after_one c.args.index (option_map (last_view answers) o) item)
    (sym c.in-Some.is)
    (λ counted. c.ibid_after.ensures answers counting counted
    ∙ may_repeat g.P.PartialEq.eq counting c.args.after_one c.args.index c.in-Some.last.index (last_view answers c.in-Some.last).1 item (sym c.may_not_repeat.ensures ∙ c.if-may_not_repeat.false))
