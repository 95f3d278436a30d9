use Rattle.std.proofs.Common.{List, sym, ap, subst}
use Rattle.laws.specs.Results.{Leaves}
use Rattle.xml_text.specs.Views.{placed_view, name_view}
use Rattle.xml_tree.specs.Building.{Open, State, end}
use Rattle.xml_tree.specs.Views.{refusal_of, state_view}
use Rattle.xml_tree.proofs.building.Builder.end.Goals as goal

pub returns-in-Some : goal.returns-in-Some
returns-in-Some c =
    let name = placed_view name_view c.args.name in
    subst (λ (s : State). Leaves refusal_of c.close.result (state_view c.close.new.self) (end s.open_ones s.root c.args.left name)) (sym c.in-Some.ensures) c.close.ensures

pub returns-in-None : goal.returns-in-None
returns-in-None c =
    let s = state_view c.args.self.now in
    let name = placed_view name_view c.args.name in
    ap (λ (os : List Open). end os s.root c.args.left name) c.in-None.ensures.0
