use Rattle.std.proofs.Common.{List, sym, ap, subst}
use Rattle.laws.specs.Results.{Leaves}
use Rattle.xml_text.specs.Views.{reference_view}
use Rattle.xml_tree.specs.Building.{Open, State, referred}
use Rattle.xml_tree.specs.Views.{refusal_of, state_view}
use Rattle.xml_tree.proofs.building.Builder.referred.Goals as goal

pub returns-in-Some : goal.returns-in-Some
returns-in-Some c =
    subst (λ (s : State). Leaves refusal_of c.put_character.result (state_view c.put_character.new.self) (referred s.open_ones s.root c.args.left (reference_view c.args.reference))) (sym c.in-Some.ensures) c.put_character.ensures

pub returns-in-None : goal.returns-in-None
returns-in-None c =
    let s = state_view c.args.self.now in
    ap (λ (os : List Open). referred os s.root c.args.left (reference_view c.args.reference)) c.in-None.ensures.0
