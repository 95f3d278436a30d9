use Rattle.std.proofs.Common.{List, sym, ap, subst}
use Rattle.std.specs.Str.{chars}
use Rattle.laws.specs.Results.{Leaves}
use Rattle.xml_tree.specs.Building.{Open, State, section}
use Rattle.xml_tree.specs.Views.{refusal_of, state_view}
use Rattle.xml_tree.proofs.building.Builder.section.Goals as goal

pub returns-in-Some : goal.returns-in-Some
returns-in-Some c =
    subst (λ (s : State). Leaves refusal_of c.put_data.result (state_view c.put_data.new.self) (section s.open_ones s.root c.args.left (chars c.args.text.now))) (sym c.in-Some.ensures) c.put_data.ensures

pub returns-in-None : goal.returns-in-None
returns-in-None c =
    let s = state_view c.args.self.now in
    ap (λ (os : List Open). section os s.root c.args.left (chars c.args.text.now)) c.in-None.ensures.0
