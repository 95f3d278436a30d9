use Rattle.std.proofs.Common.{List, sym, subst}
use Rattle.std.specs.Str.{chars}
use Rattle.laws.specs.Results.{Leaves}
use Rattle.xml_tree.specs.Building.{Open, State, white_space, characters}
use Rattle.xml_tree.specs.Views.{refusal_of, state_view}
use Rattle.xml_tree.proofs.Stacks.{emptied}
use Rattle.xml_tree.proofs.building.Builder.characters.Goals as goal

pub returns-in-Some : goal.returns-in-Some
returns-in-Some c =
    subst (λ (s : State). Leaves refusal_of c.put_data.result (state_view c.put_data.new.self) (characters s.open_ones s.root (chars c.args.start.now) (chars c.args.text.now))) (sym c.in-Some.ensures) c.put_data.ensures

pub returns-in-None : goal.returns-in-None
returns-in-None c =
    let s = state_view c.args.self.now in
    let n = state_view c.take_open.new.self in
    let start = chars c.args.start.now in
    let text = chars c.args.text.now in
    subst (λ (os : List Open). Leaves refusal_of c.check_outside.result n (characters os s.root start text)) (sym c.in-None.ensures.0)
    (subst (λ (m : State). Leaves refusal_of c.check_outside.result n (white_space m start text)) (emptied s n c.in-None.ensures.0 c.in-None.ensures.1) (c.check_outside.ensures n))
