use Rattle.std.proofs.Common.{List, sym, subst, ◌∙◌}
use Rattle.std.specs.Option.{option_map}
use Rattle.laws.specs.Results.{Gives}
use Rattle.xml_tree.specs.Building.{Open, finished}
use Rattle.xml_tree.specs.Views.{refusal_of, element_view}
use Rattle.xml_tree.proofs.Stacks.{none_open, still_open}
use Rattle.xml_tree.proofs.building.Builder.finish.Goals as goal

pub returns-then-is_empty : goal.returns-then-is_empty
returns-then-is_empty c =
    let b = c.args.self in
    let root = option_map element_view b.root in
    subst (λ (os : List Open). Gives refusal_of element_view c.rooted.result (finished os root)) (sym (none_open b.open_ones (sym c.is_empty.ensures ∙ c.if-is_empty.true))) c.rooted.ensures

pub returns : goal.returns
returns c =
    let b = c.args.self in
    still_open b.open_ones (option_map element_view b.root) (sym c.is_empty.ensures ∙ c.if-is_empty.false)
