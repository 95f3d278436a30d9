use Rattle.std.proofs.Common.{◌∷◌, Ok, sym, ap, ◌∙◌}
use Rattle.std.specs.Str.{chars}
use Rattle.xml_tree.specs.Building.{Open, State, state}
use Rattle.xml_tree.specs.Values.{lines_of}
use Rattle.xml_tree.specs.Views.{state_view}
use Rattle.xml_tree.proofs.Stacks.{text_put}
use Rattle.xml_tree.proofs.building.Builder.put_data.Goals as goal

pub returns : goal.returns
returns c =
    let s = state_view c.args.self.now in
    ap (λ (n : State). Ok n) (sym (c.in_ok-put_open.ensures ∙ ap (λ (o : Open). state (o ∷ s.open_ones) s.root) (text_put c.args.inner c.push_data.new.text (lines_of (chars c.args.text.now)) c.in_ok-push_data.ensures)))
