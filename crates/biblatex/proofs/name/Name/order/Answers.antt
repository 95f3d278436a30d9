use Rattle.std.proofs.Common.{string_bytes, ◌∙◌}
use Rattle.biblatex.proofs.Fronts.{by_fronts}
use Rattle.biblatex.proofs.name.Name.order.Goals as goal

pub returns-then-front-other_front : goal.returns-then-front-other_front
returns-then-front-other_front c =
    let name = c.args.self.now in
    let other = c.args.other.now in
    c.cmp.ensures ∙ by_fronts (string_bytes name.text) other.text.now name.front other.front name.begins other.begins c.if-front-other_front.true
