use Rattle.std.proofs.Common.{ℕ, List, ap}
use Rattle.biblatex.proofs.indices.NamedIndex.new.Goals as goal

pub returns : goal.returns
returns c = ap (λ (name : List ℕ). (name, c.args.index)) c.new-name.ensures
