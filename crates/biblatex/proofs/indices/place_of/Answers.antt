use Rattle.std.proofs.Common.{ℕ, List, subst}
use Rattle.biblatex.specs.Indices.{IsPlace}
use Rattle.biblatex.proofs.indices.place_of.Goals as goal

pub returns-clause-place : goal.returns-clause-place
returns-clause-place c = subst (λ (name : List ℕ). IsPlace c.args.names.now name c.place_of_sought.result) c.new.ensures c.place_of_sought.ensures.place
