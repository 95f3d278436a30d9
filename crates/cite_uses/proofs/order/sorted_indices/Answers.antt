use Rattle.std.proofs.Common.{ℕ, List, subst}
use Rattle.std.specs.Prelude.{IsPermutation}
use Rattle.cite_uses.proofs.order.sorted_indices.Goals as goal

pub returns-clause-same : goal.returns-clause-same
returns-clause-same c = subst (λ (ps : List (ℕ × ℕ)). IsPermutation ps c.sort.new.self.items) c.in_ok-indices.ensures c.sort.ensures.permutation
