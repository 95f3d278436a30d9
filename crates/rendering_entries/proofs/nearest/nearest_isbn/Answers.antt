use Rattle.std.proofs.Common.{ℕ, List, rules}
use Rattle.std.specs.Prelude.{codes}
use Rattle.literature_entries.specs.Names.{serial}
use Rattle.rendering_entries.proofs.WorksAnswers.{nearest_found}
use Rattle.rendering_entries.proofs.nearest.nearest_isbn.Goals as goal

pub returns : goal.returns
returns c = nearest_found _ (λ (s : List ℕ). s) (serial (codes "isbn")) _ c.args.entry.now c.map.result c.map.ensures (λ f g b o k. search rules)
