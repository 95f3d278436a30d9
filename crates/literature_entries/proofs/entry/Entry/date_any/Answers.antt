use Rattle.std.proofs.Common.{rules}
use Rattle.literature_entries.specs.Views.{fields_view}
use Rattle.literature_entries.proofs.AncestorsWalks.{found_ok}
use Rattle.literature_entries.proofs.entry.Entry.date_any.Goals as goal

pub returns : goal.returns
returns c = found_ok _ (λ d. d) (λ e. (fields_view e).date) _ _ c.map.result c.map.ensures (λ f g b o k. search rules)
