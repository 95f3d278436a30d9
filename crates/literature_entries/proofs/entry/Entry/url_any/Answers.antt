use Rattle.std.proofs.Common.{rules}
use Rattle.literature_entries.specs.Views.{fields_view}
use Rattle.literature_values.specs.OtherViews.{address_view}
use Rattle.literature_entries.proofs.AncestorsWalks.{found_ok}
use Rattle.literature_entries.proofs.entry.Entry.url_any.Goals as goal

pub returns : goal.returns
returns c = found_ok _ address_view (λ e. (fields_view e).url) _ _ c.map.result c.map.ensures (λ f g b o k. search rules)
