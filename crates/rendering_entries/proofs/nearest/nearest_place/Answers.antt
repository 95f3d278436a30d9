use Rattle.std.proofs.Common.{rules}
use Rattle.literature_values.specs.TextViews.{format_view}
use Rattle.rendering_entries.specs.Library.{publisher_place}
use Rattle.rendering_entries.proofs.WorksAnswers.{nearest_found}
use Rattle.rendering_entries.proofs.nearest.nearest_place.Goals as goal

pub returns : goal.returns
returns c = nearest_found _ format_view publisher_place _ c.args.entry.now c.map.result c.map.ensures (λ f g b o k. search rules)
