use Rattle.std.proofs.Common.{rules}
use Rattle.literature_numbers.specs.Views.{numeral_view}
use Rattle.literature_values.specs.TypedViews.{typed_view}
use Rattle.literature_entries.specs.Fields.{Fields}
use Rattle.rendering_entries.proofs.WorksAnswers.{nearest_found}
use Rattle.rendering_entries.proofs.nearest.nearest_volume.Goals as goal

pub returns : goal.returns
returns c = nearest_found _ (typed_view numeral_view) (λ (fs : Fields). fs.volume) _ c.args.entry.now c.map.result c.map.ensures (λ f g b o k. search rules)
