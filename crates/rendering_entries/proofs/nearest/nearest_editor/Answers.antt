use Rattle.std.proofs.Common.{rules}
use Rattle.literature_entries.specs.Views.{people_view}
use Rattle.literature_entries.specs.Fields.{Fields}
use Rattle.rendering_entries.proofs.WorksAnswers.{nearest_found}
use Rattle.rendering_entries.proofs.nearest.nearest_editor.Goals as goal

pub returns : goal.returns
returns c = nearest_found _ people_view (λ (fs : Fields). fs.editor) _ c.args.entry.now c.map.result c.map.ensures (λ f g b o k. search rules)
