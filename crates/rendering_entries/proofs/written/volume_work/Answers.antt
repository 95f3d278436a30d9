use Rattle.std.proofs.Common.{rules}
use Rattle.std.specs.Option.{option_map}
use Rattle.literature_entries.specs.Fields.{Fields}
use Rattle.literature_entries.specs.Views.{fields_view}
use Rattle.rendering_entries.proofs.WorksAnswers.{nearest_found}
use Rattle.rendering_entries.proofs.written.volume_work.Goals as goal

pub returns : goal.returns
returns c = nearest_found _ fields_view (λ (fs : Fields). option_map (λ n. fs) fs.volume) _ c.args.entry.now c.map.result c.map.ensures (λ f g b o k. search rules)
