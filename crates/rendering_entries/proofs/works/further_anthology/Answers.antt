use Rattle.std.proofs.Common.{◌∷◌, [], rules}
use Rattle.literature_values.specs.declared.entry_type.EntryType.TheVariants as types
use Rattle.rendering_entries.specs.Works.{is_one_of}
use Rattle.rendering_entries.proofs.WorksAnswers.{further_found}
use Rattle.rendering_entries.proofs.works.further_anthology.Goals as goal

pub returns : goal.returns
returns c = further_found _ (is_one_of (types.Anthology ∷ [])) _ c.args.entry.now c.map_parents.result c.map_parents.ensures (λ f g b o k. search rules)
