use Rattle.std.proofs.Common.{ap, ◌∙◌}
use Rattle.std.specs.List.{list_any}
use Rattle.std.specs.Str.{bytes_eq}
use Rattle.literature_values.specs.EntryTypes.{type_name}
use Rattle.literature_values.specs.declared.entry_type.EntryType.{EntryType}
use Rattle.literature_values.proofs.EntryTypesEquality.{decided_by_names}
use Rattle.rendering_entries.proofs.works.is_one_of.Goals as goal

pub returns : goal.returns
returns c =
    c.contains.ensures.value
    ∙ (λ i. list_any (λ (t : EntryType). decided_by_names t c.entry_type.result.now i) c.args.entry_types.now)
    ∙ ap (λ (own : EntryType). list_any (λ (t : EntryType). bytes_eq (type_name t) (type_name own)) c.args.entry_types.now) c.entry_type.ensures
