use Rattle.std.proofs.Common.{ap, ◌∙◌}
use Rattle.std.specs.Str.{bytes_eq}
use Rattle.literature_values.specs.EntryTypes.{type_name}
use Rattle.literature_values.proofs.EntryTypesEquality.{decided_by_names}
use Rattle.literature.proofs.holding.is_of.Goals as goal

pub returns : goal.returns
returns c =
    c.eq.ensures
    ∙ decided_by_names c.args.wanted.now c.entry_type.result.now
    ∙ ap (λ t. bytes_eq (type_name c.args.wanted.now) (type_name t)) c.entry_type.ensures
