use Rattle.std.proofs.Common.{List, Vec, Global, length, ◌==◌, ap, ◌∙◌}
use Rattle.biblatex_suppliers.specs.Written.{beside}
use Rattle.biblatex_suppliers.specs.declared.shared.Shared.{Shared}
use Rattle.biblatex_suppliers.proofs.written.stands_alone.Goals as goal

pub returns : goal.returns
returns c =
    c.is_empty.ensures
    ∙ (ap (λ (ss : List Shared). length ss == 0) c.beside.ensures ∙ ap (λ (vs : List (Vec Shared Global)). length (beside vs c.args.number) == 0) c.as_slice.ensures.value)
