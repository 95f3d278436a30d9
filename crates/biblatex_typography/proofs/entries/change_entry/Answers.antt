use Rattle.std.proofs.Common.{List, string_bytes, ap, ◌∙◌}
use Rattle.std.proofs.lemmas.Result.{on_ok_weaker}
use Rattle.biblatex_fields.specs.Fields.{Named}
use Rattle.biblatex_entries.specs.Entries.{Source}
use Rattle.biblatex_entries.specs.TypeNames.{type_name}
use Rattle.biblatex_typography.specs.Changes.{with_fields}
use Rattle.biblatex_typography.proofs.Fields.{set_changed}
use Rattle.biblatex_typography.proofs.entries.change_entry.Goals as goal

pub returns : goal.returns
returns c =
    let e = c.args.entry.now in
    let with : List Named → Source = λ fs. record { key = string_bytes e.key; entry_type = type_name e.entry_type; fields = fs } in
    on_ok_weaker c.set_fields.result
    (λ is. ap with (is ∙ (ap (with_fields e.fields) c.in_ok-changed.ensures.changed ∙ set_changed e.fields c.in_ok-changed.ensures.ordered)))
    c.set_fields.ensures
