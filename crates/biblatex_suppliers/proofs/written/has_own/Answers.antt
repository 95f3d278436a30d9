use Rattle.std.proofs.Common.{slice_get, Bor, Vec, Global, ◌∙◌}
use Rattle.biblatex_text.specs.declared.spanned.Spanned.{Spanned}
use Rattle.biblatex_content.specs.declared.chunk.Chunk.{Chunk}
use Rattle.biblatex_fields.specs.Value.{field_value_view}
use Rattle.biblatex_suppliers.specs.FieldNames.{field_name}
use Rattle.biblatex_suppliers.specs.Suppliers.{own_of}
use Rattle.biblatex_suppliers.specs.Written.{written_view}
use Rattle.biblatex_suppliers.proofs.SupplyingValues.{mapped_some}
use Rattle.biblatex_suppliers.proofs.written.has_own.Goals as goal

pub returns : goal.returns
returns c =
    c.is_some.ensures
    ∙ mapped_some (λ (v : Bor (Vec (Spanned Chunk) Global)). field_value_view v.now.items) c.own_value.result (own_of (slice_get (written_view c.args.entries.now) c.args.number) (field_name c.args.name)) c.own_value.ensures
