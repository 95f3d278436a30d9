use Rattle.std.proofs.Common.{map, slice_get, subst}
use Rattle.std.proofs.lemmas.Result.{IfOk-weaker}
use Rattle.biblatex_entries.specs.Entries.{source_view}
use Rattle.biblatex_inherited_fields.specs.Table.{is_among}
use Rattle.biblatex_suppliers.specs.FieldNames.{field_name}
use Rattle.biblatex.specs.Bibliographies.{Indexed}
use Rattle.biblatex.specs.Catalogs.{written_under, IsEntryAs}
use Rattle.biblatex.proofs.CatalogsResolved.{low_kept}
use Rattle.biblatex.proofs.CatalogsEntries.{entry_named}
use Rattle.biblatex.proofs.catalog.Catalog.named.Goals as goal

pub named_entry-requires : goal.named_entry-requires
named_entry-requires c =
    let s = c.self.inside in
    low_kept (written_under s.written s.names.items) c.args.self.now c.args.index c.self.invariant.0.acyclic c.self.view_is c.requires

pub returns : goal.returns
returns c =
    let s = c.self.inside in
    let n = c.args.index in
    let ns = map field_name c.args.names.now in
    IfOk-weaker c.named_entry.result _ _
    (λ d made. subst (λ (h : Indexed). IsEntryAs (is_among ns) (slice_get h.entries n) (source_view d)) c.self.view_is
    (entry_named s.written s.names.items s.supplies.items c.as_slice.result.now n ns (source_view d) c.as_slice.ensures.value c.self.invariant.0 made)) c.named_entry.ensures
