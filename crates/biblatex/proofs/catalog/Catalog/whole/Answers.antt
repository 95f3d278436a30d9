use Rattle.std.proofs.Common.{slice_get, subst, true, Bor}
use Rattle.biblatex_entries.specs.Entries.{source_view}
use Rattle.biblatex.specs.Bibliographies.{Indexed}
use Rattle.biblatex_entries.specs.declared.entry.Entry.{Entry}
use Rattle.biblatex_suppliers.specs.Written.{written_view}
use Rattle.biblatex_suppliers.specs.Suppliers.{seen, IsMadeAs}
use Rattle.biblatex.specs.Catalogs.{IsEntryAs}
use Rattle.biblatex.proofs.CatalogsEntries.{entry_made, if_some}
use Rattle.biblatex.proofs.catalog.Catalog.whole.Goals as goal

pub returns : goal.returns
returns c =
    let s = c.self.inside in
    let n = c.args.index in
    let es = written_view s.written in
    if_some c.whole_entry.result (λ (d : Bor Entry). IsMadeAs (slice_get es n) (seen es c.as_slice.result.now n) (source_view d.now)) (λ (d : Bor Entry). IsEntryAs (λ q. true) (slice_get c.args.self.now.entries n) (source_view d.now))
    (λ d made. subst (λ (h : Indexed). IsEntryAs (λ q. true) (slice_get h.entries n) (source_view d.now)) c.self.view_is
    (entry_made s.written s.names.items s.supplies.items c.as_slice.result.now n (source_view d.now) c.as_slice.ensures.value c.self.invariant.0 made)) c.whole_entry.ensures
