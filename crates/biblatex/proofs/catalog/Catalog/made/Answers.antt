use Rattle.std.proofs.Common.{true, slice_get, subst}
use Rattle.std.proofs.lemmas.Result.{IfOk-weaker}
use Rattle.biblatex_entries.specs.Entries.{source_view}
use Rattle.biblatex.specs.Bibliographies.{Indexed}
use Rattle.biblatex.specs.Catalogs.{written_under, IsEntryAs}
use Rattle.biblatex.proofs.CatalogsResolved.{low_kept}
use Rattle.biblatex.proofs.CatalogsEntries.{entry_made}
use Rattle.biblatex.proofs.catalog.Catalog.made.Goals as goal

pub made_entry-requires : goal.made_entry-requires
made_entry-requires c =
    let s = c.self.inside in
    low_kept (written_under s.written s.names.items) c.args.self.now c.args.index c.self.invariant.0.acyclic c.self.view_is c.requires

pub returns : goal.returns
returns c =
    let s = c.self.inside in
    let n = c.args.index in
    IfOk-weaker c.made_entry.result _ _
    (λ d made. subst (λ (h : Indexed). IsEntryAs (λ q. true) (slice_get h.entries n) (source_view d)) c.self.view_is
    (entry_made s.written s.names.items s.supplies.items c.as_slice.result.now n (source_view d) c.as_slice.ensures.value c.self.invariant.0 made)) c.made_entry.ensures
