use Rattle.std.proofs.Common.{slice_get, option_map, sym, ap, ◌∙◌}
use Rattle.biblatex.specs.Bibliographies.{Indexed}
use Rattle.biblatex.specs.Catalogs.{written_under}
use Rattle.biblatex_meaning.specs.Resolved.{head}
use Rattle.biblatex.proofs.CatalogsEntries.{head_kept, head_of}
use Rattle.biblatex.proofs.catalog.Catalog.written.Goals as goal

pub returns : goal.returns
returns c =
    let w = c.self.inside.written in
    let n = c.args.index in
    head_of w n c.entry_at.result c.entry_at.ensures
    ∙ (sym (head_kept (written_under w c.self.inside.names.items) n c.self.invariant.0.acyclic) ∙ ap (λ (h : Indexed). option_map head (slice_get h.entries n)) c.self.view_is)
