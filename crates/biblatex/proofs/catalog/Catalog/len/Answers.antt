use Rattle.std.proofs.Common.{length, sym, ap, ◌∙◌}
use Rattle.biblatex.specs.Bibliographies.{Indexed}
use Rattle.biblatex.specs.Catalogs.{written_under}
use Rattle.biblatex.proofs.CatalogsResolved.{count_kept}
use Rattle.biblatex.proofs.catalog.Catalog.len.Goals as goal

pub returns : goal.returns
returns c =
    let b = written_under c.self.inside.written c.self.inside.names.items in
    c.len.ensures ∙ (sym (count_kept b c.self.invariant.0.acyclic) ∙ ap (λ (h : Indexed). length h.entries) c.self.view_is)
