use Rattle.std.proofs.Common.{◌≡◌, ℕ, List, length, sym, ap, subst, ◌∙◌, ◌<◌, Option}
use Rattle.biblatex.specs.Bibliographies.{Indexed}
use Rattle.biblatex.specs.Catalogs.{written_under}
use Rattle.biblatex.specs.Indices.{meaning_in, names_in}
use Rattle.biblatex.specs.declared.indices.NamedIndex.{NamedIndex}
use Rattle.std.specs.Prelude.{IfSome}
use Rattle.biblatex.proofs.CatalogsResolved.{count_kept, names_kept}
use Rattle.biblatex.proofs.catalog.Catalog.index.Goals as goal

pub returns-clause-value : goal.returns-clause-value
returns-clause-value c =
    let b = written_under c.self.inside.written c.self.inside.names.items in
    c.index_in.ensures
    ∙ (ap (λ (ns : List NamedIndex). meaning_in (names_in ns) c.args.name.now) c.as_slice.ensures.value
    ∙ (sym (ap (λ ns. meaning_in ns c.args.name.now) (names_kept b)) ∙ ap (λ (h : Indexed). meaning_in h.names c.args.name.now) c.self.view_is))

pub returns-clause-within : goal.returns-clause-within
returns-clause-within c =
    let b = written_under c.self.inside.written c.self.inside.names.items in
    let name = c.args.name.now in
    let many : length b.entries ≡ length c.args.self.now.entries = sym (count_kept b c.self.invariant.0.acyclic) ∙ ap (λ (h : Indexed). length h.entries) c.self.view_is in
    let is = c.index_in.ensures ∙ ap (λ (ns : List NamedIndex). meaning_in (names_in ns) name) c.as_slice.ensures.value in
    subst (λ (o : Option ℕ). IfSome o (λ i. i < length c.args.self.now.entries)) (sym is) (subst (λ (n : ℕ). IfSome (meaning_in b.names name) (λ i. i < n)) many (c.self.invariant.0.within name))
