use Rattle.std.proofs.Common.{◌≡◌, ℕ, Vec, Global, length, refl, sym, ap, subst, ◌∙◌}
use Rattle.std.proofs.lemmas.List.{length-map}
use Rattle.std.proofs.lemmas.Result.{err_from_is_err_and}
use Rattle.reference_graph.specs.References.{lists}
use Rattle.biblatex_entries.specs.Entries.{source_view, sources_view}
use Rattle.biblatex_suppliers.specs.Written.{all_with}
use Rattle.biblatex_suppliers.proofs.WrittenEntries.{all_long}
use Rattle.biblatex_meaning.specs.Listed.{references}
use Rattle.biblatex_meaning.specs.Resolved.{IsResolved}
use Rattle.biblatex.specs.Bibliographies.{Indexed, listed_view, indexed}
use Rattle.biblatex.specs.Loading.{whole}
use Rattle.biblatex.proofs.LoadingApart.{references_alike, within_apart}
use Rattle.biblatex.proofs.ResolvedEntries.{references_long, refused_is}
use Rattle.biblatex.proofs.CatalogsResolved.{catalog_is, catalog_resolved, refused_by}
use Rattle.biblatex.proofs.bibliography.Bibliography.cataloged.Goals as goal

pub all_supplies-requires : goal.all_supplies-requires
all_supplies-requires c =
    let es = c.self.inside.entries.items in
    let vs = c.args.shared.items in
    let long = references_long c.deref.result.now c.in_ok-references.references.items (listed_view c.args.self) es c.deref.ensures.value c.in_ok-references.ensures (ap (λ (h : Indexed). h.entries) c.self.view_is) in
    long ∙ sym (all_long (sources_view es) vs ∙ length-map es source_view)

pub returns-in_err-supplies-clause-err : goal.returns-in_err-supplies-clause-err
returns-in_err-supplies-clause-err c =
    let p = err_from_is_err_and c.from_residual-in_err-supplies.result c.from_residual-in_err-supplies.ensures.1 in
    let es = c.self.inside.entries.items in
    let vs = c.args.shared.items in
    let refs = c.deref.result.now in
    let b = whole c.args.self vs in
    let is_es = ap (λ (h : Indexed). all_with h.entries vs) c.self.view_is in
    let is_R = ap lists c.deref.ensures.value ∙ (c.in_ok-references.ensures ∙ references_alike c.args.self vs c.requires) in
    let long = references_long refs c.in_ok-references.references.items (listed_view c.args.self) es c.deref.ensures.value c.in_ok-references.ensures (ap (λ (h : Indexed). h.entries) c.self.view_is) in
    let same : length (lists refs) ≡ length (all_with (sources_view es) vs) = length-map refs (λ (v : Vec ℕ Global). v.items) ∙ (long ∙ sym (all_long (sources_view es) vs ∙ length-map es source_view)) in
    rw (p.1, p.2) (refused_is (listed_view b) (all_with (sources_view es) vs) (lists refs) c.in_err-supplies.field-0.0 is_es is_R
    (refused_by (all_with (sources_view es) vs) (lists refs) c.in_err-supplies.field-0.0 same c.in_err-supplies.ensures.refused))

pub of-requires-clause-catalog : goal.of-requires-clause-catalog
of-requires-clause-catalog c =
    let vs = c.args.shared.items in
    let b = indexed c.self.inside.entries.items c.self.inside.names.items in
    let is : listed_view (whole b vs) ≡ listed_view (whole c.args.self vs) = ap (λ (h : Indexed). listed_view (whole h vs)) c.self.view_is in
    let e = c.in_ok-supplies.ensures in
    catalog_is (whole b vs) (whole b vs).entries (lists c.deref.result.now) c.in_ok-supplies.supplies.items refl (ap lists c.deref.ensures.value ∙ (c.in_ok-references.ensures ∙ (references_alike c.args.self vs c.requires ∙ ap references (sym is))))
    (within_apart b vs c.self.invariant.0) e.acyclic e.seen

pub returns-clause-ok : goal.returns-clause-ok
returns-clause-ok c =
    let vs = c.args.shared.items in
    let b = indexed c.self.inside.entries.items c.self.inside.names.items in
    let is : listed_view (whole b vs) ≡ listed_view (whole c.args.self vs) = ap (λ (h : Indexed). listed_view (whole h vs)) c.self.view_is in
    let e = c.in_ok-supplies.ensures in
    subst (λ (h : Indexed). IsResolved (listed_view (whole c.args.self vs)) (listed_view h)) (sym c.of.ensures)
    (catalog_resolved (whole b vs) (whole b vs).entries (lists c.deref.result.now) (listed_view (whole c.args.self vs)) refl
    (ap lists c.deref.ensures.value ∙ (c.in_ok-references.ensures ∙ (references_alike c.args.self vs c.requires ∙ ap references (sym is)))) is e.acyclic e.readable)
