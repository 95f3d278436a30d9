use Rattle.std.proofs.Common.{◌≡◌, ℕ, refl, sym, ap, subst, ◌∙◌}
use Rattle.std.proofs.lemmas.Result.{err_from_is_err_and}
use Rattle.reference_graph.specs.References.{lists}
use Rattle.biblatex_entries.specs.Entries.{sources_view, HaveJoinedFields}
use Rattle.biblatex.specs.Indices.{meaning_in, names_in, AreWithin}
use Rattle.biblatex_meaning.specs.Listed.{Listed, references}
use Rattle.biblatex.specs.Bibliographies.{Indexed, listed_view, indexed}
use Rattle.biblatex_meaning.specs.Resolved.{IsResolved}
use Rattle.biblatex.proofs.ResolvedEntries.{references_long, resolved_is, refused_is, same_length}
use Rattle.biblatex.proofs.bibliography.Bibliography.resolved.Goals as goal

pub resolve-requires : goal.resolve-requires
resolve-requires c =
    references_long c.deref.result.now c.in_ok-references.references.items (listed_view c.args.self) c.self.inside.entries.items c.deref.ensures.value c.in_ok-references.ensures (ap (λ (h : Indexed). h.entries) c.self.view_is)

pub returns-in_err-entries-clause-err : goal.returns-in_err-entries-clause-err
returns-in_err-entries-clause-err c =
    let p = err_from_is_err_and c.from_residual-in_err-entries.result c.from_residual-in_err-entries.ensures.1 in
    rw (p.1, p.2) (refused_is (listed_view c.args.self) (sources_view c.self.inside.entries.items) (lists c.deref.result.now) c.in_err-entries.field-0.0 (ap (λ (h : Indexed). h.entries) c.self.view_is) (ap lists c.deref.ensures.value ∙ c.in_ok-references.ensures) c.in_err-entries.ensures.refused)

pub invariant_of-result : goal.invariant_of-result
invariant_of-result c =
    (subst (λ (n : ℕ). AreWithin (meaning_in (names_in c.self.inside.names.items)) n) (sym (same_length c.self.inside.entries.items c.in_ok-entries.field-0.entries.items c.in_ok-entries.ensures.heads)) c.self.invariant.0, c.self.invariant.1)

pub returns-clause-ok : goal.returns-clause-ok
returns-clause-ok c =
    let e = c.in_ok-entries.ensures in
    let is : listed_view (indexed c.self.inside.entries.items c.self.inside.names.items) ≡ listed_view c.args.self = ap listed_view c.self.view_is in
    subst (λ (l : Listed). IsResolved l (record { entries = sources_view c.in_ok-entries.field-0.entries.items; index = meaning_in (names_in c.self.inside.names.items) })) is
    (resolved_is (listed_view (indexed c.self.inside.entries.items c.self.inside.names.items)) c.self.inside.entries.items c.in_ok-entries.field-0.entries.items (lists c.deref.result.now)
    refl (ap lists c.deref.ensures.value ∙ (c.in_ok-references.ensures ∙ ap references (sym is))) e.heads e.equation e.only e.acyclic e.readable e.ordered)

pub returns-clause-joined : goal.returns-clause-joined
returns-clause-joined c all = c.in_ok-entries.ensures.joined (subst HaveJoinedFields (sym (ap (λ (h : Indexed). h.entries) c.self.view_is)) all)
