-- Entries whose fields are the solution.
use Rattle.std.proofs.Common.{◌≡◌, ℕ, zero, suc, ◌≤◌, false, List, [], ◌∷◌, length, map, slice_get, Option, Some, None, bytes_eq, refl, sym, ap, subst, arith}
use Rattle.std.specs.Prelude.{IfSome}
use Rattle.std.specs.List.{list_any}
use Rattle.std.proofs.Math.Path.{fun_ext}
use Rattle.std.proofs.lemmas.Option.{slice_get_past}
use Rattle.reference_graph.specs.References.{references_of}
use Rattle.biblatex_fields.specs.Fields.{AreInOrder}
use Rattle.biblatex_entries.specs.Entries.{Source}
use Rattle.biblatex_entries.specs.TypeNames.{TypeName}
use Rattle.biblatex_inheritance.specs.Resolved.{Table, offers}
use Rattle.biblatex_inheritance.specs.Solution.{Solves, IsOnly, NoneIsCircular}
use Rattle.biblatex_meaning.specs.Resolved.{head, tables}
use Rattle.biblatex_meaning.specs.Solutions.{AreResolved}
use Rattle.biblatex_meaning.proofs.Solving.{resolved_in, rule, no_fields, solution_of, solved, only}
use Rattle.biblatex_meaning.proofs.Sorted.{ordered_fields, fields_sorted, fields_is}
use Rattle.biblatex_meaning.proofs.Names.{names_in, none_outside}
use Rattle.biblatex_meaning.proofs.Equation.{iterated}

-- entries with the fields of tables, under listed names
abbrev pub entries_fields : List (List ℕ) → (ℕ → Table) → List Source → List Source
entries_fields names see [] = []
entries_fields names see (e ∷ es) = record { key = e.key; entry_type = e.entry_type; fields = ordered_fields names (see 0) } ∷ entries_fields names (λ i. see (suc i)) es

entries_fields_heads : (names : List (List ℕ)) (see : ℕ → Table) (es : List Source) → map head (entries_fields names see es) ≡ map head es
entries_fields_heads names see [] = refl
entries_fields_heads names see (e ∷ es) = ap (λ (hs : List (List ℕ × TypeName)). head e ∷ hs) (entries_fields_heads names (λ i. see (suc i)) es)

entries_fields_ordered : (names : List (List ℕ)) (see : ℕ → Table) (es : List Source) (i : ℕ) → IfSome (slice_get (entries_fields names see es) i) (λ e. AreInOrder e.fields)
entries_fields_ordered names see [] i = tt
entries_fields_ordered names see (e ∷ es) zero = fields_sorted names (see 0)
entries_fields_ordered names see (e ∷ es) (suc i) = entries_fields_ordered names (λ k. see (suc k)) es i

-- tables that have values under these names alone, and for entries alone
entries_fields_view : (names : List (List ℕ)) (see : ℕ → Table) (es : List Source) → ((i : ℕ) (q : List ℕ) → list_any (bytes_eq q) names ≡ false → see i q ≡ None)
    → ((i : ℕ) (q : List ℕ) → length es ≤ i → see i q ≡ None) → (i : ℕ) (q : List ℕ) → tables (entries_fields names see es) i q ≡ see i q
entries_fields_view names see [] outside past i q = sym (past i q (omega arith))
entries_fields_view names see (e ∷ es) outside past zero q = fields_is names (see 0) q (outside 0 q)
entries_fields_view names see (e ∷ es) outside past (suc i) q =
    entries_fields_view names (λ k. see (suc k)) es (λ k. outside (suc k)) (λ k p above. past (suc k) p (omega (arith, above))) i q

none_past : (es : List Source) (R : List (List ℕ)) (i : ℕ) (q : List ℕ) → length es ≤ i → solution_of es R i q ≡ None
none_past es R i q past = by (slice_get es i) (slice_get_past es i past)
  where
    by : (o : Option Source) → o ≡ None → resolved_in o (offers es (iterated (rule es R) no_fields (length R)) (references_of R i)) q ≡ None
    by None is = refl
    by (Some e) is = absurd cc

-- the entries that the solution is
abbrev pub resolved_entries : List Source → List (List ℕ) → List Source
resolved_entries es R = entries_fields (names_in es) (solution_of es R) es

view_as : (es : List Source) (R : List (List ℕ)) → tables (resolved_entries es R) ≡ solution_of es R
view_as es R = fun_ext (λ i. fun_ext (entries_fields_view (names_in es) (solution_of es R) es (none_outside es R) (none_past es R) i))

pub entries_resolved : (es : List Source) (R : List (List ℕ)) → length R ≡ length es → NoneIsCircular R → AreResolved es R (resolved_entries es R)
entries_resolved es R same none = record {
  heads = entries_fields_heads (names_in es) (solution_of es R) es;
  equation = subst (Solves es R) (sym (view_as es R)) (solved es R same none);
  only = subst (IsOnly es R) (sym (view_as es R)) (only es R same none);
  ordered = entries_fields_ordered (names_in es) (solution_of es R) es;
}
