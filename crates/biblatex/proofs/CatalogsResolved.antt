-- A catalog of entries whose references can be resolved.
use Rattle.std.proofs.Common.{◌≡◌, ℕ, ◌<◌, List, length, None, refl, sym, ap, subst, ◌∙◌, arith}
use Rattle.std.proofs.lemmas.List.{length-map}
use Rattle.biblatex_entries.specs.Entries.{Source}
use Rattle.biblatex_inheritance.specs.Resolved.{Table}
use Rattle.biblatex_inheritance.specs.Solution.{Solves, NoneIsCircular, IsRefusedAs, fault_at}
use Rattle.biblatex_inheritance.specs.declared.error.ResolveError.{ResolveError}
use Rattle.biblatex_inheritance.specs.declared.error.ResolveError.TheVariants as errors
use Rattle.biblatex_suppliers.specs.Seen.{IsSeen, IsRefusedBySolutions}
use Rattle.biblatex_suppliers.specs.declared.supplier.Supplies.{Supplies}
use Rattle.biblatex_meaning.specs.Listed.{Listed, references}
use Rattle.biblatex_meaning.specs.Resolved.{head, tables, IsResolved}
use Rattle.biblatex_meaning.specs.Solutions.{AreResolved}
use Rattle.biblatex_meaning.proofs.Entries.{entries_resolved}
use Rattle.biblatex_meaning.proofs.Solving.{solution_of, solved, only}
use Rattle.biblatex.specs.Bibliographies.{Indexed, listed_view, IsWithin}
use Rattle.biblatex.specs.Catalogs.{resolved_of, IsCatalog}

-- the entries of a catalog are resolved
pub are_resolved : (b : Indexed) → NoneIsCircular (references (listed_view b)) → AreResolved b.entries (references (listed_view b)) (resolved_of b).entries
unfolding resolved_of
are_resolved b none = entries_resolved b.entries (references (listed_view b)) (length-map b.entries _) none

pub names_kept : (b : Indexed) → (resolved_of b).names ≡ b.names
unfolding resolved_of
names_kept b = refl

-- as many entries as are written
pub count_kept : (b : Indexed) → NoneIsCircular (references (listed_view b)) → length (resolved_of b).entries ≡ length b.entries
count_kept b none = sym (length-map (resolved_of b).entries head) ∙ (ap length (are_resolved b none).heads ∙ length-map b.entries head)

-- an index of an entry that is resolved is one of an entry that is written
pub low_kept : (b h : Indexed) (n : ℕ) → NoneIsCircular (references (listed_view b)) → resolved_of b ≡ h → n < length h.entries → n < length b.entries
low_kept b h n none is low =
    let many : length h.entries ≡ length b.entries = sym (ap (λ (x : Indexed). length x.entries) is) ∙ count_kept b none in
    omega (arith, many, low)

-- what was found of entries with their references makes a catalog
pub catalog_is : (b : Indexed) (es : List Source) (R : List (List ℕ)) (ss : List Supplies) → es ≡ b.entries → R ≡ references (listed_view b) → IsWithin b → NoneIsCircular R → ((see : ℕ → Table) → Solves es R see → IsSeen es see ss) → IsCatalog b ss
catalog_is b es R ss is_es is_R within none seen = record {
  within = within;
  acyclic = subst NoneIsCircular is_R none;
  seen = by_entries (tables (resolved_of b).entries) (are_resolved b (subst NoneIsCircular is_R none)).equation;
}
  where
    by_references : (see : ℕ → Table) → Solves es (references (listed_view b)) see → IsSeen es see ss
    by_references = subst (λ (x : List (List ℕ)). (see : ℕ → Table) → Solves es x see → IsSeen es see ss) is_R seen

    by_entries : (see : ℕ → Table) → Solves b.entries (references (listed_view b)) see → IsSeen b.entries see ss
    by_entries = subst (λ (x : List Source). (see : ℕ → Table) → Solves x (references (listed_view b)) see → IsSeen x see ss) is_es by_references

-- its entries are those that were read, with their references resolved
pub catalog_resolved : (b : Indexed) (es : List Source) (R : List (List ℕ)) (read : Listed) → es ≡ b.entries → R ≡ references (listed_view b) → listed_view b ≡ read → NoneIsCircular R
    → ((see : ℕ → Table) → Solves es R see → (i : ℕ) → i < length es → fault_at es R see i ≡ None) → IsResolved read (listed_view (resolved_of b))
unfolding resolved_of
catalog_resolved b es R read is_es is_R is none readable = subst (λ (l : Listed). IsResolved l (listed_view (resolved_of b))) is (record {
  heads = resolved.heads;
  index = refl;
  equation = resolved.equation;
  only = resolved.only;
  ordered = resolved.ordered;
  acyclic = acyclic;
  readable = by_entries (tables (resolved_of b).entries) resolved.equation;
})
  where
    acyclic : NoneIsCircular (references (listed_view b))
    acyclic = subst NoneIsCircular is_R none

    resolved : AreResolved b.entries (references (listed_view b)) (resolved_of b).entries
    resolved = are_resolved b acyclic

    by_references : (see : ℕ → Table) → Solves es (references (listed_view b)) see → (i : ℕ) → i < length es → fault_at es (references (listed_view b)) see i ≡ None
    by_references = subst (λ (x : List (List ℕ)). (see : ℕ → Table) → Solves es x see → (i : ℕ) → i < length es → fault_at es x see i ≡ None) is_R readable

    by_entries : (see : ℕ → Table) → Solves b.entries (references (listed_view b)) see → (i : ℕ) → i < length b.entries → fault_at b.entries (references (listed_view b)) see i ≡ None
    by_entries = subst (λ (x : List Source). (see : ℕ → Table) → Solves x (references (listed_view b)) see → (i : ℕ) → i < length x → fault_at x (references (listed_view b)) see i ≡ None) is_es by_references

-- what is refused whichever solution there is, is refused, since there is one
pub refused_by : (es : List Source) (R : List (List ℕ)) (e : ResolveError) → length R ≡ length es → IsRefusedBySolutions es R e → IsRefusedAs es R e
refused_by es R errors.Memory same is = tt
refused_by es R (errors.ReferenceCycle n) same is = is
refused_by es R (errors.UnreadableDate f) same (none, first) = (none, (solution_of es R, solved es R same none, only es R same none, first (solution_of es R) (solved es R same none)))
