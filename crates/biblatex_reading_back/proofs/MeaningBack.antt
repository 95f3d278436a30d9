-- What a written file means.
use Rattle.std.proofs.Common.{◌≡◌, ℕ, zero, suc, ◌<◌, Bool, true, false, List, [], ◌∷◌, ◌++◌, map, length, slice_get, Option, Some, None, option_map, Result, Ok, codes, bytes_eq, refl, sym, ap, subst, ◌∙◌, arith}
use Rattle.std.specs.Prelude.{filter_map, if◌then◌else◌, IfSome}
use Rattle.std.specs.List.{AllByRecursion}
use Rattle.std.proofs.lemmas.Slice.Eq.{bytes_eq-Decides}
use Rattle.reference_graph.specs.References.{references_of}
use Rattle.biblatex_dates.specs.declared.date.Date.{Date}
use Rattle.biblatex_text.specs.Raw.{Raw}
use Rattle.biblatex_text.specs.Items.{raw_of}
use Rattle.biblatex_text.specs.declared.token.Fault.{Fault}
use Rattle.biblatex_fields.specs.Abbreviations.{Glossary, AreFlags}
use Rattle.biblatex_fields.specs.Fields.{value_named, AreInOrder}
use Rattle.biblatex_fields.specs.Refusals.{Refusal}
use Rattle.biblatex_fields.specs.Value.{Value}
use Rattle.biblatex_entries.specs.Entries.{Source, parents_of, text_in}
use Rattle.biblatex_entries.specs.Names.{trimmed, listed}
use Rattle.biblatex_entries.specs.Roles.{role_of}
use Rattle.biblatex_inheritance.specs.Resolved.{own, first, undated, dated, resolved, needs_date, first_fault, offers}
use Rattle.biblatex_inheritance.specs.Solution.{Solves, IsOnly, NoneIsCircular, fault_in, fault_at}
use Rattle.biblatex_meaning.specs.Listed.{Listed, references}
use Rattle.biblatex_meaning.specs.Reading.{Loaded, loaded}
use Rattle.biblatex_meaning.specs.Resolved.{table_of, tables, IsResolved, Means, IsMeaningOf, IsTextMeaningOf, TextMeans}
use Rattle.biblatex_meaning.proofs.Reading.{read_well}
use Rattle.biblatex_reading_back.proofs.EntriesBack.{IsAlone, nothing_listed, nothing_trimmed, not_named, no_crossref, no_xdata}

-- an entry that names no others has no parents
no_parents : (e : Source) → IsAlone e → parents_of e.fields ≡ []
no_parents e alone =
    ap (λ (v : Option Value). trimmed (text_in (option_map (λ x. x.text) v)) ++ listed (text_in (option_map (λ x. x.text) (value_named (codes "xdata") e.fields)))) (not_named (codes "crossref") e.fields no_crossref alone)
    ∙ (ap (λ (v : Option Value). trimmed [] ++ listed (text_in (option_map (λ x. x.text) v))) (not_named (codes "xdata") e.fields no_xdata alone)
    ∙ (ap (λ (x : List (List ℕ)). x ++ listed []) nothing_trimmed ∙ nothing_listed))

-- no references
abbrev none_of : List Source → List (List ℕ)
none_of es = map (λ (e : Source). []) es

no_references : (index : List ℕ → Option ℕ) (es : List Source) → AllByRecursion IsAlone es → map (λ (e : Source). filter_map index (parents_of e.fields)) es ≡ none_of es
no_references index [] all = refl
no_references index (e ∷ es) all = λ i. filter_map index (no_parents e all.0 i) ∷ no_references index es all.1 i

none_at : (es : List Source) (i : ℕ) → references_of (none_of es) i ≡ []
none_at [] i = refl
none_at (e ∷ es) zero = refl
none_at (e ∷ es) (suc i) = none_at es i

-- without references an entry is what it says itself
no_date : (b : Bool) → ◌≡◌ {A = Option Date} (if b then None else None) None
no_date true = refl
no_date false = refl

first_alone : (v : Option Value) → first v None ≡ v
first_alone None = refl
first_alone (Some v) = refl

own_alone : (e : Source) (name : List ℕ) → IsAlone e → own e name ≡ value_named name e.fields
own_alone e name alone = by_test (bytes_eq name (codes "xdata")) refl
  where
    by_test : (b : Bool) → bytes_eq name (codes "xdata") ≡ b → (if b then None else value_named name e.fields) ≡ value_named name e.fields
    by_test true is = sym (ap (λ (n : List ℕ). value_named n e.fields) ((bytes_eq-Decides name (codes "xdata")).0 is) ∙ not_named (codes "xdata") e.fields no_xdata alone)
    by_test false is = refl

resolved_alone : (e : Source) (name : List ℕ) → IsAlone e → resolved e [] name ≡ value_named name e.fields
resolved_alone e name alone =
    ap (λ d. dated d (undated e []) name) (no_date (needs_date (role_of e.entry_type))) ∙ (first_alone (own e name) ∙ own_alone e name alone)

-- an entry at an index names no others, and has its fields in order
at_index : (P : Source → Type 0) (es : List Source) → AllByRecursion P es → (i : ℕ) → IfSome (slice_get es i) P
at_index P [] all i = tt
at_index P (e ∷ es) all zero = all.0
at_index P (e ∷ es) all (suc i) = at_index P es all.1 i

solves : (es : List Source) → AllByRecursion IsAlone es → Solves es (none_of es) (tables es)
solves es all i = by_entry (slice_get es i) (at_index IsAlone es all i)
  where
    by_entry : (o : Option Source) → IfSome o IsAlone → IfSome o (λ e. (name : List ℕ) → table_of o name ≡ resolved e (offers es (tables es) (references_of (none_of es) i)) name)
    by_entry None alone = tt
    by_entry (Some e) alone = λ name. sym (ap (λ (rs : List ℕ). resolved e (offers es (tables es) rs) name) (none_at es i) ∙ resolved_alone e name alone)

-- there is an entry at an index below the count
is_there : (es : List Source) (i : ℕ) → i < length es → slice_get es i ≡ None → ⊥
is_there [] i below none = absurd (omega (arith, below))
is_there (e ∷ es) zero below none = cc
is_there (e ∷ es) (suc i) below none = is_there es i (omega (arith, below)) none

only : (es : List Source) → AllByRecursion IsAlone es → IsOnly es (none_of es) (tables es)
only es all other solved i below name = by_entry (slice_get es i) refl (at_index IsAlone es all i) (solved i)
  where
    by_entry : (o : Option Source) → slice_get es i ≡ o → IfSome o IsAlone → IfSome o (λ e. (n : List ℕ) → other i n ≡ resolved e (offers es other (references_of (none_of es) i)) n) → table_of o name ≡ other i name
    by_entry None is alone solution = absurd (is_there es i below is)
    by_entry (Some e) is alone solution = sym (solution name ∙ (ap (λ (rs : List ℕ). resolved e (offers es other rs) name) (none_at es i) ∙ resolved_alone e name alone))

acyclic : (es : List Source) → NoneIsCircular (none_of es)
acyclic es i (n, (c, there, walk)) =
    let within : there.0 < length (references_of (none_of es) i) = there.1 in
    let none : length (references_of (none_of es) i) ≡ 0 = ap length (none_at es i) in
    absurd (omega (arith, within, none))

readable : (es : List Source) (i : ℕ) → fault_at es (none_of es) (tables es) i ≡ None
readable es i = ap (λ (rs : List ℕ). fault_in (slice_get es i) (offers es (tables es) rs)) (none_at es i) ∙ by_entry (slice_get es i)
  where
    by_entry : (o : Option Source) → fault_in o [] ≡ None
    by_entry None = refl
    by_entry (Some e) = by_role (needs_date (role_of e.entry_type))
      where
        by_role : (b : Bool) → (if b then first_fault [] else None) ≡ None
        by_role true = refl
        by_role false = refl

-- entries that name no others are resolved as they are
resolved_itself : (read : Listed) → AllByRecursion IsAlone read.entries → AllByRecursion (λ e. AreInOrder e.fields) read.entries → IsResolved read read
resolved_itself read all sorted =
    let es = read.entries in
    let none : references read ≡ none_of es = no_references read.index es all in
    record {
      heads = refl;
      index = refl;
      equation = subst (λ (rs : List (List ℕ)). Solves es rs (tables es)) (sym none) (solves es all);
      only = subst (λ (rs : List (List ℕ)). IsOnly es rs (tables es)) (sym none) (only es all);
      ordered = at_index (λ e. AreInOrder e.fields) es sorted;
      acyclic = subst NoneIsCircular (sym none) (acyclic es);
      readable = λ i below. ap (λ (rs : List (List ℕ)). fault_at es rs (tables es) i) none ∙ readable es i;
    }

-- a text without abbreviations, of which these entries were read
pub meant : (cs : List ℕ) (raw : Raw) (read : Loaded) → raw_of cs ≡ Ok raw → raw.abbreviations ≡ []
    → loaded (record { definitions = []; flags = [] }) raw.entries ≡ Ok read → AllByRecursion IsAlone read.listed.entries → AllByRecursion (λ e. AreInOrder e.fields) read.listed.entries → TextMeans cs (Ok read.listed)
meant cs raw read is none all alone sorted =
    let g : Glossary = record { definitions = []; flags = [] } in
    let flags : AreFlags [] [] = record { long = refl; exact = λ index below. absurd (omega (arith, below)) } in
    let means : Means (Ok read) (Ok read.listed) = ((read_well g read raw.entries all).names, resolved_itself read.listed alone sorted) in
    let whole : IsMeaningOf raw (Ok read.listed) = record { glossary = g; definitions = sym none; flags = flags; means = subst (λ (r : Result Loaded Refusal). Means r (Ok read.listed)) (sym all) means } in
    subst (λ (r : Result Raw (Fault × ℕ)). IsTextMeaningOf r (Ok read.listed)) (sym is) whole
