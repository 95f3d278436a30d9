-- Each text means something.
use Rattle.std.proofs.Common.{◌≡◌, ℕ, zero, suc, ◌<◌, true≢false, List, [], ◌∷◌, length, slice_get, option_map, Option, Some, None, Result, Ok, Err, ◌⊎◌, inl, inr, refl, sym, ap, subst, arith}
use Rattle.std.specs.Option.{is_some}
use Rattle.std.proofs.lemmas.List.{length-map}
use Rattle.laws.specs.Text.{text}
use Rattle.biblatex_text.specs.Raw.{At, Raw}
use Rattle.biblatex_text.specs.Items.{raw_of}
use Rattle.biblatex_text.specs.declared.token.Fault.{Fault}
use Rattle.biblatex_fields.specs.Abbreviations.{Glossary, references as references_in}
use Rattle.biblatex_entries.specs.Entries.{Source}
use Rattle.reference_graph.specs.References.{IsCircular}
use Rattle.biblatex_inheritance.specs.Resolved.{Table}
use Rattle.biblatex_inheritance.specs.Solution.{NoneIsCircular, IsRefusedAs, fault_at}
use Rattle.biblatex_inheritance.specs.declared.error.DateFault.{DateFault}
use Rattle.biblatex_inheritance.specs.declared.error.ResolveError.TheVariants as errors
use Rattle.biblatex_inheritance.proofs.SolutionAlong.{circular_below, fault_within}
use Rattle.biblatex_meaning.specs.Listed.{Listed, references}
use Rattle.biblatex_meaning.specs.Reading.{Refusal, refused_at, raw, reference_cycle, unreadable_date, Loaded, loaded}
use Rattle.biblatex_meaning.specs.Resolved.{tables, ComesTo, Means, IsMeaningOf, IsTextMeaningOf, TextMeans}
use Rattle.biblatex_meaning.proofs.ResolvedUnique.{one_meaning}
use Rattle.biblatex_meaning.specs.Solutions.{AreResolved}
use Rattle.biblatex_meaning.specs.Meanings.{IsWellRead, HasOneMeaning}
use Rattle.biblatex_meaning.proofs.Decided.{Decided, FirstBelow, NoneBelow, first_or_none}
use Rattle.biblatex_meaning.proofs.Walks.{circular}
use Rattle.biblatex_meaning.proofs.Flags.{marks_of, flags_there}
use Rattle.biblatex_meaning.proofs.Entries.{resolved_entries, entries_resolved}
use Rattle.biblatex_meaning.proofs.Reading.{read_well}

-- there is an answer that entries come to
abbrev Comes : Loaded → Type 0
Comes read = (answer : Result Listed Refusal) × ComesTo read answer

key_there : {X : Type 0} (xs : List X) (n : ℕ) → n < length xs → (x : X) × (slice_get xs n ≡ Some x)
key_there [] n low = absurd (omega (arith, low))
key_there (x ∷ xs) zero low = (x, refl)
key_there (x ∷ xs) (suc n) low = key_there xs n (omega (arith, low))

-- an entry that is refused has a key, where the refusal stands
circular_comes : (read : Loaded) → length read.keys ≡ length read.listed.entries → (n : ℕ) → IsRefusedAs read.listed.entries (references read.listed) (errors.ReferenceCycle n) → Comes read
circular_comes read long n why =
    let key = key_there read.keys n (omega (arith, long, why.0)) in
    (Err (refused_at key.0 (reference_cycle (text key.0.v))), record { error = errors.ReferenceCycle n; why = why; refusal = ap (option_map (λ (k : At (List ℕ)). refused_at k (reference_cycle (text k.v)))) key.1 })

unreadable_comes : (read : Loaded) → length read.keys ≡ length read.listed.entries → (f : DateFault) → f.reference < length read.listed.entries → IsRefusedAs read.listed.entries (references read.listed) (errors.UnreadableDate f) → Comes read
unreadable_comes read long f low why =
    let key = key_there read.keys f.reference (omega (arith, long, low)) in
    (Err (refused_at key.0 (unreadable_date f.kind)), record { error = errors.UnreadableDate f; why = why; refusal = ap (option_map (λ (k : At (List ℕ)). refused_at k (unreadable_date f.kind))) key.1 })

-- whether an entry has a fault
abbrev Faulty : List Source → List (List ℕ) → (ℕ → Table) → ℕ → Type 0
Faulty es R see n = (f : DateFault) × (fault_at es R see n ≡ Some f)

faulty : (o : Option DateFault) → Decided ((f : DateFault) × (o ≡ Some f))
faulty None = inr (λ h. true≢false (sym (ap is_some h.1)))
faulty (Some f) = inl (f, refl)

no_fault : (o : Option DateFault) → ((f : DateFault) × (o ≡ Some f) → ⊥) → o ≡ None
no_fault None none = refl
no_fault (Some f) none = absurd (none (f, refl))

-- entries of which none reaches itself come to an answer
acyclic_comes : (read : Loaded) → length read.keys ≡ length read.listed.entries → NoneIsCircular (references read.listed) → Comes read
acyclic_comes read long none = by (first_or_none (Faulty es R see) (λ n. faulty (fault_at es R see n)) (length es))
  where
    es : List Source
    es = read.listed.entries

    R : List (List ℕ)
    R = references read.listed

    resolved : AreResolved es R (resolved_entries es R)
    resolved = entries_resolved es R (length-map es _) none

    see : ℕ → Table
    see = tables (resolved_entries es R)

    by : FirstBelow (Faulty es R see) (length es) ⊎ NoneBelow (Faulty es R see) (length es) → Comes read
    by (inl (n, low, (f, at), before)) =
        unreadable_comes read long f (fault_within es R see n f at) (none, (see, resolved.equation, resolved.only, (n, at, λ k less. no_fault (fault_at es R see k) (before k less))))
    by (inr readable) = (
      Ok (record { entries = resolved_entries es R; index = read.listed.index }),
      record {
        heads = resolved.heads;
        index = refl;
        equation = resolved.equation;
        only = resolved.only;
        ordered = resolved.ordered;
        acyclic = none;
        readable = λ i low. no_fault (fault_at es R see i) (readable i low);
      },
    )

-- entries that were read come to an answer
pub comes : (read : Loaded) → IsWellRead read → Comes read
comes read well = by (first_or_none (IsCircular R) (circular R) (length read.listed.entries))
  where
    R : List (List ℕ)
    R = references read.listed

    none_circular : NoneBelow (IsCircular R) (length read.listed.entries) → NoneIsCircular R
    none_circular none i c =
        let low = circular_below R i c in
        let same : length R ≡ length read.listed.entries = length-map read.listed.entries _ in
        none i (omega (arith, low, same)) c

    by : FirstBelow (IsCircular R) (length read.listed.entries) ⊎ NoneBelow (IsCircular R) (length read.listed.entries) → Comes read
    by (inl (n, low, c, before)) = circular_comes read well.keys n (low, c, before)
    by (inr none) = acyclic_comes read well.keys (none_circular none)

-- a raw text means something
pub raw_meaning : (r : Raw) → (answer : Result Listed Refusal) × IsMeaningOf r answer
raw_meaning r = by (loaded g r.entries) refl
  where
    g : Glossary
    g = record { definitions = r.abbreviations; flags = marks_of (references_in r.abbreviations) }

    of_means : (x : Result Loaded Refusal) (answer : Result Listed Refusal) → loaded g r.entries ≡ x → Means x answer → IsMeaningOf r answer
    of_means x answer is means = record {
      glossary = g;
      definitions = refl;
      flags = flags_there r.abbreviations;
      means = subst (λ (y : Result Loaded Refusal). Means y answer) (sym is) means;
    }

    by : (x : Result Loaded Refusal) → loaded g r.entries ≡ x → (answer : Result Listed Refusal) × IsMeaningOf r answer
    by (Err refusal) is = (Err refusal, of_means (Err refusal) (Err refusal) is refl)
    by (Ok read) is =
        let well = read_well g read r.entries is in
        let come = comes read well in
        (come.0, of_means (Ok read) come.0 is (well.names, come.1))

-- a text means something
pub text_meaning : (cs : List ℕ) → (answer : Result Listed Refusal) × TextMeans cs answer
text_meaning cs = by (raw_of cs)
  where
    by : (x : Result Raw (Fault × ℕ)) → (answer : Result Listed Refusal) × IsTextMeaningOf x answer
    by (Ok r) = raw_meaning r
    by (Err f) = (Err (record { reason = raw f.0; start = f.1; end = f.1 }), refl)

pub one_meaning_there : (cs : List ℕ) → HasOneMeaning cs
one_meaning_there cs =
    let there = text_meaning cs in
    record { answer = there.0; means = there.1; only = λ other means. one_meaning cs other there.0 means there.1 }
