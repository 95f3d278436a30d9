-- Entries that are read one after the other.
use Rattle.std.proofs.Common.{◌≡◌, ℕ, suc, ◌+◌, ◌<◌, Bool, true, false, List, [], ◌∷◌, ◌++◌, length, Option, Some, None, Result, Ok, Err, refl, sym, ap, subst, arith}
use Rattle.std.specs.Prelude.{is_some, IfSome}
use Rattle.laws.specs.Results.{◌>>=◌}
use Rattle.laws.specs.Text.{text}
use Rattle.biblatex_text.specs.Raw.{At, Entry, Raw}
use Rattle.biblatex_fields.specs.Abbreviations.{Glossary, AreFlags}
use Rattle.biblatex_fields.specs.Fields.{Named, fields_of}
use Rattle.biblatex_entries.specs.Entries.{Source}
use Rattle.biblatex_inheritance.specs.Solution.{IsRefusedAs}
use Rattle.biblatex_inheritance.specs.declared.error.ResolveError.{ResolveError}
use Rattle.biblatex_inheritance.specs.declared.error.ResolveError.TheVariants as errors
use Rattle.biblatex_inheritance.proofs.SolutionAlong.{fault_within}
use Rattle.biblatex_meaning.specs.Listed.{Listed, pushed, IsAsRead, references}
use Rattle.biblatex_meaning.specs.Reading.{Refusal, Loaded, nothing_loaded, source_of, unless_known, entry_after, entries_after, loaded}
use Rattle.biblatex_meaning.specs.Resolved.{number_of, unresolved_at, ComesTo, Means, IsMeaningOf}
use Rattle.biblatex_meaning.proofs.ListedNames.{length_last}
use Rattle.biblatex_meaning.proofs.ListedNames.{pushed-read}

abbrev inner : Loaded → Result Loaded Refusal → Loaded
inner d (Ok l) = l
inner d (Err r) = d

abbrev Same : Result Loaded Refusal → Result Loaded Refusal → Type 0
Same a b = a ≡ b

-- equal answers have equal values
ok_same : (l m : Loaded) → Same (Ok l) (Ok m) → l ≡ m
ok_same l m e = ap (inner l) e

-- one reading has n entries and n keys more than another
pub record More (l m : Loaded) (n : ℕ) : Type 0 where
  pub entries : length m.listed.entries ≡ length l.listed.entries + n
  pub keys : length m.keys ≡ length l.keys + n

one_more : (g : Glossary) (l m : Loaded) (e : Entry) → entry_after g l e ≡ Ok m → More l m 1
one_more g l m e is = by_fields (fields_of g e.fields) is
  where
    added : (s : Source) → More l (record { listed = pushed s l.listed; keys = l.keys ++ e.key ∷ [] }) 1
    added s = let a = length_last l.listed.entries s in let b = length_last l.keys e.key in record { entries = omega (arith, a); keys = omega (arith, b) }

    by_key : (fs : List Named) (b : Bool) → unless_known b l e.key (source_of e fs) ≡ Ok m → More l m 1
    by_key fs true is = absurd cc
    by_key fs false is = subst (λ (x : Loaded). More l x 1) (ok_same _ m is) (added (source_of e fs))

    by_fields : (r : Result (List Named) Refusal) → (r >>= λ fs. unless_known (is_some (l.listed.index (text e.key.v))) l e.key (source_of e fs)) ≡ Ok m → More l m 1
    by_fields (Ok fs) is = by_key fs (is_some (l.listed.index (text e.key.v))) is
    by_fields (Err r) is = absurd cc

-- after all entries there are as many entries and keys more
pub loaded_more : (g : Glossary) (l m : Loaded) (es : List (At Entry)) → entries_after g l es ≡ Ok m → More l m (length es)
loaded_more g l m [] is = subst (λ (x : Loaded). More l x 0) (ok_same l m is) (record { entries = omega arith; keys = omega arith })
loaded_more g l m (e ∷ es) is = by_entry (entry_after g l e.v) refl is (λ k. loaded_more g k m es)
  where
    by_entry : (r : Result Loaded Refusal) → entry_after g l e.v ≡ r → (r >>= λ more. entries_after g more es) ≡ Ok m → ((k : Loaded) → entries_after g k es ≡ Ok m → More k m (length es)) → More l m (suc (length es))
    by_entry (Err r) step is more = absurd cc
    by_entry (Ok k) step is more =
        let one = one_more g l k e.v step in
        let rest = more k is in
        record { entries = omega (arith, one.entries, rest.entries); keys = omega (arith, one.keys, rest.keys) }

-- an entry at whose key a refusal stands is there
pub number_within : (es : List Source) (R : List (List ℕ)) (error : ResolveError) → IsRefusedAs es R error → IfSome (number_of error) (λ n. n < length es)
number_within es R errors.Memory is = tt
number_within es R (errors.ReferenceCycle n) is = is.0
number_within es R (errors.UnreadableDate f) (none, (see, solves, only, (i, is, before))) = fault_within es R see i f is

one_as_read : (g : Glossary) (l m : Loaded) (e : Entry) → entry_after g l e ≡ Ok m → IsAsRead l.listed → IsAsRead m.listed
one_as_read g l m e is read = by_fields (fields_of g e.fields) is
  where
    by_key : (fs : List Named) (b : Bool) → unless_known b l e.key (source_of e fs) ≡ Ok m → IsAsRead m.listed
    by_key fs true is = absurd cc
    by_key fs false is = subst (λ (x : Loaded). IsAsRead x.listed) (ok_same _ m is) (pushed-read (source_of e fs) l.listed read)

    by_fields : (r : Result (List Named) Refusal) → (r >>= λ fs. unless_known (is_some (l.listed.index (text e.key.v))) l e.key (source_of e fs)) ≡ Ok m → IsAsRead m.listed
    by_fields (Ok fs) is = by_key fs (is_some (l.listed.index (text e.key.v))) is
    by_fields (Err r) is = absurd cc

entries_as_read : (g : Glossary) (l m : Loaded) (es : List (At Entry)) → entries_after g l es ≡ Ok m → IsAsRead l.listed → IsAsRead m.listed
entries_as_read g l m [] is read = subst (λ (x : Loaded). IsAsRead x.listed) (ok_same l m is) read
entries_as_read g l m (e ∷ es) is read = by_entry (entry_after g l e.v) refl is (λ k. entries_as_read g k m es)
  where
    by_entry : (r : Result Loaded Refusal) → entry_after g l e.v ≡ r → (r >>= λ more. entries_after g more es) ≡ Ok m → ((k : Loaded) → entries_after g k es ≡ Ok m → IsAsRead k.listed → IsAsRead m.listed) → IsAsRead m.listed
    by_entry (Err r) step is more = absurd cc
    by_entry (Ok k) step is more = more k is (one_as_read g l k e.v step read)

-- each name means the last entry that has it
pub as_read : (g : Glossary) (m : Loaded) (es : List (At Entry)) → loaded g es ≡ Ok m → IsAsRead m.listed
as_read g m es is = entries_as_read g nothing_loaded m es is (λ name. refl)

-- what was read, and what comes of it, is what the raw text means
pub meaning : (r : Raw) (g : Glossary) (l : Loaded) (answer : Result Listed Refusal) → g.definitions ≡ r.abbreviations → AreFlags g.flags g.definitions → loaded g r.entries ≡ Ok l → ComesTo l answer → IsMeaningOf r answer
meaning r g l answer definitions flags is comes = record {
  glossary = g;
  definitions = definitions;
  flags = flags;
  means = subst (λ (x : Result Loaded Refusal). Means x answer) (sym is) (as_read g l r.entries is, comes);
}

-- the same of a refusal
pub meaning_refused : (r : Raw) (g : Glossary) (l : Loaded) (error : ResolveError) (o : Option Refusal) → g.definitions ≡ r.abbreviations → AreFlags g.flags g.definitions → loaded g r.entries ≡ Ok l
    → IsRefusedAs l.listed.entries (references l.listed) error → o ≡ unresolved_at l.keys error → IfSome o (λ x. IsMeaningOf r (Err x))
meaning_refused r g l error None definitions flags is why refusal = tt
meaning_refused r g l error (Some x) definitions flags is why refusal = meaning r g l (Err x) definitions flags is (record { error = error; why = why; refusal = sym refusal })
