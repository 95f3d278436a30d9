-- The chunks of all fields that are read are joined.
use Rattle.std.proofs.Common.{◌≡◌, zero, suc, Bool, true, false, List, [], ◌∷◌, ◌++◌, Result, Ok, Err, refl, ap, subst}
use Rattle.std.specs.Prelude.{is_some}
use Rattle.laws.specs.Results.{◌>>=◌}
use Rattle.laws.specs.Text.{text}
use Rattle.biblatex_text.specs.Raw.{At, Entry}
use Rattle.biblatex_fields.specs.Abbreviations.{Glossary}
use Rattle.biblatex_fields.specs.Fields.{Named, fields_of, AreJoined}
use Rattle.biblatex_fields.proofs.FieldsJoined.{fields_joined}
use Rattle.biblatex_entries.specs.Entries.{Source, HaveJoinedFields}
use Rattle.biblatex_meaning.specs.Reading.{Refusal, Loaded, nothing_loaded, source_of, unless_known, entry_after, entries_after, loaded}

abbrev inner : Loaded → Result Loaded Refusal → Loaded
inner d (Ok l) = l
inner d (Err r) = d

-- an entry whose chunks are joined may go last
joined_last : (es : List Source) (e : Source) → HaveJoinedFields es → AreJoined e.fields → HaveJoinedFields (es ++ e ∷ [])
joined_last [] e all one zero = one
joined_last [] e all one (suc i) = tt
joined_last (d ∷ es) e all one zero = all zero
joined_last (d ∷ es) e all one (suc i) = joined_last es e (λ k. all (suc k)) one i

one_joined : (g : Glossary) (l m : Loaded) (e : Entry) → entry_after g l e ≡ Ok m → HaveJoinedFields l.listed.entries → HaveJoinedFields m.listed.entries
one_joined g l m e is all = by_fields (fields_of g e.fields) refl is
  where
    by_key : (fs : List Named) (b : Bool) → AreJoined fs → unless_known b l e.key (source_of e fs) ≡ Ok m → HaveJoinedFields m.listed.entries
    by_key fs true one is = absurd cc
    by_key fs false one is = subst (λ (x : Loaded). HaveJoinedFields x.listed.entries) (ap (inner m) is) (joined_last l.listed.entries (source_of e fs) all one)

    by_fields : (r : Result (List Named) Refusal) → fields_of g e.fields ≡ r → (r >>= λ fs. unless_known (is_some (l.listed.index (text e.key.v))) l e.key (source_of e fs)) ≡ Ok m → HaveJoinedFields m.listed.entries
    by_fields (Ok fs) read is = by_key fs (is_some (l.listed.index (text e.key.v))) (fields_joined g e.fields fs read) is
    by_fields (Err r) read is = absurd cc

entries_joined : (g : Glossary) (l m : Loaded) (es : List (At Entry)) → entries_after g l es ≡ Ok m → HaveJoinedFields l.listed.entries → HaveJoinedFields m.listed.entries
entries_joined g l m [] is all = subst (λ (x : Loaded). HaveJoinedFields x.listed.entries) (ap (inner l) is) all
entries_joined g l m (e ∷ es) is all = by_entry (entry_after g l e.v) refl is (λ k. entries_joined g k m es)
  where
    by_entry : (r : Result Loaded Refusal) → entry_after g l e.v ≡ r → (r >>= λ more. entries_after g more es) ≡ Ok m
        → ((k : Loaded) → entries_after g k es ≡ Ok m → HaveJoinedFields k.listed.entries → HaveJoinedFields m.listed.entries) → HaveJoinedFields m.listed.entries
    by_entry (Ok k) step is more = more k is (one_joined g l k e.v step all)
    by_entry (Err r) step is more = absurd cc

-- the chunks of all entries of a text are joined
pub loaded_joined : (g : Glossary) (m : Loaded) (es : List (At Entry)) → loaded g es ≡ Ok m → HaveJoinedFields m.listed.entries
loaded_joined g m es is = entries_joined g nothing_loaded m es is (λ i. tt)
