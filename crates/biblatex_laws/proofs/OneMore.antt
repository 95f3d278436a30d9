-- One more entry that names do not reach changes nothing of what they reach.
use Rattle.std.proofs.Common.{◌≡◌, ℕ, zero, suc, false, true≢false, List, [], ◌∷◌, ◌++◌, slice_get, Option, Some, None, refl, sym, ap, subst, ◌∙◌}
use Rattle.std.specs.Prelude.{option_and_then}
use Rattle.std.specs.List.{AllByRecursion, AllZip}
use Rattle.std.specs.Option.{option_map}
use Rattle.std.specs.Str.{bytes_eq}
use Rattle.std.proofs.lemmas.Option.{same_Some, slice_get-map}
use Rattle.std.proofs.lemmas.Slice.Eq.{bytes_eq-Decides}
use Rattle.laws.specs.Text.{text}
use Rattle.biblatex_text.specs.Raw.{At, Entry, Field}
use Rattle.biblatex_entries.specs.Entries.{Source}
use Rattle.biblatex_meaning.specs.Listed.{Listed, entry_named}
use Rattle.biblatex_meaning.specs.Reading.{source_of}
use Rattle.biblatex_laws.specs.Differing.{BareEntry, HasOneMore, NoAbbreviationChanges, OneMoreEntryChangesNothing, OpensTheSame, bare_entry}
use Rattle.biblatex_laws.specs.Files.{IsFileOf}
use Rattle.biblatex_laws.specs.Reached.{IsReached, SaysTheSame, SayTheSame}
use Rattle.biblatex_laws.proofs.FieldsAlike.{IsReadOf, entry_same, read_each}
use Rattle.biblatex_laws.proofs.LoadedKeys.{AreApart, loaded_apart}

-- what stands at an index of two lists that go together
pub zip_first : {A B : Type 0} (R : A → B → Type 0) (xs : List A) (ys : List B) → AllZip R xs ys → (i : ℕ) (y : B) → slice_get ys i ≡ Some y → (x : A) × (slice_get xs i ≡ Some x) × R x y
zip_first R [] [] h i y is = absurd cc
zip_first R [] (z ∷ ys) h i y is = absurd h
zip_first R (x ∷ xs) [] h i y is = absurd h
zip_first R (x ∷ xs) (z ∷ ys) h zero y is = (x, refl, subst (R x) (same_Some z y is) h.0)
zip_first R (x ∷ xs) (z ∷ ys) h (suc i) y is = zip_first R xs ys h.1 i y is

zip_second : {A B : Type 0} (R : A → B → Type 0) (xs : List A) (ys : List B) → AllZip R xs ys → (i : ℕ) (x : A) → slice_get xs i ≡ Some x → (y : B) × (slice_get ys i ≡ Some y) × R x y
zip_second R [] [] h i x is = absurd cc
zip_second R [] (y ∷ ys) h i x is = absurd h
zip_second R (z ∷ xs) [] h i x is = absurd h
zip_second {A} R (z ∷ xs) (y ∷ ys) h zero x is = (y, refl, subst (λ (w : A). R w y) (same_Some z x is) h.0)
zip_second R (z ∷ xs) (y ∷ ys) h (suc i) x is = zip_second R xs ys h.1 i x is

-- what stands in a list stands in it with one more
still_there : {X : Type 0} (before after : List X) (extra : X) (i : ℕ) (x : X) → slice_get (before ++ after) i ≡ Some x → (j : ℕ) × (slice_get (before ++ extra ∷ after) j ≡ Some x)
still_there [] after extra i x is = (suc i, is)
still_there (b ∷ before) after extra zero x is = (zero, is)
still_there (b ∷ before) after extra (suc i) x is = let there = still_there before after extra i x is in (suc there.0, there.1)

pub mapped : {X Y : Type 0} (f : X → Y) (o : Option X) (y : Y) → option_map f o ≡ Some y → (x : X) × (o ≡ Some x) × (f x ≡ y)
mapped f None y is = absurd cc
mapped f (Some x) y is = (x, refl, same_Some (f x) y is)

-- entries of one key are one, where keys are apart
none_after : (k : List ℕ) (es : List Source) → AllByRecursion (λ d. bytes_eq k d.key ≡ false) es → (i : ℕ) (f : Source) → slice_get es i ≡ Some f → k ≡ f.key → (P : Type 0) → P
none_after k [] h i f is same P = absurd cc
none_after k (e ∷ es) h zero f is same P = absurd (true≢false (sym ((bytes_eq-Decides k e.key).1 (same ∙ ap (λ (d : Source). d.key) (sym (same_Some e f is)))) ∙ h.0))
none_after k (e ∷ es) h (suc i) f is same P = none_after k es h.1 i f is same P

one_of_key : (es : List Source) → AreApart es → (i j : ℕ) (e f : Source) → slice_get es i ≡ Some e → slice_get es j ≡ Some f → e.key ≡ f.key → e ≡ f
one_of_key [] apart i j e f is too same = absurd cc
one_of_key (d ∷ es) apart zero zero e f is too same = sym (same_Some d e is) ∙ same_Some d f too
one_of_key (d ∷ es) apart zero (suc j) e f is too same = none_after d.key es apart.0 j f too (ap (λ (c : Source). c.key) (same_Some d e is) ∙ same) (e ≡ f)
one_of_key (d ∷ es) apart (suc i) zero e f is too same = none_after d.key es apart.0 i e is (ap (λ (c : Source). c.key) (same_Some d f too) ∙ sym same) (e ≡ f)
one_of_key (d ∷ es) apart (suc i) (suc j) e f is too same = one_of_key es apart.1 i j e f is too same

-- where a name means an entry this stands somewhere
somewhere : (es : List Source) (o : Option ℕ) (e : Source) → option_and_then (slice_get es) o ≡ Some e → (i : ℕ) × (slice_get es i ≡ Some e)
somewhere es None e is = absurd cc
somewhere es (Some i) e is = (i, is)

module _ (names : List (List ℕ)) (cs ds : List ℕ) (file other resolved other_resolved : Listed) (extra : BareEntry)
    (first : IsFileOf cs file resolved) (second : IsFileOf ds other other_resolved) (more : HasOneMore first.raw second.raw extra) where
  apart_there : AreApart other.entries
  apart_there = loaded_apart second.glossary second.raw.entries (record { listed = other; keys = second.keys }) second.entries

  -- an entry of the first file and the one of its key in the second
  says_at : (i j : ℕ) (e f : Source) → slice_get file.entries i ≡ Some e → slice_get other.entries j ≡ Some f → e.key ≡ f.key
      → ((raw : At Entry) → slice_get first.raw.entries i ≡ Some raw → e.key ≡ text raw.v.key.v → OpensTheSame first.raw.abbreviations second.raw.abbreviations raw) → SaysTheSame e f
  says_at i j e f is too same opens =
      let one = zip_first (IsReadOf first.glossary) first.raw.entries file.entries (read_each first.glossary (record { listed = file; keys = first.keys }) first.raw.entries first.entries) i e is in
      let bare_one : slice_get (more.before ++ more.after) i ≡ Some (bare_entry one.0) =
      ap (λ (bs : List BareEntry). slice_get bs i) (sym more.shorter) ∙ slice_get-map bare_entry first.raw.entries i ∙ ap (option_map bare_entry) one.1 in
      let there = still_there more.before more.after extra i (bare_entry one.0) bare_one in
      let raw = mapped bare_entry (slice_get second.raw.entries there.0) (bare_entry one.0)
      (sym (slice_get-map bare_entry second.raw.entries there.0) ∙ ap (λ (bs : List BareEntry). slice_get bs there.0) more.longer ∙ there.1) in
      let two = zip_second (IsReadOf second.glossary) second.raw.entries other.entries (read_each second.glossary (record { listed = other; keys = second.keys }) second.raw.entries second.entries) there.0 raw.0 raw.1 in
      let own : e.key ≡ text one.0.v.key.v = ap (λ (s : Source). s.key) one.2.source in
      let key : two.0.key ≡ f.key = ap (λ (s : Source). s.key) two.2.source ∙ ap (λ (b : BareEntry). text b.key) raw.2 ∙ sym own ∙ same in
      let is_f : two.0 ≡ f = one_of_key other.entries apart_there there.0 j two.0 f two.1 too key in
      let opened : OpensTheSame first.glossary.definitions second.glossary.definitions one.0 =
      subst (λ (xs : List Field). OpensTheSame xs second.glossary.definitions one.0) (sym first.definitions)
      (subst (λ (xs : List Field). OpensTheSame first.raw.abbreviations xs one.0) (sym second.definitions) (opens one.0 one.1 own)) in
      let says : SaysTheSame (source_of one.0.v one.2.fields) (source_of raw.0.v two.2.fields) =
      entry_same first.glossary second.glossary first.flags second.flags one.0 raw.0 one.2.fields two.2.fields (sym raw.2) opened one.2.read two.2.read in
      subst (λ (s : Source). SaysTheSame e s) (sym two.2.source ∙ is_f) (subst (λ (s : Source). SaysTheSame s (source_of raw.0.v two.2.fields)) (sym one.2.source) says)

  both_say : (name : List ℕ) → IsReached file names name → NoAbbreviationChanges names file first.raw second.raw → (o p : Option Source) → entry_named name file ≡ o → entry_named name other ≡ p
      → option_map (λ (e : Source). e.key) o ≡ option_map (λ (e : Source). e.key) p → SayTheSame o p
  both_say name reached none None None is too same = tt
  both_say name reached none None (Some f) is too same = absurd cc
  both_say name reached none (Some e) None is too same = absurd cc
  both_say name reached none (Some e) (Some f) is too same =
      let at_e = somewhere file.entries (file.index name) e is in
      let at_f = somewhere other.entries (other.index name) f too in
      says_at at_e.0 at_f.0 e f at_e.1 at_f.1 (same_Some e.key f.key same)
      (λ raw at key. none name at_e.0 raw reached at (ap (option_map (λ (d : Source). d.key)) is ∙ ap (λ (k : List ℕ). Some k) key))

pub one_more : OneMoreEntryChangesNothing
one_more names cs ds file other resolved other_resolved extra first second more keys none name reached =
    both_say names cs ds file other resolved other_resolved extra first second more name reached none (entry_named name file) (entry_named name other) refl refl (keys name reached)
