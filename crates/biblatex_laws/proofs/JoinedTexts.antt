-- What two texts hold, one after the other, is what each of them holds, but for where it stands.
use Rattle.std.proofs.Common.{◌≡◌, ℕ, ◌+◌, List, [], ◌∷◌, ◌++◌, flat_map, length, map, Result, refl, sym, ap, subst, ◌∙◌, inl, inr, arith, append-nil, length-append}
use Rattle.std.proofs.lemmas.List.{map-append}
use Rattle.std.proofs.lemmas.List.Concat.{flat_map-append}
use Rattle.laws.specs.Results.{◌>>=◌}
use Rattle.laws.specs.Text.{text as text_of}
use Rattle.laws.proofs.Text.{text-append}
use Rattle.biblatex_text.specs.Raw.{At, Piece, Field, Item, nothing, definitions, an_entry, abbreviations_of, entries_of, entry_in, fields_in, gathered}
use Rattle.biblatex_text.specs.Reading.{Refusal}
use Rattle.biblatex_grammar.specs.Items.{AreItems, IsBibliography}
use Rattle.biblatex_grammar.proofs.Items.{items-again}
use Rattle.biblatex_grammar.proofs.Laws.{held-read, read-held}
use Rattle.biblatex_grammar.proofs.Machine.{whole}
use Rattle.biblatex_grammar.proofs.Refused.{whole-accepted}
use Rattle.biblatex_grammar.proofs.SameItems.{items-same}
use Rattle.biblatex_laws.specs.Differing.{bare_entry, bare_field}
use Rattle.biblatex_laws.specs.Opened.{bare}
use Rattle.biblatex_laws.specs.Joined.{BeginsItem, HasWholeLines, JoinedTextsHoldBoth, WhatFollowsIsRead}
use Rattle.biblatex_laws.proofs.Moved.{items_on, rest_read, moved_at, moved_body, moved_field, moved_item}

-- what stands elsewhere says the same
bare_pieces : (d : ℕ) (ps : List (At Piece)) → bare (map (λ p. moved_at d p) ps) ≡ bare ps
bare_pieces d [] = refl
bare_pieces d (p ∷ ps) = ap (λ (vs : List Piece). p.v ∷ vs) (bare_pieces d ps)

bare_fields : (d : ℕ) (fs : List Field) → map bare_field (map (moved_field d) fs) ≡ map bare_field fs
bare_fields d [] = refl
bare_fields d (f ∷ fs) = λ i. (f.name.v, bare_pieces d f.value.v i) ∷ bare_fields d fs i

bare_in : (d a b k l : ℕ) (i : Item) → map bare_entry (entry_in a b (moved_body d i)) ≡ map bare_entry (entry_in k l i)
bare_in d a b k l nothing = refl
bare_in d a b k l (definitions fs) = refl
bare_in d a b k l (an_entry e) = λ i. record { kind = e.kind.v; key = e.key.v; fields = bare_fields d e.fields i } ∷ []

bare_definitions : (d : ℕ) (i : Item) → map bare_field (fields_in (moved_body d i)) ≡ map bare_field (fields_in i)
bare_definitions d nothing = refl
bare_definitions d (definitions fs) = bare_fields d fs
bare_definitions d (an_entry e) = refl

same_entries : (d : ℕ) (is : List (At Item)) → map bare_entry (flat_map entries_of (map (moved_item d) is)) ≡ map bare_entry (flat_map entries_of is)
same_entries d [] = refl
same_entries d (i ∷ is) =
    map-append bare_entry (entries_of (moved_item d i)) (flat_map entries_of (map (moved_item d) is))
    ∙ (λ k. bare_in d (i.start + d) (i.end + d) i.start i.end i.v k ++ same_entries d is k)
    ∙ sym (map-append bare_entry (entries_of i) (flat_map entries_of is))

same_abbreviations : (d : ℕ) (is : List (At Item)) → map bare_field (flat_map abbreviations_of (map (moved_item d) is)) ≡ map bare_field (flat_map abbreviations_of is)
same_abbreviations d [] = refl
same_abbreviations d (i ∷ is) =
    map-append bare_field (abbreviations_of (moved_item d i)) (flat_map abbreviations_of (map (moved_item d) is))
    ∙ (λ k. bare_definitions d i.v k ++ same_abbreviations d is k)
    ∙ sym (map-append bare_field (abbreviations_of i) (flat_map abbreviations_of is))

module _ (front back : List ℕ) (is js : List (At Item)) where
  abbrev own : ℕ
  own = length (text_of front)

  abbrev all : ℕ
  all = length (text_of (front ++ back))

  -- the items of both, those of the second behind the bytes of the first
  abbrev pub both : List (At Item)
  both = map (moved_item 0) is ++ map (moved_item own) js

  long : all ≡ own + length (text_of back)
  long = ap length (text-append front back) ∙ length-append (text_of front) (text_of back)

  behind : AreItems (length (text_of back)) back js → AreItems all back (map (moved_item own) js)
  behind are =
      let total : all ≡ length (text_of back) + own + length (text_of []) = let e = long in omega (arith, e) in
      subst (λ (cs : List ℕ). AreItems all cs (map (moved_item own) js)) (append-nil back)
      (subst (λ (ks : List (At Item)). AreItems all (back ++ []) ks) (append-nil (map (moved_item own) js))
      (items_on (length (text_of back)) all own [] tt total back js [] (inl refl) are ([], (refl, tt))))

  total : all ≡ own + 0 + length (text_of back)
  total = let e = long in omega (arith, e)

  pub joined : HasWholeLines front → BeginsItem back → IsBibliography front is → IsBibliography back js → IsBibliography (front ++ back) both
  joined lines begins are next = items_on own all 0 back begins total front is (map (moved_item own) js) (inr lines) are (behind next)

  pub both_entries : map bare_entry (gathered both).entries ≡ map bare_entry (gathered is).entries ++ map bare_entry (gathered js).entries
  both_entries =
      ap (map bare_entry) (flat_map-append entries_of (map (moved_item 0) is) (map (moved_item own) js))
      ∙ map-append bare_entry (flat_map entries_of (map (moved_item 0) is)) (flat_map entries_of (map (moved_item own) js))
      ∙ (λ k. same_entries 0 is k ++ same_entries own js k)

  pub both_abbreviations : map bare_field (gathered both).abbreviations ≡ map bare_field (gathered is).abbreviations ++ map bare_field (gathered js).abbreviations
  both_abbreviations =
      ap (map bare_field) (flat_map-append abbreviations_of (map (moved_item 0) is) (map (moved_item own) js))
      ∙ map-append bare_field (flat_map abbreviations_of (map (moved_item 0) is)) (flat_map abbreviations_of (map (moved_item own) js))
      ∙ (λ k. same_abbreviations 0 is k ++ same_abbreviations own js k)

pub joined_hold : JoinedTextsHoldBoth
joined_hold front back first second lines begins read read_too =
    let a = read-held front first read in
    let b = read-held back second read_too in (
      gathered (both front back a.0 b.0),
      held-read (front ++ back) (gathered (both front back a.0 b.0)) (both front back a.0 b.0, joined front back a.0 b.0 lines begins a.1 b.1, refl),
      record {
        entries = both_entries front back a.0 b.0 ∙ sym (λ k. map bare_entry (a.2 k).entries ++ map bare_entry (b.2 k).entries);
        abbreviations = both_abbreviations front back a.0 b.0 ∙ sym (λ k. map bare_field (a.2 k).abbreviations ++ map bare_field (b.2 k).abbreviations);
      },
    )

pub follows : WhatFollowsIsRead
follows front back first both lines begins read read_too =
    let a = read-held front first read in
    let b = read-held (front ++ back) both read_too in
    let n : ℕ = length (text_of (front ++ back)) in
    let rest = rest_read (length (text_of front)) n 0 back begins (total front back a.0 b.0) front a.0 (inr lines) a.1 (b.0, []) (items-again n b.0 (front ++ back) b.1) in
    let accepted =
    whole-accepted back (items-same n back ∙ ap (λ (r : Result (List (At Item) × List ℕ) Refusal). r >>= λ p. whole) rest.1) in
    (gathered accepted.0, held-read back (gathered accepted.0) (accepted.0, accepted.1, refl))
