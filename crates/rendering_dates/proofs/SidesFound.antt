-- The part at which a side of a range begins or ends, as it is looked for among those that are printed.
use Rattle.std.proofs.Common.{◌≡◌, Bool, true, false, cond, ◌&&◌, List, [], ◌∷◌, ◌++◌, filter, reverse, true≢false, refl, sym, ap, ◌∙◌}
use Rattle.std.proofs.lemmas.List.{append-nil, reverse-append, reverse-reverse}
use Rattle.std.proofs.lemmas.List.Elements.{filter-append}
use Rattle.rendering_dates.specs.Sides.{from_first}

module _ {P : Type 0} (within test : P → Bool) (change : P → P) (kept : (p : P) → within (change p) ≡ within p) where
  -- from the first on
  abbrev found : List P → List P
  found ps = from_first test change ps

  found_next : (w : Bool) (p : P) (ps : List P) → found (cond w (p ∷ ps) ps) ≡ cond (w && test p) (change p ∷ ps) (found ps)
  found_next true p ps = refl
  found_next false p ps = refl

  -- a part with which a side begins
  pub begins : (p : P) (ps : List P) → (within p && test p) ≡ true → filter within (change p ∷ ps) ≡ found (filter within (p ∷ ps))
  begins p ps holds =
      let some = filter within ps in
      ap (λ (b : Bool). cond b (change p ∷ some) some) (kept p) ∙ (by_test (within p) holds ∙ sym (found_next (within p) p some))
    where
      by_test : (w : Bool) → (w && test p) ≡ true → cond w (change p ∷ filter within ps) (filter within ps) ≡ cond (w && test p) (change p ∷ filter within ps) (found (filter within ps))
      by_test true h = ap (λ (b : Bool). cond b (change p ∷ filter within ps) (found (filter within ps))) (sym h)
      by_test false h = absurd (true≢false (sym h))

  -- a part that a side does not print
  pub begins_after : (p : P) (ps : List P) → (within p && test p) ≡ false → found (filter within ps) ≡ found (filter within (p ∷ ps))
  begins_after p ps fails =
      let some = filter within ps in
      ap (λ (b : Bool). cond b (change p ∷ some) (found some)) (sym fails) ∙ sym (found_next (within p) p some)

  turned : (w : Bool) (p : P) (ps : List P) → reverse (ps ++ cond w (p ∷ []) []) ≡ cond w (p ∷ reverse ps) (reverse ps)
  turned true p ps = reverse-append ps (p ∷ [])
  turned false p ps = ap reverse (append-nil ps)

  turned_back : (p : P) (ps : List P) → reverse (p ∷ reverse ps) ≡ ps ++ p ∷ []
  turned_back p ps = reverse-append (p ∷ []) (reverse ps) ∙ ap (λ (qs : List P). qs ++ p ∷ []) (reverse-reverse ps)

  is_within : (w : Bool) (p : P) → (w && test p) ≡ true → w ≡ true
  is_within true p h = refl
  is_within false p h = h

  -- from the last back, the first of them first
  abbrev found_back : List P → List P
  found_back ps = reverse (found (reverse ps))

  found_last : (p : P) (ps : List P) → found_back (filter within (ps ++ p ∷ [])) ≡ reverse (cond (within p && test p) (change p ∷ reverse (filter within ps)) (found (reverse (filter within ps))))
  found_last p ps =
      let some = filter within ps in
      ap found_back (filter-append within ps (p ∷ []))
      ∙ (ap (λ (qs : List P). reverse (found qs)) (turned (within p) p some)
      ∙ ap reverse (found_next (within p) p (reverse some)))

  -- a part with which a side ends
  pub ends : (p : P) (ps : List P) → (within p && test p) ≡ true → filter within (ps ++ change p ∷ []) ≡ found_back (filter within (ps ++ p ∷ []))
  ends p ps holds =
      let some = filter within ps in
      filter-append within ps (change p ∷ [])
      ∙ (ap (λ (b : Bool). some ++ cond b (change p ∷ []) []) (kept p ∙ is_within (within p) p holds)
      ∙ (sym (turned_back (change p) some)
      ∙ (ap (λ (b : Bool). reverse (cond b (change p ∷ reverse some) (found (reverse some)))) (sym holds)
      ∙ sym (found_last p ps))))

  -- a part that a side does not print
  pub ends_before : (p : P) (ps : List P) → (within p && test p) ≡ false → found_back (filter within ps) ≡ found_back (filter within (ps ++ p ∷ []))
  ends_before p ps fails =
      let some = filter within ps in
      ap (λ (b : Bool). reverse (cond b (change p ∷ reverse some) (found (reverse some)))) (sym fails) ∙ sym (found_last p ps)
