-- The places of terms by their names and forms.
use Rattle.std.proofs.Common.{◌≡◌, ℕ, ◌+◌, ◌<◌, ◌≤◌, ltb-true, nat_lt, Bool, true, false, cond, ◌&&◌, ◌==◌, List, [], ◌∷◌, length, map, get_or, drop, find, slice_get, Option, Some, None, Ordering, Less, Equal, Greater, nat_cmp, is_eq, refl, sym, ap, ◌∙◌, arith}
use Rattle.std.specs.BTreeMap.{is_at}
use Rattle.std.specs.Cmp.{unsigned_tied}
use Rattle.std.specs.List.{position, position_or_len, position_from}
use Rattle.std.specs.Ordering.{ordering_then}
use Rattle.std.proofs.lemmas.Iterator.Adapters.{position_from-zero}
use Rattle.std.proofs.lemmas.List.{at_drop_more, get_or-map, length-map}
use Rattle.std.proofs.lemmas.List.Folds.{find_at}
use Rattle.std.proofs.lemmas.List.Quantifiers.{position-Some}
use Rattle.std.proofs.lemmas.List.Sums.{position_or_len_is}
use Rattle.std.proofs.lemmas.Option.{slice_get-get_or}
use Rattle.rendering_taxonomy.specs.declared.term.Term.{Term}
use Rattle.rendering_taxonomy.specs.declared.term.TermForm.{TermForm}
use Rattle.rendering_locale.specs.Indexed.{is_named, key_cmp, term_key}
use Rattle.rendering_locale.specs.Locales.{LocalizedTerm}

then_equal : (o p : Ordering) → is_eq (ordering_then o p) ≡ (is_eq o && is_eq p)
then_equal Less p = refl
then_equal Equal p = refl
then_equal Greater p = refl

-- a key is equal to that of a term where the term has its name and its form
pub key_named : (t : LocalizedTerm) (name : Term) (form : TermForm) → is_at (key_cmp (term_key t.name t.form)) (term_key name form) ≡ is_named name form t
key_named t name form =
    let k = term_key t.name t.form in
    let l = term_key name form in
    then_equal (nat_cmp k.0 l.0) (nat_cmp k.1 l.1) ∙ (λ i. unsigned_tied k.0 l.0 i && unsigned_tied k.1 l.1 i)

within_by : (b : Bool) (r n i : ℕ) → nat_lt r n ≡ b → cond b (Some r) None ≡ Some i → i < n
within_by true r n i low is =
    let same : r ≡ i = cc in
    omega (arith, ltb-true r n low, same)
within_by false r n i past is = absurd cc

module _ {X Y : Type 0} (view : X → Y) (p : Y → Bool) (xs : List X) where
  -- the first place among those from an index on
  pub place_more : (i : ℕ) (x : X) → i < length xs → x ≡ get_or xs i x → cond (p (view x)) (Some i) (position_from p (i + 1) (map view (drop (i + 1) xs))) ≡ position_from p i (map view (drop i xs))
  place_more i x low is =
      ap (λ y. cond (p (view y)) (Some i) (position_from p (i + 1) (map view (drop (i + 1) xs)))) is
      ∙ sym (at_drop_more (λ ys. position_from p i (map view ys)) xs i x low)

  -- where there is a first place it is one of theirs, and what stands there is found
  pub place_within : (i : ℕ) → position p (map view xs) ≡ Some i → i < length xs
  place_within i is =
      let ys = map view xs in
      let low : i < length ys = within_by (nat_lt (position_or_len p ys) (length ys)) (position_or_len p ys) (length ys) i refl is in
      omega (arith, low, length-map xs view)

  pub found_at : (i : ℕ) (d : X) → position p (map view xs) ≡ Some i → Some (view (get_or xs i d)) ≡ find p (map view xs)
  found_at i d is =
      let ys = map view xs in
      let at = position-Some p ys i (view d) is in
      let first : position_or_len p ys ≡ i = position_or_len_is p ys i (view d) (omega (arith, at.0)) at.2 (λ _. at.1) in
      sym (find_at p ys ∙ ap (slice_get ys) first ∙ slice_get-get_or ys i (view d) at.0 ∙ ap Some (get_or-map view xs i d (view d) (place_within i is)))

none_found : {X : Type 0} (p : X → Bool) (i : ℕ) (xs : List X) → position_from p i xs ≡ None → None ≡ find p xs
none_found p i [] none = refl
none_found {X} p i (x ∷ xs) none = by (p x) (none_found p (i + 1) xs) none
  where
    by : (b : Bool) → (position_from p (i + 1) xs ≡ None → None ≡ find p xs) → cond b (Some i) (position_from p (i + 1) xs) ≡ None → None ≡ cond b (Some x) (find p xs)
    by true rest some = absurd cc
    by false rest none = rest none

-- where there is no place nothing is found
pub not_found : {X : Type 0} (p : X → Bool) (xs : List X) → position p xs ≡ None → None ≡ find p xs
not_found p xs none = none_found p 0 xs (sym (position_from-zero p xs) ∙ none)
