-- Sets of texts, text after text.
use Rattle.std.proofs.Common.{◌≡◌, ℕ, Bool, true, false, cond, ◌||◌, List, [], ◌∷◌, ◌++◌, refl, sym, ap, ◌∙◌}
use Rattle.std.proofs.lemmas.List.Folds.{list_any-append}
use Rattle.std.proofs.lemmas.Map.Text.{is_eq-slice_cmp}
use Rattle.std.specs.Borrow.{Bor}
use Rattle.std.specs.List.{list_any}
use Rattle.std.specs.Str.{bytes_eq}
use Rattle.std.specs.BTreeMap.{is_at}
use Rattle.std.specs.BTreeSet.{BTreeSet, Updates}
use Rattle.csl_locales.specs.Sets.{text_cmp, key_of, has_text, is_one_of, AreTexts}

cond_or : (b c : Bool) → cond b true c ≡ (b || c)
cond_or true c = refl
cond_or false c = refl

-- a set with one more text
pub text_added : (a : Bor (List ℕ)) (old new : BTreeSet (Bor (List ℕ))) → Updates text_cmp old new a true → (t : List ℕ) → has_text new t ≡ (bytes_eq a.now t || has_text old t)
text_added a old new updates t = updates.0 (key_of t) ∙ (ap (λ (b : Bool). cond b true (has_text old t)) (is_eq-slice_cmp a.now t) ∙ cond_or (bytes_eq a.now t) (has_text old t))

-- a set without texts
pub no_texts : (s : BTreeSet (Bor (List ℕ))) → s.keys ≡ [] → AreTexts s []
no_texts s none t = ap (λ (ks : List (Bor (List ℕ))). list_any (is_at (text_cmp (key_of t))) ks) none

or_turned : (a b : Bool) → (a || b) ≡ (b || (a || false))
or_turned true true = refl
or_turned true false = refl
or_turned false true = refl
or_turned false false = refl

-- a set has one more text where a list has
pub texts_more : (old new : BTreeSet (Bor (List ℕ))) (ts : List (List ℕ)) (u : List ℕ) → AreTexts old ts → ((t : List ℕ) → has_text new t ≡ (bytes_eq u t || has_text old t)) → AreTexts new (ts ++ u ∷ [])
texts_more old new ts u so_far added t =
    added t ∙ (ap (λ (b : Bool). bytes_eq u t || b) (so_far t)
    ∙ (or_turned (bytes_eq u t) (is_one_of ts t) ∙ sym (list_any-append (λ (v : List ℕ). bytes_eq v t) ts (u ∷ []))))
