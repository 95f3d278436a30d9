-- A text is tidy as its bytes are.
use Rattle.std.proofs.Common.{◌≡◌, ℕ, suc, ◌<◌, ◌≤◌, Bool, true, false, cond, not, ◌&&◌, ◌||◌, ◌==◌, eqb, ltb, List, [], ◌∷◌, ◌++◌, length, get_or, Option, None, refl, sym, ap, ◌∙◌, arith}
use Rattle.std.specs.Prelude.{encode_utf8}
use Rattle.std.specs.Str.{chars, IsUtf8}
use Rattle.std.proofs.lemmas.Bool.{ne_eqb, ltb-true, ltb-false}
use Rattle.std.proofs.lemmas.List.{append-nil}
use Rattle.std.proofs.lemmas.Str.{encode_ascii, inside_one, length-encode, len_utf8_bounds}
use Rattle.laws.specs.Characters.{tab, line_feed, form_feed, carriage_return, space}
use Rattle.laws.specs.Text.{text}
use Rattle.laws.proofs.Text.{text_of_chars}
use Rattle.biblatex_tex.specs.Character.{is_blank}
use Rattle.biblatex_content.specs.Tidy.{stays, spaced_after}

none_of : (k l m n o : Bool) → k ≡ false → l ≡ false → m ≡ false → n ≡ false → o ≡ false → (k || l || m || n || o) ≡ false
none_of k l m n o e1 e2 e3 e4 e5 = rw (e1, e2, e3, e4, e5) refl

-- what is not ASCII is no blank
no_blank : (b : ℕ) → 128 ≤ b → is_blank b ≡ false
no_blank b high =
    none_of (eqb b space) (eqb b tab) (eqb b line_feed) (eqb b form_feed) (eqb b carriage_return)
    (ne_eqb b space (λ e. omega (arith, high, e))) (ne_eqb b tab (λ e. omega (arith, high, e))) (ne_eqb b line_feed (λ e. omega (arith, high, e)))
    (ne_eqb b form_feed (λ e. omega (arith, high, e))) (ne_eqb b carriage_return (λ e. omega (arith, high, e)))

-- it stays
high_stays : (a : Bool) (b : ℕ) (bs : List ℕ) → 128 ≤ b → spaced_after a (b ∷ bs) ≡ spaced_after false bs
high_stays a b bs high =
    ap (λ (t : Bool). cond (not (t && (a || not (b == space)))) (spaced_after (b == space) bs) None) (no_blank b high)
    ∙ ap (λ (t : Bool). spaced_after t bs) (ne_eqb b space (λ e. omega (arith, high, e)))

all_high : (a : Bool) (bs cs : List ℕ) → 0 < length bs → ((k : ℕ) → k < length bs → 128 ≤ get_or bs k 0) → spaced_after a (bs ++ cs) ≡ spaced_after false cs
all_high a [] cs some each = absurd (omega (arith, some))
all_high a (b ∷ []) cs some each = high_stays a b cs (each 0 (omega arith))
all_high a (b ∷ d ∷ bs) cs some each =
    high_stays a b (d ∷ (bs ++ cs)) (each 0 (omega arith)) ∙ all_high false (d ∷ bs) cs (omega arith) (λ k less. each (suc k) (omega (arith, less)))

-- the bytes of a character that is not ASCII are not
high_bytes : (c : ℕ) → 128 ≤ c → (k : ℕ) → k < length (encode_utf8 c) → 128 ≤ get_or (encode_utf8 c) k 0
high_bytes c high k less = by_test (ltb (get_or (encode_utf8 c) k 0) 128) refl
  where
    by_test : (low : Bool) → ltb (get_or (encode_utf8 c) k 0) 128 ≡ low → 128 ≤ get_or (encode_utf8 c) k 0
    by_test true is =
        let below = ltb-true (get_or (encode_utf8 c) k 0) 128 is in
        let same = inside_one c [] (encode_utf8 c) k (sym (append-nil (encode_utf8 c))) less below in
        absurd (omega (arith, high, below, same))
    by_test false is = ltb-false (get_or (encode_utf8 c) k 0) 128 is

spaced_text : (a : Bool) (cs : List ℕ) → spaced_after a cs ≡ spaced_after a (text cs)
spaced_text a [] = refl
spaced_text a (c ∷ cs) = by_test (ltb c 128) refl (spaced_text (c == space) cs) (spaced_text false cs)
  where
    by_test : (low : Bool) → ltb c 128 ≡ low → spaced_after (c == space) cs ≡ spaced_after (c == space) (text cs) → spaced_after false cs ≡ spaced_after false (text cs)
        → spaced_after a (c ∷ cs) ≡ spaced_after a (encode_utf8 c ++ text cs)
    by_test true is same more =
        ap (λ (x : Option Bool). cond (stays a c) x None) same ∙ sym (ap (λ (bs : List ℕ). spaced_after a (bs ++ text cs)) (encode_ascii c (ltb-true c 128 is)))
    by_test false is same more =
        let high = ltb-false c 128 is in
        let long = length-encode c in
        let bounds = len_utf8_bounds c in
        high_stays a c cs high ∙ (more ∙ sym (all_high a (encode_utf8 c) (text cs) (omega (arith, long, bounds.0)) (high_bytes c high)))

pub spaced_bytes : (a : Bool) (bs : List ℕ) → IsUtf8 bs → spaced_after a (chars bs) ≡ spaced_after a bs
spaced_bytes a bs u = spaced_text a (chars bs) ∙ ap (spaced_after a) (text_of_chars bs u)
