-- The places of words, looked up and added to.
use Rattle.std.proofs.Common.{◌≡◌, ℕ, suc, ◌+◌, min, Bool, true, false, cond, not, ◌||◌, List, [], ◌∷◌, ◌++◌, length, map, Option, Some, None, is_some, unwrap_or, String, Global, string_bytes, true≢false, refl, sym, ap, ◌∙◌, arith}
use Rattle.std.proofs.lemmas.Iterator.Adapters.{position_from-zero}
use Rattle.std.proofs.lemmas.List.{map-append, length-map}
use Rattle.std.proofs.lemmas.Slice.Eq.{bytes_eq-Decides}
use Rattle.std.specs.BTreeMap.{BTreeMap, get_by_text}
use Rattle.std.specs.List.{list_any, position_from, position_or_len}
use Rattle.std.specs.Map.{update}
use Rattle.std.specs.Option.{option_or}
use Rattle.std.specs.Str.{bytes_eq}
use Rattle.csl_nodes.specs.Terms.{last_place, place}
use Rattle.csl_nodes.specs.Words.{is_one_of, with_word, place_among, ArePlaces}

goes_on : (b : Bool) (i : ℕ) (more old last same : Option ℕ) → more ≡ option_or old last → last ≡ same → cond b (Some i) more ≡ option_or (cond b (Some i) old) same
goes_on true i more old last same so_far is = refl
goes_on false i more old last same so_far is = so_far ∙ ap (option_or old) is

-- the first place from a number on, of one element more
from_more : {X : Type 0} (p : X → Bool) (i : ℕ) (xs : List X) (y : X) → position_from p i (xs ++ y ∷ []) ≡ option_or (position_from p i xs) (cond (p y) (Some (i + length xs)) None)
from_more {X} p i [] y = let e : i ≡ i + 0 = omega arith in ap (λ (n : ℕ). cond (p y) (Some n) None) e
from_more {X} p i (x ∷ xs) y =
    let e : i + 1 + length xs ≡ i + length (x ∷ xs) = omega arith in
    goes_on (p x) i (position_from p (i + 1) (xs ++ y ∷ [])) (position_from p (i + 1) xs) (cond (p y) (Some (i + 1 + length xs)) None) (cond (p y) (Some (i + length (x ∷ xs))) None)
    (from_more p (i + 1) xs y) (ap (λ (n : ℕ). cond (p y) (Some n) None) e)

some_first : (b : Bool) (i : ℕ) (o : Option ℕ) (a : Bool) → is_some o ≡ a → is_some (cond b (Some i) o) ≡ (b || a)
some_first true i o a e = refl
some_first false i o a e = e

-- there is one where some element passes
from_some : {X : Type 0} (p : X → Bool) (i : ℕ) (xs : List X) → is_some (position_from p i xs) ≡ list_any p xs
from_some p i [] = refl
from_some p i (x ∷ xs) = some_first (p x) i (position_from p (i + 1) xs) (list_any p xs) (from_some p (i + 1) xs)

length_first : (b : Bool) (i n r : ℕ) (o : Option ℕ) → unwrap_or o (i + 1 + n) ≡ i + 1 + r → unwrap_or (cond b (Some i) o) (i + suc n) ≡ i + cond (not b) (1 + r) 0
length_first true i n r o e = omega arith
length_first false i n r o e =
    let s : i + suc n ≡ i + 1 + n = omega arith in
    let t : i + 1 + r ≡ i + (1 + r) = omega arith in
    ap (unwrap_or o) s ∙ (e ∙ t)

-- where none is, the length stands for it
from_length : {X : Type 0} (p : X → Bool) (i : ℕ) (xs : List X) → unwrap_or (position_from p i xs) (i + length xs) ≡ i + position_or_len p xs
from_length p i [] = refl
from_length p i (x ∷ xs) = length_first (p x) i (length xs) (position_or_len p xs) (position_from p (i + 1) xs) (from_length p (i + 1) xs)

-- the same of the places of words
place_more : (words : List (List ℕ)) (w t : List ℕ) → place_among (words ++ w ∷ []) t ≡ option_or (place_among words t) (cond (bytes_eq w t) (Some (length words)) None)
place_more words w t =
    let p : List ℕ → Bool = λ (v : List ℕ). bytes_eq v t in
    let all : 0 + length words ≡ length words = omega arith in
    position_from-zero p (words ++ w ∷ [])
    ∙ (from_more p 0 words w
    ∙ (λ k. option_or (sym (position_from-zero p words) k) (cond (bytes_eq w t) (Some (all k)) None)))

pub place_some : (words : List (List ℕ)) (t : List ℕ) → is_some (place_among words t) ≡ is_one_of words t
place_some words t = let p : List ℕ → Bool = λ (v : List ℕ). bytes_eq v t in ap is_some (position_from-zero p words) ∙ from_some p 0 words

place_length : (words : List (List ℕ)) (t : List ℕ) → unwrap_or (place_among words t) (length words) ≡ position_or_len (λ (v : List ℕ). bytes_eq v t) words
place_length words t =
    let p : List ℕ → Bool = λ (v : List ℕ). bytes_eq v t in
    let r : ℕ = position_or_len p words in
    let all : length words ≡ 0 + length words = omega arith in
    let same : 0 + r ≡ r = omega arith in
    (λ k. unwrap_or (position_from-zero p words k) (all k)) ∙ (from_length p 0 words ∙ same)

-- the number of a word that is not there
pub place_missing : (ws : List (String Global)) (t : List ℕ) (n m : ℕ) → None ≡ place_among (map string_bytes ws) t → n ≡ length ws → m ≡ min n last_place → m ≡ place (map string_bytes ws) t
place_missing ws t n m none count is =
    let words : List (List ℕ) = map string_bytes ws in
    let all : length words ≡ position_or_len (λ (v : List ℕ). bytes_eq v t) words = ap (λ (o : Option ℕ). unwrap_or o (length words)) none ∙ place_length words t in
    let same : length words ≡ length ws = length-map ws string_bytes in
    is ∙ ap (λ (k : ℕ). min k last_place) (count ∙ (sym same ∙ all))

-- a word that is there, and one that is not
pub word_there : (words : List (List ℕ)) (t : List ℕ) → is_one_of words t ≡ true → words ≡ with_word words t
word_there words t is = sym (ap (λ (b : Bool). cond b words (words ++ t ∷ [])) is)

pub word_added : (old new : List (String Global)) (s : String Global) (t : List ℕ) → is_one_of (map string_bytes old) t ≡ false → string_bytes s ≡ t → new ≡ old ++ s ∷ []
    → map string_bytes new ≡ with_word (map string_bytes old) t
word_added old new s t is same pushed =
    let words : List (List ℕ) = map string_bytes old in
    ap (map string_bytes) pushed
    ∙ (map-append string_bytes old (s ∷ []) ∙ (ap (λ (u : List ℕ). words ++ u ∷ []) same ∙ sym (ap (λ (b : Bool). cond b words (words ++ t ∷ [])) is)))

none_or : (o p : Option ℕ) → is_some o ≡ false → p ≡ option_or o p
none_or None p is = refl
none_or (Some n) p is = absurd (true≢false is)

or_none : (o : Option ℕ) → o ≡ option_or o None
or_none None = refl
or_none (Some n) = refl

put : (b : Bool) (words : List (List ℕ)) (w t : List ℕ) (n : ℕ) (o : Option ℕ) → bytes_eq w t ≡ b → is_one_of words w ≡ false → o ≡ place_among words t
    → cond b (Some n) o ≡ option_or (place_among words t) (cond b (Some n) None)
put true words w t n o is new before = none_or (place_among words t) (Some n) (place_some words t ∙ (ap (is_one_of words) (sym ((bytes_eq-Decides w t).0 is)) ∙ new))
put false words w t n o is new before = before ∙ or_none (place_among words t)

-- the places of words once one is added that was not there
pub places_more : (old new : BTreeMap (String Global) ℕ) (ws ms : List (String Global)) (s : String Global) (k w : List ℕ) (n : ℕ) → ArePlaces old (map string_bytes ws) → is_one_of (map string_bytes ws) w ≡ false
    → k ≡ w → n ≡ length ws → ((t : List ℕ) → get_by_text new t ≡ update bytes_eq (get_by_text old) k (Some n) t) → string_bytes s ≡ w → ms ≡ ws ++ s ∷ [] → ArePlaces new (map string_bytes ms)
places_more old new ws ms s k w n before free same count updates spelled pushed t =
    let words : List (List ℕ) = map string_bytes ws in
    let counted : n ≡ length words = count ∙ sym (length-map ws string_bytes) in
    let all : map string_bytes ms ≡ words ++ w ∷ [] = ap (map string_bytes) pushed ∙ (map-append string_bytes ws (s ∷ []) ∙ ap (λ (u : List ℕ). words ++ u ∷ []) spelled) in
    updates t
    ∙ (ap (λ (u : List ℕ). cond (bytes_eq u t) (Some n) (get_by_text old t)) same
    ∙ (put (bytes_eq w t) words w t n (get_by_text old t) refl free (before t)
    ∙ (ap (λ (m : ℕ). option_or (place_among words t) (cond (bytes_eq w t) (Some m) None)) counted ∙ (sym (place_more words w t) ∙ ap (λ (us : List (List ℕ)). place_among us t) (sym all)))))
