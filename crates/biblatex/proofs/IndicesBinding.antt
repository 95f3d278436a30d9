-- Names that are bound one after the other, and looked up one after the other.
use Rattle.std.proofs.Common.{◌≡◌, ℕ, ◌++◌, Bool, true, false, cond, List, [], ◌∷◌, length, Option, Some, None, Result, Ok, Err, String, Global, string_bytes, map, refl, sym, ap, ◌∙◌}
use Rattle.std.specs.Prelude.{◌||◌, option_to_list, filter_map, IsOk, OnOk}
use Rattle.std.specs.List.{list_any, cons_option}
use Rattle.std.specs.Str.{bytes_eq}
use Rattle.biblatex_meaning.specs.Listed.{Meaning, bound}

-- what holds on Ok holds where a call returned Ok
pub done : {A E : Type 0} (r : Result A E) (P : Type 0) → IsOk r → OnOk r P → P
done (Ok a) P is p = p
done (Err e) P is p = absurd cc

-- the last of some names may be bound first
pub bound_last : (names : List (String Global)) (k : String Global) (index : ℕ) (f : Meaning) → bound (map string_bytes (names ++ k ∷ [])) index f ≡ bound (map string_bytes names) index (bound (string_bytes k ∷ []) index f)
bound_last names k index f = λ i name. at names name i
  where
    flat : (a b : Bool) (x y : Option ℕ) → cond (a || b) x y ≡ cond a x (cond b x y)
    flat true b x y = refl
    flat false b x y = refl

    onto : (a b : Bool) (x y z : Option ℕ) → cond b x y ≡ z → cond (a || b) x y ≡ cond a x z
    onto true b x y z e = refl
    onto false b x y z e = e

    at : (ns : List (String Global)) (name : List ℕ) → bound (map string_bytes (ns ++ k ∷ [])) index f name ≡ bound (map string_bytes ns) index (bound (string_bytes k ∷ []) index f) name
    at [] name = refl
    at (n ∷ ns) name =
        onto (bytes_eq name (string_bytes n)) (list_any (bytes_eq name) (map string_bytes (ns ++ k ∷ []))) (Some index) (f name) (bound (map string_bytes ns) index (bound (string_bytes k ∷ []) index f) name) (at ns name)
        ∙ sym (flat (bytes_eq name (string_bytes n)) (list_any (bytes_eq name) (map string_bytes ns)) (Some index) (bound (string_bytes k ∷ []) index f name))

-- no name is left to be bound
pub bound_none : (names : List (String Global)) (index : ℕ) (f : Meaning) → length names ≡ 0 → bound (map string_bytes names) index f ≡ f
bound_none [] index f e = refl
bound_none (n ∷ ns) index f e = absurd cc

-- one more name is looked up
pub meant_more : (f : Meaning) (names : List (String Global)) (k : String Global) → filter_map f (map string_bytes (names ++ k ∷ [])) ≡ filter_map f (map string_bytes names) ++ option_to_list (f (string_bytes k))
meant_more f [] k = by_answer (f (string_bytes k))
  where
    by_answer : (o : Option ℕ) → cons_option o [] ≡ option_to_list o
    by_answer None = refl
    by_answer (Some v) = refl
meant_more f (n ∷ names) k = ap (λ (vs : List ℕ). cons_option (f (string_bytes n)) vs) (meant_more f names k) ∙ before (f (string_bytes n)) (filter_map f (map string_bytes names)) (option_to_list (f (string_bytes k)))
  where
    before : (o : Option ℕ) (vs ws : List ℕ) → cons_option o (vs ++ ws) ≡ cons_option o vs ++ ws
    before None vs ws = refl
    before (Some v) vs ws = refl
