-- The name under which a field is written.
use Rattle.std.proofs.Common.{◌≡◌, ℕ, Bool, true, false, cond, ◌||◌, List, [], ◌∷◌, Option, Some, None, option_map, find, bytes_eq, refl, ap, true≢false}
use Rattle.std.specs.Prelude.{unwrap_or}
use Rattle.std.specs.List.{list_any}
use Rattle.biblatex_writing.specs.FieldNames.{is_never_written, other_names, written_name}

any_none : {X : Type 0} (test : X → Bool) (xs : List X) → list_any test xs ≡ false → find test xs ≡ None
any_none test [] h = refl
any_none test (x ∷ xs) h = by_test (test x) h (any_none test xs)
  where
    by_test : (t : Bool) → (t || list_any test xs) ≡ false → (list_any test xs ≡ false → find test xs ≡ None) → cond t (Some x) (find test xs) ≡ None
    by_test true e more = absurd (true≢false e)
    by_test false e more = more e

-- a field is written under its own name, where fields are written under it
pub own_name : (name : List ℕ) → is_never_written name ≡ false → written_name name ≡ name
own_name name e = ap (λ (found : Option (List ℕ × List ℕ)). unwrap_or (option_map (λ names. names.0) found) name) (any_none (λ names. bytes_eq name names.1) other_names e)
