-- The name under which a field is written, and the names that are written as one.
use Rattle.std.proofs.Common.{◌≡◌, ℕ, Bool, true, false, cond, ◌||◌, ◌⊎◌, inl, inr, List, [], ◌∷◌, Option, Some, None, find, unwrap_or, option_map, refl, sym, ap, subst, ◌∙◌}
use Rattle.std.specs.List.{AllByRecursion, list_any}
use Rattle.std.specs.Map.{lookup}
use Rattle.std.specs.Str.{bytes_eq}
use Rattle.std.proofs.lemmas.Option.{none-some, same_Some}
use Rattle.std.proofs.lemmas.Slice.Eq.{bytes_eq-Decides}
use Rattle.biblatex_writing.specs.FieldNames.{is_never_written, other_names, written_name}

pub same_itself : (k : List ℕ) → bytes_eq k k ≡ true
same_itself k = (bytes_eq-Decides k k).1 refl

-- a row of the names: fields of the first name are written under it, those of the other under the first, and none under the other
record IsRow (names : List ℕ × List ℕ) : Type 0 where
  pub own : is_never_written names.0 ≡ false
  pub other : lookup (bytes_eq names.0) other_names ≡ Some names.1
  pub name : written_name names.1 ≡ names.0
  pub never : is_never_written names.1 ≡ true

row : (names : List ℕ × List ℕ) → is_never_written names.0 ≡ false → lookup (bytes_eq names.0) other_names ≡ Some names.1 → written_name names.1 ≡ names.0 → is_never_written names.1 ≡ true → IsRow names
row names own other name never = record { own = own; other = other; name = name; never = never }

rows : AllByRecursion IsRow other_names
rows = (row _ refl refl refl refl, (row _ refl refl refl refl, (row _ refl refl refl refl, (row _ refl refl refl refl, (row _ refl refl refl refl, (row _ refl refl refl refl, (row _ refl refl refl refl, (row _ refl refl refl refl, tt))))))))

-- the other name of a name
found_by : (t : List (List ℕ × List ℕ)) → AllByRecursion IsRow t → (n o : List ℕ) → lookup (bytes_eq n) t ≡ Some o → IsRow (n, o)
found_by [] all n o h = absurd (none-some o h)
found_by (p ∷ t) all n o h = by (bytes_eq n p.0) refl h (found_by t all.1 n o)
  where
    by : (b : Bool) → bytes_eq n p.0 ≡ b → cond b (Some p.1) (lookup (bytes_eq n) t) ≡ Some o → (lookup (bytes_eq n) t ≡ Some o → IsRow (n, o)) → IsRow (n, o)
    by true e is more = subst IsRow (λ i. (sym ((bytes_eq-Decides n p.0).0 e) i, same_Some p.1 o is i)) all.0
    by false e is more = more is

-- the other name of a name is written under it
pub other_written : (n o : List ℕ) → lookup (bytes_eq n) other_names ≡ Some o → written_name o ≡ n
other_written n o is = (found_by other_names rows n o is).name

-- no field is written under it
pub other_never : (n o : List ℕ) → lookup (bytes_eq n) other_names ≡ Some o → is_never_written o ≡ true
other_never n o is = (found_by other_names rows n o is).never

-- the row of another name
row_by : (t : List (List ℕ × List ℕ)) → AllByRecursion IsRow t → (q : List ℕ) (p : List ℕ × List ℕ) → find (λ names. bytes_eq q names.1) t ≡ Some p → IsRow p × (q ≡ p.1)
row_by [] all q p h = absurd (none-some p h)
row_by (r ∷ t) all q p h = by (bytes_eq q r.1) refl h (row_by t all.1 q p)
  where
    by : (b : Bool) → bytes_eq q r.1 ≡ b → cond b (Some r) (find (λ names. bytes_eq q names.1) t) ≡ Some p → (find (λ names. bytes_eq q names.1) t ≡ Some p → IsRow p × (q ≡ p.1)) → IsRow p × (q ≡ p.1)
    by true e is more = let same : r ≡ p = same_Some r p is in (subst IsRow same all.0, (bytes_eq-Decides q r.1).0 e ∙ ap (λ (names : List ℕ × List ℕ). names.1) same)
    by false e is more = more is

-- what no row is found for has no row
none_any : {X : Type 0} (test : X → Bool) (xs : List X) → find test xs ≡ None → list_any test xs ≡ false
none_any test [] h = refl
none_any test (x ∷ xs) h = by (test x) h (none_any test xs)
  where
    by : (b : Bool) → cond b (Some x) (find test xs) ≡ None → (find test xs ≡ None → list_any test xs ≡ false) → (b || list_any test xs) ≡ false
    by true is more = absurd (none-some x (sym is))
    by false is more = more is

-- how a name is written: under itself, or it is the other name of the one that it is written under
pub record IsWrittenAs (q n : List ℕ) : Type 0 where
  pub may : is_never_written n ≡ false
  pub either : (q ≡ n) ⊎ (lookup (bytes_eq n) other_names ≡ Some q)

pub written_as : (q : List ℕ) → IsWrittenAs q (written_name q)
written_as q = by (find (λ names. bytes_eq q names.1) other_names) refl
  where
    by : (found : Option (List ℕ × List ℕ)) → find (λ names. bytes_eq q names.1) other_names ≡ found → IsWrittenAs q (unwrap_or (option_map (λ names. names.0) found) q)
    by None e = record { may = none_any (λ names. bytes_eq q names.1) other_names e; either = inl refl }
    by (Some p) e =
        let r : IsRow p × (q ≡ p.1) = row_by other_names rows q p e in
        record { may = r.0.own; either = inr (r.0.other ∙ ap (λ (k : List ℕ). Some k) (sym r.1)) }
