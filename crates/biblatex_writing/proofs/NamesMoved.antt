-- A name whose third byte is that of no name in the table is none of them.
use Rattle.std.proofs.Common.{◌≡◌, ℕ, Bool, true, false, cond, ◌||◌, List, [], ◌∷◌, Some, None, slice_index, bytes_eq, refl, sym, ap, ◌∙◌}
use Rattle.std.specs.List.{list_any, AllByRecursion}
use Rattle.std.specs.Map.{lookup}
use Rattle.biblatex_content.proofs.NamesApart.{differ}
use Rattle.biblatex_writing.specs.FieldNames.{other_names, is_never_written, is_third_of_written, is_third_of_read}

no_row : (t : List (List ℕ × List ℕ)) → AllByRecursion (λ names. is_third_of_written (slice_index names.0 2) ≡ true) t → (n : List ℕ) → is_third_of_written (slice_index n 2) ≡ false → lookup (bytes_eq n) t ≡ None
no_row [] all n h = refl
no_row (p ∷ t) all n h = ap (λ (b : Bool). cond b (Some p.1) (lookup (bytes_eq n) t)) (differ is_third_of_written n p.0 h all.0) ∙ no_row t all.1 n h

-- no field of another name is written under such a name
pub no_other_name : (n : List ℕ) → is_third_of_written (slice_index n 2) ≡ false → None ≡ lookup (bytes_eq n) other_names
no_other_name n h = sym (no_row other_names (refl, (refl, (refl, (refl, (refl, (refl, (refl, (refl, tt)))))))) n h)

none_read : (t : List (List ℕ × List ℕ)) → AllByRecursion (λ names. is_third_of_read (slice_index names.1 2) ≡ true) t → (n : List ℕ) → is_third_of_read (slice_index n 2) ≡ false → list_any (λ names. bytes_eq n names.1) t ≡ false
none_read [] all n h = refl
none_read (p ∷ t) all n h = ap (λ (b : Bool). b || list_any (λ names. bytes_eq n names.1) t) (differ is_third_of_read n p.1 h all.0) ∙ none_read t all.1 n h

-- fields of such a name are written under it
pub is_written : (n : List ℕ) → is_third_of_read (slice_index n 2) ≡ false → false ≡ is_never_written n
is_written n h = sym (none_read other_names (refl, (refl, (refl, (refl, (refl, (refl, (refl, (refl, tt)))))))) n h)
