-- Serial numbers by the bytes of their names.
use Rattle.std.proofs.Common.{◌≡◌, ℕ, List, [], ◌∷◌, map, refl, sym, ap, ◌∙◌, Option, Some, option_map, Bool, true, false, cond, String, Global, string_bytes, string_cmp, bytes_eq, nat_cmp, is_eq, Ordering, Less, Equal, Greater}
use Rattle.std.specs.Ordering.{match_ordering}
use Rattle.std.specs.Cmp.Lexicographic.{slice_cmp}
use Rattle.std.specs.Map.{lookup}
use Rattle.std.specs.BTreeMap.{insert_entry}
use Rattle.std.proofs.lemmas.Map.Text.{is_eq-slice_cmp}
use Rattle.literature_entries.specs.Views.{serial_view}

-- a pair after others, or the first one, by what a test says of it
found_step : (b : Bool) (v : String Global) (rest : Option (String Global)) (viewed : Option (List ℕ)) → viewed ≡ option_map string_bytes rest
    → cond b (Some (string_bytes v)) viewed ≡ option_map string_bytes (cond b (Some v) rest)
found_step true v rest viewed e = refl
found_step false v rest viewed e = e

-- the number that is found among the strings is the one found among their bytes
pub number_found : (name : List ℕ) (es : List (String Global × String Global))
    → lookup (bytes_eq name) (map serial_view es) ≡ option_map string_bytes (lookup (λ k. is_eq (slice_cmp nat_cmp name (string_bytes k))) es)
number_found name [] = refl
number_found name (e ∷ es) =
    found_step (bytes_eq name (string_bytes e.0)) e.1 _ _ (number_found name es)
    ∙ ap (λ b. option_map string_bytes (cond b (Some e.1) (lookup (λ k. is_eq (slice_cmp nat_cmp name (string_bytes k))) es))) (sym (is_eq-slice_cmp name (string_bytes e.0)))

-- a pair before, at or after another one
put_step : (o : Ordering) (p e : String Global × String Global) (es more : List (String Global × String Global)) (viewed : List (List ℕ × List ℕ)) → map serial_view more ≡ viewed
    → map serial_view (match_ordering o (p ∷ e ∷ es) ((e.0, p.1) ∷ es) (e ∷ more))
    ≡ match_ordering o (serial_view p ∷ serial_view e ∷ map serial_view es) ((string_bytes e.0, string_bytes p.1) ∷ map serial_view es) (serial_view e ∷ viewed)
put_step Less p e es more viewed i = refl
put_step Equal p e es more viewed i = refl
put_step Greater p e es more viewed i = ap (λ ps. serial_view e ∷ ps) i

-- a pair is put among the strings where it is put among their bytes
pub number_put : (name number : String Global) (es : List (String Global × String Global))
    → map serial_view (insert_entry string_cmp es name number) ≡ insert_entry (slice_cmp nat_cmp) (map serial_view es) (string_bytes name) (string_bytes number)
number_put name number [] = refl
number_put name number (e ∷ es) = put_step (string_cmp name e.0) (name, number) e es _ _ (number_put name number es)
