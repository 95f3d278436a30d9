-- Fields of a map as names and values.
use Rattle.std.proofs.Common.{◌≡◌, ℕ, Bool, true, false, cond, List, [], ◌∷◌, Option, Some, None, Ordering, Less, Equal, Greater, String, string_bytes, string_cmp, Vec, Global, Bor, option_map, option_copied, bytes_eq, nat_cmp, is_eq, refl, ap}
use Rattle.std.specs.Cmp.Lexicographic.{slice_cmp}
use Rattle.std.specs.Ordering.{match_ordering}
use Rattle.std.specs.List.{AllByRecursion}
use Rattle.std.specs.List.Sorted.{IsStrictlySortedBy}
use Rattle.std.specs.Map.{keys_of, lookup, remove_entry}
use Rattle.std.specs.BTreeMap.{insert_entry}
use Rattle.std.proofs.lemmas.Map.Text.{is_eq-slice_cmp}
use Rattle.biblatex_text.specs.declared.spanned.Spanned.{Spanned}
use Rattle.biblatex_content.specs.declared.chunk.Chunk.{Chunk}
use Rattle.biblatex_fields.specs.Value.{Value, field_value_view}
use Rattle.biblatex_fields.specs.Fields.{Named, named_field_view, named_fields_view, value_named, with_field, without_field, AreInOrder}

abbrev pub Chunks : Type 0
Chunks = Vec (Spanned Chunk) Global

abbrev pub value_of : Chunks → Value
value_of v = field_value_view v.items

-- what a look-up borrows is the value under the view
pub borrowed : (r : Option (Bor Chunks)) (o : Option Chunks) → option_copied r ≡ o → option_map (λ (v : Bor Chunks). field_value_view v.now.items) r ≡ option_map value_of o
borrowed None o e = ap (option_map value_of) e
borrowed (Some v) o e = ap (option_map value_of) e

-- looked up by the bytes of a name
pub value_there : (name : List ℕ) (es : List (String Global × Chunks)) → option_map value_of (lookup (λ k. is_eq (slice_cmp nat_cmp name (string_bytes k))) es) ≡ value_named name (named_fields_view es)
value_there name [] = refl
value_there name (e ∷ es) = by_test (is_eq (slice_cmp nat_cmp name (string_bytes e.0))) (bytes_eq name (string_bytes e.0)) (is_eq-slice_cmp name (string_bytes e.0)) (value_there name es)
  where
    by_test : (b d : Bool) → b ≡ d → option_map value_of (lookup (λ k. is_eq (slice_cmp nat_cmp name (string_bytes k))) es) ≡ value_named name (named_fields_view es)
        → option_map value_of (cond b (Some e.1) (lookup (λ k. is_eq (slice_cmp nat_cmp name (string_bytes k))) es)) ≡ cond d (Some (value_of e.1)) (value_named name (named_fields_view es))
    by_test true d same more = rw (← same) refl
    by_test false d same more = rw (← same) more

pub removed_there : (name : List ℕ) (es : List (String Global × Chunks)) → named_fields_view (remove_entry (λ k. is_eq (slice_cmp nat_cmp name (string_bytes k))) es) ≡ without_field name (named_fields_view es)
removed_there name [] = refl
removed_there name (e ∷ es) = by_test (is_eq (slice_cmp nat_cmp name (string_bytes e.0))) (bytes_eq name (string_bytes e.0)) (is_eq-slice_cmp name (string_bytes e.0)) (removed_there name es)
  where
    by_test : (b d : Bool) → b ≡ d → named_fields_view (remove_entry (λ k. is_eq (slice_cmp nat_cmp name (string_bytes k))) es) ≡ without_field name (named_fields_view es)
        → named_fields_view (cond b es (e ∷ remove_entry (λ k. is_eq (slice_cmp nat_cmp name (string_bytes k))) es)) ≡ cond d (named_fields_view es) (named_field_view e ∷ without_field name (named_fields_view es))
    by_test true d same more = rw (← same) refl
    by_test false d same more = rw (← same) (ap (λ (fs : List Named). named_field_view e ∷ fs) more)

pub put_there : (es : List (String Global × Chunks)) (k : String Global) (v : Chunks) → named_fields_view (insert_entry string_cmp es k v) ≡ with_field (named_fields_view es) (string_bytes k) (value_of v)
put_there [] k v = refl
put_there (e ∷ es) k v = by_order (slice_cmp nat_cmp (string_bytes k) (string_bytes e.0)) (put_there es k v)
  where
    by_order : (o : Ordering) → named_fields_view (insert_entry string_cmp es k v) ≡ with_field (named_fields_view es) (string_bytes k) (value_of v)
        → named_fields_view (match_ordering o ((k, v) ∷ e ∷ es) ((e.0, v) ∷ es) (e ∷ insert_entry string_cmp es k v))
        ≡ match_ordering o ((string_bytes k, value_of v) ∷ named_field_view e ∷ named_fields_view es) ((string_bytes e.0, value_of v) ∷ named_fields_view es) (named_field_view e ∷ with_field (named_fields_view es) (string_bytes k) (value_of v))
    by_order Less more = refl
    by_order Equal more = refl
    by_order Greater more = ap (λ (fs : List Named). named_field_view e ∷ fs) more

all_less : (k : String Global) (es : List (String Global × Chunks)) → AllByRecursion (λ y. string_cmp k y ≡ Less) (keys_of es) → AllByRecursion (λ y. slice_cmp nat_cmp (string_bytes k) y ≡ Less) (keys_of (named_fields_view es))
all_less k [] all = tt
all_less k (e ∷ es) all = (all.0, all_less k es all.1)

pub ordered_there : (es : List (String Global × Chunks)) → IsStrictlySortedBy string_cmp (keys_of es) → AreInOrder (named_fields_view es)
unfolding IsStrictlySortedBy
ordered_there [] sorted = tt
ordered_there (e ∷ es) sorted = (all_less e.0 es sorted.0, ordered_there es sorted.1)
