-- The keys of works and of the entries that they are viewed in.
use Rattle.std.proofs.Common.{◌≡◌, ℕ, List, [], ◌∷◌, map, Some, refl, sym, ap, ◌∙◌, Bool, true, false, cond, rules}
use Rattle.std.specs.Option.{option_map}
use Rattle.std.specs.Str.{bytes_eq}
use Rattle.std.specs.Borrow.{Bor}
use Rattle.literature_entries.specs.Views.{key_view}
use Rattle.literature_entries.specs.EntriesData.{entry_view}
use Rattle.literature_entries.specs.declared.entry.Entry.{Entry, the_lemmas}
use Rattle.literature.specs.Keys.{with_key}
use Rattle.interop.specs.Library.{key_of}

-- a work has the key of its entry
pub key_is : (e : Entry) → key_of (entry_view e) ≡ key_view e
key_is e = search (rules, the_lemmas)

-- the keys of works are those of their entries
pub keys_are : (es : List (Bor Entry)) → map (λ (e : Bor Entry). key_view e.now) es ≡ map key_of (map (λ (e : Bor Entry). entry_view e.now) es)
keys_are [] = refl
keys_are (e ∷ es) = λ i. key_same i ∷ keys_are es i
  where
    key_same : key_view e.now ≡ key_of (entry_view e.now)
    key_same = sym (key_is e.now)

-- the entry that has a key is the work that has it
pub found_is : (name : List ℕ) (es : List Entry) → option_map entry_view (with_key key_view name es) ≡ with_key key_of name (map entry_view es)
found_is name [] = refl
found_is name (e ∷ es) = by_test (found_is name es) (bytes_eq name (key_view e)) ∙ ap (λ (k : List ℕ). cond (bytes_eq name k) (Some (entry_view e)) (with_key key_of name (map entry_view es))) (sym (key_is e))
  where
    by_test : option_map entry_view (with_key key_view name es) ≡ with_key key_of name (map entry_view es) → (b : Bool) → option_map entry_view (cond b (Some e) (with_key key_view name es)) ≡ cond b (Some (entry_view e)) (with_key key_of name (map entry_view es))
    by_test more true = refl
    by_test more false = more
