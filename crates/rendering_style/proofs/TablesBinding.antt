-- A table from names to indices in which one more name means an index.
use Rattle.std.proofs.Common.{◌≡◌, ℕ, Bool, true, false, cond, List, Option, Some, None, string_bytes, refl, sym, ap, ◌∙◌}
use Rattle.std.specs.Global.{Global}
use Rattle.std.specs.Prelude.{String}
use Rattle.std.specs.Option.{is_some, option_or}
use Rattle.std.specs.Str.{bytes_eq}
use Rattle.std.specs.String.{string_cmp}
use Rattle.std.specs.BTreeMap.{BTreeMap, get_by_text, Updates}
use Rattle.std.proofs.lemmas.Slice.Eq.{bytes_eq-Decides}
use Rattle.std.proofs.lemmas.Map.Text.{btree_map_updates_text}

-- or else nothing
or_nothing : (o : Option ℕ) → o ≡ option_or o None
or_nothing None = refl
or_nothing (Some n) = refl

nothing : (o : Option ℕ) → is_some o ≡ false → o ≡ None
nothing None e = refl
nothing (Some n) e = cc

-- a name that meant nothing means an index
pub bound : (old new : BTreeMap (String Global) ℕ) (key : String Global) (name : List ℕ) (index : ℕ) → string_bytes key ≡ name → is_some (get_by_text old name) ≡ false → Updates string_cmp old new key (Some index)
    → (q : List ℕ) → get_by_text new q ≡ option_or (get_by_text old q) (cond (bytes_eq name q) (Some index) None)
bound old new key name index is none told q =
    btree_map_updates_text (string_bytes key) old new (Some index) told q ∙ (ap (λ (k : List ℕ). cond (bytes_eq k q) (Some index) (get_by_text old q)) is ∙ by_test (bytes_eq name q) refl)
  where
    by_test : (b : Bool) → bytes_eq name q ≡ b → cond b (Some index) (get_by_text old q) ≡ option_or (get_by_text old q) (cond b (Some index) None)
    by_test true e = ap (λ (o : Option ℕ). option_or o (Some index)) (sym (ap (get_by_text old) (sym ((bytes_eq-Decides name q).0 e)) ∙ nothing (get_by_text old name) none))
    by_test false e = or_nothing (get_by_text old q)
