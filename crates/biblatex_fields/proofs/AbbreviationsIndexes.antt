-- The map from names to the indices of their definitions, and what stands at an index.
use Rattle.std.proofs.Common.{◌≡◌, ℕ, zero, suc, ◌<◌, Bool, true, false, cond, List, [], ◌∷◌, ◌++◌, map, length, get_or, Option, Some, refl, sym, ◌∙◌, arith}
use Rattle.std.specs.Str.{bytes_eq}
use Rattle.std.proofs.lemmas.Slice.Eq.{bytes_eq-Decides}
use Rattle.std.proofs.lemmas.Bool.Decides.{same_from_decides}
use Rattle.std.proofs.lemmas.List.{map_push, length-map}
use Rattle.laws.specs.Text.{lowered}
use Rattle.biblatex_text.specs.Raw.{Field}
use Rattle.biblatex_text.specs.Views.{field_view, pieces_view}
use Rattle.biblatex_text.specs.declared.raw.Pair.{Pair}
use Rattle.biblatex_fields.specs.Abbreviations.{index_of, later, pieces_at}

put : (b t : Bool) (n : ℕ) (o p : Option ℕ) → p ≡ cond b (Some n) o → later p t ≡ cond b (Some (suc n)) (later o t)
put true t n o p e = rw e refl
put false t n o p e = rw e refl

-- a definition put last is what its name means, and no other name changes
pub index_of-last : (name : List ℕ) (ds : List Field) (d : Field) → index_of name (ds ++ d ∷ []) ≡ cond (bytes_eq name (lowered d.name.v)) (Some (length ds)) (index_of name ds)
index_of-last name [] d = refl
index_of-last name (e ∷ ds) d = put (bytes_eq name (lowered d.name.v)) (bytes_eq name (lowered e.name.v)) (length ds) (index_of name ds) (index_of name (ds ++ d ∷ [])) (index_of-last name ds d)

bytes_eq-turned : (xs ys : List ℕ) → bytes_eq xs ys ≡ bytes_eq ys xs
bytes_eq-turned xs ys = same_from_decides (bytes_eq xs ys) (bytes_eq ys xs) (bytes_eq-Decides xs ys)
    ((λ e. sym ((bytes_eq-Decides ys xs).0 e)), (λ e. (bytes_eq-Decides ys xs).1 (sym e)))

-- the index with the name of one more definition
pub index_put : (o : Option ℕ) (name key : List ℕ) (n : ℕ) (ps : List Pair) (p : Pair) → o ≡ index_of name (map field_view ps) → key ≡ lowered (field_view p).name.v → n ≡ length ps
    → cond (bytes_eq key name) (Some n) o ≡ index_of name (map field_view (ps ++ p ∷ []))
index_put o name key n ps p old same count =
    let counted : n ≡ length (map field_view ps) = count ∙ sym (length-map ps field_view) in
    rw (map_push field_view ps p, index_of-last name (map field_view ps) (field_view p), bytes_eq-turned key name, ← same, ← counted, old) refl

-- the pieces of the definition at an index
pub pieces_there : (ps : List Pair) (index : ℕ) (d : Pair) → index < length ps → pieces_at (map field_view ps) index ≡ pieces_view (get_or ps index d).value.v
pieces_there [] index d within = absurd (omega (arith, within))
pieces_there (p ∷ ps) zero d within = refl
pieces_there (p ∷ ps) (suc index) d within = pieces_there ps index d (omega (arith, within))
