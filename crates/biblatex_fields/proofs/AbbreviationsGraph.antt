-- Walks from definition to definition.
use Rattle.std.proofs.Common.{◌≡◌, ℕ, zero, suc, ◌<◌, Bool, true, false, List, [], ◌∷◌, map, length, get_or, All, Contains, flat_map, Option, Some, None, refl, sym, subst, arith}
use Rattle.std.specs.Str.{bytes_eq}
use Rattle.laws.specs.Text.{lowered}
use Rattle.std.proofs.lemmas.List.Elements.{All-contains, All-nil, All-cons, All-weaker, Contains-append_left, Contains-append_right}
use Rattle.biblatex_text.specs.Raw.{At, Piece, Field}
use Rattle.reference_graph.specs.References.{Walk}
use Rattle.biblatex_fields.specs.Abbreviations.{index_of, later, pieces_at, named, references_of, references}

-- from one index to another by one reference or more
abbrev pub Reaches : List (List ℕ) → ℕ → ℕ → Type 0
Reaches rs a b = (n : ℕ) × Walk rs a b (suc n)

walk_on : (rs : List (List ℕ)) (a b c : ℕ) (n : ℕ) → Walk rs a b n → Contains (get_or rs b []) c → Walk rs a c (suc n)
walk_on rs a b c zero w k = (c, subst (λ (x : ℕ). Contains (get_or rs x []) c) (sym w) k, refl)
walk_on rs a b c (suc n) w k = (w.0, w.1, walk_on rs w.0 b c n w.2 k)

-- a step, and a walk that goes one step on
pub one_step : (rs : List (List ℕ)) (a b : ℕ) → Contains (get_or rs a []) b → Reaches rs a b
one_step rs a b k = (zero, walk_on rs a a b zero refl k)

pub step_on : (rs : List (List ℕ)) (a b c : ℕ) → Reaches rs a b → Contains (get_or rs b []) c → Reaches rs a c
step_on rs a b c r k = (suc r.0, walk_on rs a b c (suc r.0) r.1 k)

-- what a part gives, the whole gives
abbrev Given : {X Y : Type 0} → (X → List Y) → List X → X → Type 0
Given {X} {Y} f xs x = (y : Y) → Contains (f x) y → Contains (flat_map f xs) y

contains_each : {X Y : Type 0} (f : X → List Y) (xs : List X) → All (Given f xs) xs
contains_each f [] = All-nil (Given f [])
contains_each {X} {Y} f (x ∷ xs) =
    let here : Given f (x ∷ xs) x = λ y k. Contains-append_left (f x) (flat_map f xs) y k in
    let more : (z : X) → Given f xs z → Given f (x ∷ xs) z = λ z h y k. Contains-append_right (f x) (flat_map f xs) y (h y k) in
    All-cons (Given f (x ∷ xs)) x xs here (All-weaker (Given f xs) (Given f (x ∷ xs)) more xs (contains_each f xs))

pub contains_flat_map : {X Y : Type 0} (f : X → List Y) (xs : List X) (x : X) (y : Y) → Contains xs x → Contains (f x) y → Contains (flat_map f xs) y
contains_flat_map f xs x y k h = All-contains (Given f xs) xs x (contains_each f xs) k y h

-- a name's index is a definition's
pub index_within : (name : List ℕ) (ds : List Field) (index : ℕ) → index_of name ds ≡ Some index → index < length ds
index_within name [] index e = absurd cc
index_within name (d ∷ ds) index e = by_index (index_of name ds) (λ i h. index_within name ds i h) (bytes_eq name (lowered d.name.v)) e
  where
    by_index : (o : Option ℕ) → ((i : ℕ) → o ≡ Some i → i < length ds) → (b : Bool) → later o b ≡ Some index → index < length (d ∷ ds)
    by_index (Some i) h b e = let within = h i refl in let same : suc i ≡ index = cc in omega (arith, within, same)
    by_index None h true e = let same : 0 ≡ index = cc in omega (arith, same)
    by_index None h false e = absurd cc

-- the references of the definition at an index
pub references_at : (all ds : List Field) (index : ℕ) → get_or (map (λ (d : Field). references_of all d.value.v) ds) index [] ≡ references_of all (pieces_at ds index)
references_at all [] index = refl
references_at all (d ∷ ds) zero = refl
references_at all (d ∷ ds) (suc index) = references_at all ds index

-- what a piece of a definition names, the definition refers to
pub refers : (ds : List Field) (index : ℕ) (q : At Piece) (i : ℕ) → Contains (pieces_at ds index) q → Contains (named ds q.v) i → Contains (get_or (references ds) index []) i
refers ds index q i k h = subst (λ (rs : List ℕ). Contains rs i) (sym (references_at ds ds index)) (contains_flat_map (λ (p : At Piece). named ds p.v) (pieces_at ds index) q i k h)
