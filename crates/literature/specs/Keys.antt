-- Lists of things with keys, as a library holds its entries. Keys are bytes.
use Rattle.std.specs.Prelude.{◌≡◌, ℕ, Bool, true, not, ◌&&◌, List, [], ◌∷◌, if◌then◌else◌, Option, find}
use Rattle.std.specs.List.{list_any}
use Rattle.std.specs.Str.{bytes_eq}

-- the first with that key
abbrev pub with_key : {X : Type 0} → (X → List ℕ) → List ℕ → List X → Option X
with_key key name xs = find (λ x. bytes_eq name (key x)) xs

-- the list with x, instead of the first that has its key, else at the end
abbrev pub put : {X : Type 0} → (X → List ℕ) → List X → X → List X
put key [] x = x ∷ []
put key (y ∷ ys) x = if bytes_eq (key x) (key y) then x ∷ ys else y ∷ put key ys x

-- the list without the first that has that key; what follows closes up
abbrev pub without_key : {X : Type 0} → (X → List ℕ) → List ℕ → List X → List X
without_key key name [] = []
without_key key name (y ∷ ys) = if bytes_eq name (key y) then ys else y ∷ without_key key name ys

-- whether no key stands twice
abbrev pub are_distinct : {X : Type 0} → (X → List ℕ) → List X → Bool
are_distinct key [] = true
are_distinct key (x ∷ xs) = not (list_any (λ y. bytes_eq (key x) (key y)) xs) && are_distinct key xs

-- no key stands twice
abbrev pub AreDistinct : {X : Type 0} → (X → List ℕ) → List X → Type 0
AreDistinct key xs = are_distinct key xs ≡ true
