-- What the names of a selector are bound to where it holds, in the order of the text; of equal names the last that is bound
-- counts. Names are bytes.
use Rattle.std.specs.Prelude.{ℕ, Bool, List, [], ◌∷◌, ◌++◌, if◌then◌else◌, Option, Some, None}
use Rattle.std.specs.Str.{bytes_eq}
use Rattle.laws.specs.Text.{text}
use Rattle.literature_entries.specs.declared.entry.Entry.{Entry}
use Rattle.literature_entries.specs.Views.{parents}
use Rattle.literature.specs.Trees.{Tree, Trees, nothing, before}
use Rattle.literature.specs.Trees as trees
use Rattle.literature.specs.Holding.{Meaning, meaning, take_first, holds}

-- names with the entries that they are bound to, in the order of the text
abbrev pub Bound : Type 0
Bound = List (List ℕ × Entry)

-- what is bound where a selector holds at an entry, and where the parents of one satisfy it
pub record Binds : Type 0 where
  pub at : Entry → Bound
  pub above : List Entry → Bound

-- what the first that passes the test binds
abbrev pub of_first : {X : Type 0} → (X → Bool) → (X → Bound) → List X → Bound
of_first test bound [] = []
of_first test bound (x ∷ xs) = if test x then bound x else of_first test bound xs

-- what an entry binds; of parents the first that passes the test binds it
abbrev pub at_first : (Entry → Bool) → (Entry → Bound) → Binds
at_first test bound = record { at = bound; above = of_first test bound }

-- a selector by its meaning and by what it binds
pub record Side : Type 0 where
  pub means : Meaning Entry
  pub binds : Binds

-- what was taken binds, and then what the others do
abbrev pub taken_binds : (Entry → Bound) → (List Entry → Bound) → Option (Entry × List Entry) → Bound
taken_binds bound others None = []
taken_binds bound others (Some p) = bound p.0 ++ others p.1

-- what each in turn binds, at the first parent that is left and at which it holds
abbrev pub each_binds : List Side → List Entry → Bound
each_binds [] ps = []
each_binds (s ∷ ss) ps = taken_binds s.binds.at (each_binds ss) (take_first s.means.at ps)

abbrev mutual
  -- A name is bound to the entry at which what stands after it holds. A choice binds what its first side does that holds,
  -- or that the parents satisfy. What asks of parents binds first what the entry does. Nothing is bound under a negation.
  pub binds : Tree → Binds
  binds trees.Any = at_first (meaning trees.Any).at (λ e. [])
  binds (trees.Entry t) = at_first (meaning (trees.Entry t)).at (λ e. [])
  binds (trees.Not x) = record { at = λ e. []; above = λ ps. [] }
  binds (trees.Binding n x) = at_first (meaning (trees.Binding n x)).at (λ e. (text n, e) ∷ (binds x).at e)
  binds (trees.Attributes x names) = at_first (meaning (trees.Attributes x names)).at (binds x).at
  binds (trees.Alternatives xs) = record {
    at = λ e. of_first (λ s. s.means.at e) (λ s. s.binds.at e) (sides xs);
    above = λ ps. of_first (λ s. s.means.above ps) (λ s. s.binds.above ps) (sides xs);
  }
  binds (trees.Multi xs) = record { at = λ e. []; above = each_binds (sides xs) }
  binds (trees.Ancestry x y) = at_first (meaning (trees.Ancestry x y)).at (λ e. (binds x).at e ++ (binds y).above (parents e))

  -- each tree with its meaning and what it binds
  pub sides : Trees → List Side
  sides nothing = []
  sides (before x xs) = record { means = meaning x; binds = binds x } ∷ sides xs

-- what is bound where the selector holds at the entry
abbrev pub bindings : Tree → Entry → Bound
bindings x e = (binds x).at e

-- the second value, or the first where there is no second
abbrev pub later_or : {X : Type 0} → Option X → Option X → Option X
later_or earlier None = earlier
later_or earlier (Some x) = Some x

-- the last entry that is bound to the name
abbrev pub last_bound : List ℕ → Bound → Option Entry
last_bound name [] = None
last_bound name (b ∷ bs) = later_or (if bytes_eq name b.0 then Some b.1 else None) (last_bound name bs)

-- the last entry that is bound to the name where the selector holds at the entry
abbrev pub bound_to : Tree → Entry → List ℕ → Option Entry
bound_to x e name = if holds x e then last_bound name (bindings x e) else None

-- a binding instead of an earlier one of its name, else at the end
abbrev pub set : List ℕ × Entry → Bound → Bound
set b [] = b ∷ []
set b (c ∷ cs) = if bytes_eq b.0 c.0 then (c.0, b.1) ∷ cs else c ∷ set b cs

-- bindings set one after the other
abbrev pub settle : Bound → Bound → Bound
settle done [] = done
settle done (b ∷ bs) = settle (set b done) bs

-- each name once, where it was bound first, with its last entry
abbrev pub settled : Bound → Bound
settled bs = settle [] bs
