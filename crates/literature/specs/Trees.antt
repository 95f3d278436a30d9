-- Selectors as plain data.
use Rattle.std.specs.Prelude.{ℕ, List, [], ◌∷◌}
use Rattle.literature_values.specs.declared.entry_type.EntryType.{EntryType}

mutual
  -- every entry, an entry of a type, what a selector does not ask, one with a name for what it holds at, one with names of
  -- fields, one of several, several of which each in turn takes the first parent that is left and at which it holds, one of
  -- an entry and another of its parents
  pub data Tree : Type 0 where
    Any : Tree
    Entry : EntryType → Tree
    Not : Tree → Tree
    Binding : List ℕ → Tree → Tree
    Attributes : Tree → List (List ℕ) → Tree
    Alternatives : Trees → Tree
    Multi : Trees → Tree
    Ancestry : Tree → Tree → Tree

  -- a list of trees
  pub data Trees : Type 0 where
    nothing : Trees
    before : Tree → Trees → Trees

-- a list of trees as one of them holds it
abbrev pub trees_of : List Tree → Trees
trees_of [] = nothing
trees_of (x ∷ xs) = before x (trees_of xs)

-- one alone is no choice
abbrev pub one_or_alternatives : Tree → List Tree → Tree
one_or_alternatives x [] = x
one_or_alternatives x (y ∷ ys) = Alternatives (trees_of (x ∷ y ∷ ys))

-- one alone is itself
abbrev pub one_or_multi : Tree → List Tree → Tree
one_or_multi x [] = x
one_or_multi x (y ∷ ys) = Multi (trees_of (x ∷ y ∷ ys))

-- without names there is nothing to add
abbrev pub with_attributes : Tree → List (List ℕ) → Tree
with_attributes x [] = x
with_attributes x (n ∷ ns) = Attributes x (n ∷ ns)
