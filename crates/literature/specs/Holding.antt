-- At which entries a selector holds, and which parents of an entry satisfy one. Bindings play no part here.
use Rattle.std.specs.Prelude.{ℕ, Bool, true, false, not, ◌&&◌, List, [], ◌∷◌, map, if◌then◌else◌, Option, Some, None}
use Rattle.std.specs.List.{list_any, list_all}
use Rattle.std.specs.Option.{option_map}
use Rattle.std.specs.Str.{bytes_eq}
use Rattle.laws.specs.Text.{text, is_filled}
use Rattle.literature_values.specs.EntryTypes.{type_name}
use Rattle.literature_values.specs.declared.entry_type.EntryType.{EntryType}
use Rattle.literature_entries.specs.declared.entry.Entry.{Entry}
use Rattle.literature_entries.specs.Fields.{Fields}
use Rattle.literature_entries.specs.Names.{has}
use Rattle.literature_entries.specs.Views.{fields_view, parents}
use Rattle.literature_entries.specs.EntriesData as wholes
use Rattle.literature_entries.specs.EntriesData.{EntryData, EntriesData, Holding}
use Rattle.literature.specs.Trees.{Tree, Trees, nothing, before}
use Rattle.literature.specs.Trees as trees

-- what a selector says of an entry, and of the parents of one
pub record Meaning (E : Type 0) : Type 0 where
  pub at : E → Bool
  pub above : List E → Bool

-- parents satisfy what holds at one of them
abbrev pub at_one : {E : Type 0} → (E → Bool) → Meaning E
at_one test = record { at = test; above = list_any test }

-- one that was taken, before which another one stands that was not
abbrev pub following : {X : Type 0} → X → X × List X → X × List X
following x p = (p.0, x ∷ p.1)

-- the first that passes the test, and the others in their order; or none passes it
abbrev pub take_first : {X : Type 0} → (X → Bool) → List X → Option (X × List X)
take_first test [] = None
take_first test (x ∷ xs) = if test x then Some (x, xs) else option_map (following x) (take_first test xs)

-- whether one was taken and the others pass
abbrev pub and_others : {X : Type 0} → (List X → Bool) → Option (X × List X) → Bool
and_others pass None = false
and_others pass (Some p) = pass p.1

-- whether each test in turn can take the first that is left and passes it
abbrev pub each_takes : {X : Type 0} → List (X → Bool) → List X → Bool
each_takes [] xs = true
each_takes (test ∷ tests) xs = and_others (each_takes tests) (take_first test xs)

abbrev mutual
  -- A star holds everywhere, a type where it is the entry's, a negation where the negated does not, a binding as what is
  -- bound, one with fields where the entry has each, a choice where one side does, more than one at once never. What asks
  -- of parents holds where the first part does and the parents satisfy the second.
  -- Parents satisfy a negation where they do not satisfy the negated, a choice where they satisfy a side, more than one at
  -- once where each in turn takes the first parent that is left and at which it holds, and any other where it holds at one.
  -- An entry is anything of which it is known of which types it is, which fields it has, and what its parents are.
  pub meaning_by : {E : Type 0} → (EntryType → E → Bool) → (List (List ℕ) → E → Bool) → (E → List E) → Tree → Meaning E
  meaning_by is has ps trees.Any = at_one (λ e. true)
  meaning_by is has ps (trees.Entry t) = at_one (is t)
  meaning_by is has ps (trees.Not x) = record { at = λ e. not ((meaning_by is has ps x).at e); above = λ es. not ((meaning_by is has ps x).above es) }
  meaning_by is has ps (trees.Binding n x) = at_one (meaning_by is has ps x).at
  meaning_by is has ps (trees.Attributes x names) = at_one (λ e. (meaning_by is has ps x).at e && has names e)
  meaning_by is has ps (trees.Alternatives xs) = record { at = λ e. list_any (λ m. m.at e) (meanings_by is has ps xs); above = λ es. list_any (λ m. m.above es) (meanings_by is has ps xs) }
  meaning_by is has ps (trees.Multi xs) = record { at = λ e. false; above = λ es. each_takes (map (λ m. m.at) (meanings_by is has ps xs)) es }
  meaning_by is has ps (trees.Ancestry x y) = at_one (λ e. (meaning_by is has ps x).at e && (meaning_by is has ps y).above (ps e))

  -- the same of each
  pub meanings_by : {E : Type 0} → (EntryType → E → Bool) → (List (List ℕ) → E → Bool) → (E → List E) → Trees → List (Meaning E)
  meanings_by is has ps nothing = []
  meanings_by is has ps (before x xs) = meaning_by is has ps x ∷ meanings_by is has ps xs

-- whether fields are those of an entry of the type, by the names of both types
abbrev pub is_type_of : EntryType → Fields → Bool
is_type_of t fs = bytes_eq (type_name t) (type_name fs.entry_type)

-- whether an entry of the code is of the type
abbrev pub is_of : EntryType → Entry → Bool
is_of t e = is_type_of t (fields_view e)

-- whether it has each of the named fields
abbrev pub has_each : List (List ℕ) → Entry → Bool
has_each names e = list_all (λ n. has (text n) (fields_view e) (is_filled (parents e))) names

-- what a selector says of entries of the code
abbrev pub meaning : Tree → Meaning Entry
meaning x = meaning_by is_of has_each parents x

-- the same of each
abbrev pub meanings : Trees → List (Meaning Entry)
meanings xs = meanings_by is_of has_each parents xs

-- whether the selector holds at an entry of the code
abbrev pub holds : Tree → Entry → Bool
holds x e = (meaning x).at e

-- what a work says of itself, and the works that it is part of
abbrev pub fields_of_work : EntryData → Fields
fields_of_work (Holding key fs ws) = fs

abbrev pub listed : EntriesData → List EntryData
listed wholes.nothing = []
listed (wholes.before w ws) = w ∷ listed ws

abbrev pub outer_works : EntryData → List EntryData
outer_works (Holding key fs ws) = listed ws

-- whether a work is of the type
abbrev pub is_work_of : EntryType → EntryData → Bool
is_work_of t w = is_type_of t (fields_of_work w)

-- whether it has each of the named fields
abbrev pub work_has_each : List (List ℕ) → EntryData → Bool
work_has_each names w = list_all (λ n. has (text n) (fields_of_work w) (is_filled (outer_works w))) names

-- whether the selector holds at a work
abbrev pub holds_at : Tree → EntryData → Bool
holds_at x w = (meaning_by is_work_of work_has_each outer_works x).at w
