-- An entry among the works that it is part of, and which of these works answer for it.
use Rattle.std.specs.Prelude.{ℕ, Bool, ◌&&◌, is_some, List, [], ◌∷◌, ◌++◌, if◌then◌else◌, Option, None}
use Rattle.std.specs.List.{find, flat_map, list_any}
use Rattle.std.specs.Str.{bytes_eq}
use Rattle.std.specs.Option.{option_or}
use Rattle.literature_values.specs.EntryTypes.{type_name}
use Rattle.literature_entries.specs.Fields.{Fields}
use Rattle.literature_entries.specs.EntriesData.{EntryData, EntriesData, Holding, nothing, before}
use Rattle.literature_values.specs.declared.entry_type.EntryType.{EntryType}
use Rattle.literature_values.specs.declared.entry_type.EntryType.TheVariants as types

-- An entry with what it says of itself, with what its parents say of themselves, and with what its other ancestors say, by depth
-- and then by path.
pub record Ancestry : Type 0 where
  pub key : List ℕ
  pub own : Fields
  pub parents : List Fields
  pub further : List Fields

-- levels side by side: on each, those of the first before those of the second
abbrev pub beside : {X : Type 0} → List (List X) → List (List X) → List (List X)
beside [] ms = ms
beside (l ∷ ls) [] = l ∷ ls
beside (l ∷ ls) (m ∷ ms) = (l ++ m) ∷ beside ls ms

abbrev mutual
  -- an entry on a level of its own, its parents on the next, their parents on the one after that, and so on
  pub by_level : EntryData → List (List Fields)
  by_level (Holding key fs ws) = (fs ∷ []) ∷ each_by_level ws

  -- the levels of several entries, side by side
  pub each_by_level : EntriesData → List (List Fields)
  each_by_level nothing = []
  each_by_level (before w ws) = beside (by_level w) (each_by_level ws)

-- the first level
abbrev pub first_level : {X : Type 0} → List (List X) → List X
first_level [] = []
first_level (l ∷ ls) = l

-- the levels after the first, one after the other
abbrev pub later_levels : {X : Type 0} → List (List X) → List X
later_levels [] = []
later_levels (l ∷ ls) = flat_map (λ x. x) ls

-- an entry among the works that it is part of
abbrev pub ancestry : EntryData → Ancestry
ancestry (Holding key fs ws) = record { key = key; own = fs; parents = first_level (each_by_level ws); further = later_levels (each_by_level ws) }

-- whether a work is of one of the types
abbrev pub is_one_of : List EntryType → Fields → Bool
is_one_of ts fs = list_any (λ t. bytes_eq (type_name t) (type_name fs.entry_type)) ts

-- what the first of some works says that says something
abbrev pub first_answer : {V : Type 0} → (Fields → Option V) → List Fields → Option V
first_answer look [] = None
first_answer look (fs ∷ more) = option_or (look fs) (first_answer look more)

-- what the entry says, or else the first of its ancestors
abbrev pub nearest : {V : Type 0} → (Fields → Option V) → Ancestry → Option V
nearest look s = first_answer look (s.own ∷ (s.parents ++ s.further))

-- the first parent of one of the types
abbrev pub first_parent : List EntryType → Ancestry → Option Fields
first_parent ts s = find (is_one_of ts) s.parents

-- the types of the works that contain others; an anthology contains its parts alone
abbrev pub types_of_containers : Fields → List EntryType
types_of_containers fs =
    if is_one_of (types.Anthos ∷ []) fs then types.Periodical ∷ types.Book ∷ types.Proceedings ∷ types.Reference ∷ types.Anthology ∷ []
    else types.Periodical ∷ types.Book ∷ types.Proceedings ∷ types.Reference ∷ []

-- the container: the first parent that can contain the entry
abbrev pub container : Ancestry → Option Fields
container s = first_parent (types_of_containers s.own) s

-- a list without the first that passes the test
abbrev pub without_first : {X : Type 0} → (X → Bool) → List X → List X
without_first test [] = []
without_first test (x ∷ xs) = if test x then xs else x ∷ without_first test xs

-- the parents other than the container
abbrev pub other_parents : Ancestry → List Fields
other_parents s = without_first (is_one_of (types_of_containers s.own)) s.parents

-- the first anthology of some works
abbrev pub first_anthology : List Fields → Option Fields
first_anthology ws = find (is_one_of (types.Anthology ∷ [])) ws

-- the collection: the first anthology among the ancestors other than the container
abbrev pub collection : Ancestry → Option Fields
collection s = first_anthology (other_parents s ++ s.further)

-- whether the entry is an article with a parent of that type
abbrev pub is_article_in : EntryType → Ancestry → Bool
is_article_in t s = is_one_of (types.Article ∷ []) s.own && is_some (first_parent (t ∷ []) s)
