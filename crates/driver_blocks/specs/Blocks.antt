-- How the cites of one request are gathered in blocks: those with the same names go together.
use Rattle.std.specs.Prelude.{ℕ, ◌+◌, Bool, false, ◌&&◌, ◌||◌, List, [], ◌∷◌, ◌++◌, map, filter, take, drop, is_some, if◌then◌else◌, Option, Some}
use Rattle.std.specs.List.{list_any, flat_map, enumerate_from}
use Rattle.std.specs.Option.{option_or}
use Rattle.std.specs.Str.{bytes_eq}
use Rattle.laws.specs.Text.{text}
use Rattle.rendering_tree.specs.Same.{is_element}
use Rattle.rendering_tree.specs.Trees.{Element}
use Rattle.rendering_tree.specs.Writing.{plain_text}
use Rattle.rendering_style.specs.Styles.{Citation}
use Rattle.driver_requests.specs.Suffixes.{Suffix}
use Rattle.driver_blocks.specs.Shown.{people_inside, shown_people}

-- A cite as it is gathered and collapsed: the cite; its names element and, if it prints a citation number, its number, both as printed by
-- its state without its locator; whether it is shown, whether it has a locator, and the year suffix of its entry.
pub record Gathered (X : Type 0) : Type 0 where
  pub cite : X
  pub names : Option Element
  pub number : Option ℕ
  pub is_shown : Bool
  pub has_locator : Bool
  pub suffix : Option Suffix

-- whether two names elements are the same; none is not the same as none
abbrev pub are_same_names : Option Element → Option Element → Bool
are_same_names (Some e) (Some f) = is_element e f
are_same_names e f = false

-- The text that a names element prints, and after it the names of the people who are printed in all their parts; people
-- behind those who are printed do not stand in it.
abbrev pub names_text : Element → List ℕ
names_text e = text (plain_text e.children ++ shown_people (people_inside [] e.meta) e.children)

-- whether two names elements print the same text of the same people; none does not print what none prints
abbrev pub are_alike_names : Option Element → Option Element → Bool
are_alike_names (Some e) (Some f) = bytes_eq (names_text e) (names_text f)
are_alike_names e f = false

-- Whether two cites are of one block: their names are the same, or, where cites are gathered by the text, print the same people
-- alike.
abbrev pub is_of_block : {X : Type 0} → Bool → Gathered X → Gathered X → Bool
is_of_block by_text c d =
    if by_text then are_alike_names c.names d.names else are_same_names c.names d.names

-- all members that go with one, where it is the first of them; else nothing
abbrev pub gathered_at : {Y : Type 0} → (Y → Y → Bool) → List Y → ℕ × Y → List (List Y)
gathered_at same ys (i, y) = if list_any (same y) (take i ys) then [] else (y ∷ filter (same y) (drop (i + 1) ys)) ∷ []

-- Members gathered in order at the first of them.
abbrev pub gathered : {Y : Type 0} → (Y → Y → Bool) → List Y → List (List Y)
gathered same ys = flat_map (gathered_at same ys) (enumerate_from 0 ys)

-- whether cites of a style are gathered
abbrev pub gathers : Citation → Bool
gathers c = is_some c.cite_group_delimiter || (is_some c.collapse && is_some c.layout.delimiter)

-- The blocks of a citation: the cites that go together, or each cite by itself where they are not gathered or it has no names.
abbrev pub blocks : {X : Type 0} → Citation → List (Gathered X) → List (List (Gathered X))
blocks c xs =
    if gathers c then gathered (is_of_block c.gathers_by_text) xs else map (λ x. x ∷ []) xs

-- the delimiter before each cite of a block but the first
abbrev pub inside_delimiter : Citation → Option (List ℕ)
inside_delimiter c = option_or c.cite_group_delimiter c.layout.delimiter
