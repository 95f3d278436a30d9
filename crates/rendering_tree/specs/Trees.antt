-- Trees of what was printed, and the flat lists that they stand for.
use Rattle.std.specs.Prelude.{ℕ, Bool, true, false, List, [], ◌∷◌, ◌++◌, fold, if◌then◌else◌, Option, Some, None}
use Rattle.std.specs.List.{find}
use Rattle.std.specs.Option.{option_map, option_map_or}
use Rattle.rendering_taxonomy.specs.Formats.{looks_like}
use Rattle.rendering_tree.specs.Metas.{Meta, is_meta, is_names}
use Rattle.rendering_tree.specs.Tokens.{Token, letter, formula, link, transparent, opening, closing, mark, unmark, with_letters}
use Rattle.rendering_taxonomy.specs.declared.formatting.Display.{Display}
use Rattle.rendering_taxonomy.specs.declared.formatting.Formatting.{Formatting}

mutual
  -- a text that looks so, an element with its display and its meaning, a formula, a link from a text to an address,
  -- a locator of the caller's own by the index of its cite
  pub data Child : Type 0 where
    Text : Formatting → List ℕ → Child
    Elem : Option Display → Option Meta → Children → Child
    Markup : List ℕ → Child
    Link : Formatting → List ℕ → List ℕ → Child
    Transparent : Formatting → ℕ → Child

  -- a list of them
  pub data Children : Type 0 where
    nothing : Children
    before : Child → Children → Children

-- a list as an element has it
abbrev pub children_of : List Child → Children
children_of [] = nothing
children_of (x ∷ xs) = before x (children_of xs)

-- whether there are none
abbrev pub is_nothing : Children → Bool
is_nothing nothing = true
is_nothing (before x xs) = false

-- an element without display and meaning is only what it contains
abbrev pub enclosed : Option Display → Option Meta → List Token → List Token
enclosed None None inside = inside
enclosed d m inside = closing ∷ inside ++ opening d m ∷ []

abbrev mutual
  -- the tokens of a child, the last first
  pub flat_child : Child → List Token
  flat_child (Text f cs) = with_letters f cs []
  flat_child (Elem d m xs) = enclosed d m (flat xs)
  flat_child (Markup cs) = formula cs ∷ []
  flat_child (Link f cs url) = link f cs url ∷ []
  flat_child (Transparent f n) = transparent f n ∷ []

  -- the tokens of a list, the last first
  pub flat : Children → List Token
  flat nothing = []
  flat (before x xs) = flat xs ++ flat_child x

-- What is read from the end on: what was read of the element that is being read, and of those around it, the nearest first.
pub record Nest : Type 0 where
  pub inside : Children
  pub around : List Children

-- a character before what is read; it joins a text that looks like it
abbrev pub before_text : Formatting → ℕ → Children → Children
before_text f c nothing = before (Text f (c ∷ [])) nothing
before_text f c (before (Text g cs) xs) = if looks_like f g then before (Text g (c ∷ cs)) xs else before (Text f (c ∷ [])) (before (Text g cs) xs)
before_text f c (before x xs) = before (Text f (c ∷ [])) (before x xs)

-- an element is read whole, and stands before what was read around it
abbrev pub element_read : Option Display → Option Meta → Children → List Children → Nest
element_read d m inside [] = record { inside = before (Elem d m inside) nothing; around = [] }
element_read d m inside (after ∷ around) = record { inside = before (Elem d m inside) after; around = around }

-- the next token, read from the end on
abbrev pub take_token : Nest → Token → Nest
take_token n (letter f c) = record n { inside = before_text f c n.inside }
take_token n (formula cs) = record n { inside = before (Markup cs) n.inside }
take_token n (link f cs url) = record n { inside = before (Link f cs url) n.inside }
take_token n (transparent f k) = record n { inside = before (Transparent f k) n.inside }
take_token n closing = record { inside = nothing; around = n.inside ∷ n.around }
take_token n (opening d m) = element_read d m n.inside n.around
take_token n mark = n
take_token n unmark = n

-- the tree of a page
abbrev pub tree_of : List Token → Children
tree_of ts = (fold take_token (record { inside = nothing; around = [] }) ts).inside

-- The normal form of a tree: without elements that have neither display nor meaning, without empty texts, and no two texts that
-- look alike beside each other.
abbrev pub simplified : Children → Children
simplified xs = tree_of (flat xs)

-- an element by itself
pub record Element : Type 0 where
  pub display : Option Display
  pub meta : Option Meta
  pub children : Children

abbrev mutual
  -- the elements of a child, each before those that it contains
  pub elements_in : Child → List Element
  elements_in (Elem d m xs) = record { display = d; meta = m; children = xs } ∷ elements xs
  elements_in (Text f cs) = []
  elements_in (Markup cs) = []
  elements_in (Link f cs url) = []
  elements_in (Transparent f n) = []

  -- the elements of children, each before those that it contains
  pub elements : Children → List Element
  elements nothing = []
  elements (before x xs) = elements_in x ++ elements xs

-- the first element that passes a test
abbrev pub element_by : (Element → Bool) → Children → Option Element
element_by test xs = find test (elements xs)

-- the first element with that meaning
abbrev pub element_with : Meta → Children → Option Element
element_with m xs = element_by (λ e. option_map_or (is_meta m) e.meta false) xs

-- the first element that stands for a names node
abbrev pub names_element : Children → Option Element
names_element xs = element_by (λ e. option_map_or is_names e.meta false) xs

-- two lists one after the other
abbrev pub followed_by : Children → Children → Children
followed_by nothing ys = ys
followed_by (before x xs) ys = before x (followed_by xs ys)

-- an element, and the rest without it
abbrev pub Parted : Type 0
Parted = Option (Element × Children)

-- the rest stands in its element as before
abbrev pub rest_inside : Option Display → Parted → Parted
rest_inside d p = option_map (λ q. (q.0, before (Elem d None q.1) nothing)) p

-- the rest of a child stands before the others; where the child has no such element the others are asked
abbrev pub rest_before : Child → Children → Parted → Parted → Parted
rest_before x xs (Some p) others = Some (p.0, followed_by p.1 xs)
rest_before x xs None others = option_map (λ q. (q.0, before x q.1)) others

abbrev mutual
  -- the first element that stands for something, and the rest of a child without it
  pub parted_in : Child → Parted
  parted_in (Elem d (Some m) xs) = Some (record { display = d; meta = Some m; children = xs }, nothing)
  parted_in (Elem d None xs) = rest_inside d (parted xs)
  parted_in x = None

  -- the first element of children that stands for something, and the rest without it
  pub parted : Children → Parted
  parted nothing = None
  parted (before x xs) = rest_before x xs (parted_in x) (parted xs)
