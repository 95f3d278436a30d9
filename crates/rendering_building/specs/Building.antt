-- A tree that is read from the end of a page on.
use Rattle.std.specs.Prelude.{◌≡◌, ℕ, ◌≤◌, Bool, false, List, [], ◌∷◌, ◌++◌, drop, length, reverse, take, if◌then◌else◌, min}
use Rattle.std.specs.List.{flat_map}
use Rattle.rendering_taxonomy.specs.declared.formatting.Formatting.{Formatting}
use Rattle.rendering_taxonomy.specs.Formats.{looks_like}
use Rattle.rendering_tree.specs.Trees.{Child, Children, Text, nothing, before, Nest, before_text}
use Rattle.rendering_tree.specs.Views.{children_view}
use Rattle.rendering_tree.specs.declared.element.ElemChild.{ElemChild}
use Rattle.rendering_page.specs.Views.{words_view}
use Rattle.rendering_building.specs.declared.builder.Builder.{Builder}
use Rattle.rendering_page.specs.declared.piece.Words.{Words}

-- a text before what was read
abbrev pub text_before : Formatting → List ℕ → Children → Children
text_before f [] xs = xs
text_before f (c ∷ cs) xs = before_text f c (text_before f cs xs)

-- a text before a child and what follows it
abbrev pub text_on : Formatting → List ℕ → Child → Children → Children
text_on f cs (Text g ds) xs = if looks_like f g then before (Text g (cs ++ ds)) xs else before (Text f cs) (before (Text g ds) xs)
text_on f cs x xs = before (Text f cs) (before x xs)

-- texts one after the other, of which the last stands first
abbrev pub joined : List Words → List ℕ
joined parts = flat_map words_view (reverse parts)

-- children of which the last stands first
abbrev pub backwards : List ElemChild → Children
backwards xs = children_view (reverse xs)

-- the children from an index on
abbrev pub level : ℕ → List ElemChild → Children
level start xs = backwards (drop start xs)

-- the children of elements around, which begin at these indices, the innermost first
abbrev pub levels : List ElemChild → List ℕ → List Children
levels xs [] = []
levels xs (start ∷ starts) = level start xs ∷ levels (take start xs) starts

-- the text that is being read
abbrev pub text_read : Builder → List ℕ
text_read b = words_view b.words ++ joined b.after.items

-- what was read
abbrev pub nest_of : Builder → Nest
nest_of b = record {
  inside = text_before b.formatting (text_read b) (level b.start b.children.items);
  around = levels (take b.start b.children.items) (reverse b.around.items);
}

-- the children of the innermost element begin where there are children, or after them
abbrev pub IsWithin : Builder → Type 0
IsWithin b = b.start ≤ length b.children.items

-- whether a text that looks so joins a child: that is a text that looks like it
abbrev pub joins_child : Formatting → Child → Bool
joins_child f (Text g ds) = looks_like f g
joins_child f x = false

-- whether it joins the first of these children
abbrev pub joins : Formatting → Children → Bool
joins f nothing = false
joins f (before x xs) = joins_child f x

-- the children from an index on with a text before them, and those before that index
abbrev pub IsJoined : Formatting → List ℕ → ℕ → List ElemChild → List ElemChild → Type 0
IsJoined f cs start xs ys = (level start ys ≡ text_before f cs (level start xs)) × (take start ys ≡ take start xs) × (start ≤ length ys)

-- where the children of the next element around begin, at the end where there is none
abbrev pub next_start : List ℕ → ℕ → ℕ
next_start [] end = end
next_start (start ∷ starts) end = min start end
