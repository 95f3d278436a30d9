-- What is printed last.
use Rattle.std.specs.Prelude.{Bool, true, false, List, [], ◌∷◌, if◌then◌else◌}
use Rattle.std.specs.Char.{is_whitespace}
use Rattle.rendering_tree.specs.Tokens.{Token, letter, opening, closing, mark, unmark}
use Rattle.rendering_tree.specs.Trees.{Children, flat, tree_of}

-- whether anything is printed but the starts and ends of elements
abbrev pub has_end : List Token → Bool
has_end [] = false
has_end (opening d m ∷ ts) = has_end ts
has_end (closing ∷ ts) = has_end ts
has_end (mark ∷ ts) = has_end ts
has_end (unmark ∷ ts) = has_end ts
has_end (t ∷ ts) = true

-- what is printed without the white space at its end, whatever begins or ends there
abbrev pub trimmed : List Token → List Token
trimmed [] = []
trimmed (letter f c ∷ ts) = if is_whitespace c then trimmed ts else letter f c ∷ ts
trimmed (opening d m ∷ ts) = opening d m ∷ trimmed ts
trimmed (closing ∷ ts) = closing ∷ trimmed ts
trimmed (mark ∷ ts) = mark ∷ trimmed ts
trimmed (unmark ∷ ts) = unmark ∷ trimmed ts
trimmed (t ∷ ts) = t ∷ ts

-- a tree in its normal form without the white space at its end
abbrev pub trimmed_tree : Children → Children
trimmed_tree xs = tree_of (trimmed (flat xs))
