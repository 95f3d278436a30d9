-- In which pieces of a text a tree is spelled: character data, references, CDATA sections, comments and processing instructions. Characters are
-- numbers.
use Rattle.std.specs.Prelude.{ℕ, List, ◌∷◌, ◌++◌}
use Rattle.xml_text.specs.Tokens.{At, Token, Nothing}
use Rattle.xml_tree.specs.Trees.{Element}
use Rattle.xml_tree.specs.Scope.{Scope}
use Rattle.xml_tree.specs.Grammar.{AreTextOf, IsElement, IsDocument}

-- In an element, after its start-tag and before its end-tag, other pieces that give the same text spell the same.
abbrev pub PiecesOfOneTextSpellTheSame : Type 0
PiecesOfOneTextSpellTheSame =
    (scope : Scope) (e : Element) (start end : At Token) (before old new after rest : List (At Token)) (t : List ℕ) → AreTextOf old t → AreTextOf new t
    → IsElement scope (start ∷ before ++ (old ++ (after ++ end ∷ rest))) e rest → IsElement scope (start ∷ before ++ (new ++ (after ++ end ∷ rest))) e rest

-- Between any two tokens of a text one more comment or processing instruction spells nothing.
abbrev pub CommentsSpellNothing : Type 0
CommentsSpellNothing = (e : Element) (before after : List (At Token)) (left : ℕ) → IsDocument (before ++ after) e → IsDocument (before ++ record { v = Nothing; left = left } ∷ after) e
