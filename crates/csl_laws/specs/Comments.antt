-- Comments and processing instructions in texts. Texts are characters.
use Rattle.std.specs.Prelude.{ℕ, List, [], ◌++◌}
use Rattle.xml_text.specs.Tokens.{At, Token, Nothing}
use Rattle.xml_text.specs.Grammar.{IsToken, AreTokens}
use Rattle.xml_text.specs.Prolog.{IsProlog}
use Rattle.xml_tree.specs.Trees.{Element}
use Rattle.xml_tree.specs.Grammar.{Spells}
use Rattle.csl_laws.specs.Laws.{SayTheSame}

-- a comment or a processing instruction, whatever follows it
abbrev pub IsNote : List ℕ → Type 0
IsNote note = (rest : List ℕ) → IsToken (note ++ rest) Nothing rest

-- After its declaration a text says the same with one more of these between two of its tokens.
abbrev pub NotesSayNothing : Type 0
NotesSayNothing =
    (start front note back : List ℕ) (before after : List (At Token)) → IsProlog (start ++ (front ++ back)) (front ++ back) → AreTokens (front ++ back) before back → AreTokens back after []
    → IsNote note → (x : Element) → Spells x (start ++ (front ++ back)) → SayTheSame (start ++ (front ++ back)) (start ++ (front ++ (note ++ back)))
