-- Reading a text from the left: what stands there, and the text after it; or the first fault, and the text from where it
-- stands on. A fault is meant to stand after the longest prefix of the text that begins some text of the grammar;
-- a refused text that is such a prefix itself ends too soon. Each function is what one method of the reader gives.
-- Characters are numbers, and n is the number of bytes of the whole text, in which offsets are counted.
use Rattle.std.specs.Prelude.{ℕ, ◌-◌, ◌==◌, List, length, [], ◌∷◌, if◌then◌else◌, Result, Ok, Err}
use Rattle.laws.specs.Text.{text as text_of}
use Rattle.biblatex_text.specs.Character.{is_id_start}
use Rattle.biblatex_text.specs.Run.{prefix_of, after}
use Rattle.biblatex_text.specs.Raw.{At}
use Rattle.biblatex_text.specs.declared.run.Run.{Run}
use Rattle.biblatex_text.specs.declared.run.Run.TheVariants.{Blank, Identifier}
use Rattle.biblatex_text.specs.declared.token.Token.{Token}
use Rattle.biblatex_text.specs.declared.token.Token.TheVariants as tokens
use Rattle.biblatex_text.specs.declared.token.Fault.{Fault}
use Rattle.biblatex_text.specs.declared.token.Fault.TheVariants.{UnexpectedEof, Expected}

-- a fault, and the text from where it stands on
abbrev pub Refusal : Type 0
Refusal = Fault × List ℕ

-- one character is wanted
abbrev pub token_at : ℕ → Token → List ℕ → Result (List ℕ) Refusal
token_at wanted token [] = Err (UnexpectedEof, [])
token_at wanted token (c ∷ cs) = if c == wanted then Ok cs else Err (Expected token, c ∷ cs)

-- what follows white space and comments
abbrev pub after_blanks : List ℕ → List ℕ
after_blanks cs = after Blank cs

-- The offset of what is left of a text: how many of its bytes, n in all, stand before.
abbrev pub offset : ℕ → List ℕ → ℕ
offset n rest = n - length (text_of rest)

-- the run that stands before what is left
abbrev pub run_at : ℕ → Run → List ℕ → At (List ℕ)
run_at n run cs = record { v = prefix_of run cs; start = offset n cs; end = offset n (after run cs) }

-- an identifier and what follows it
abbrev pub identifier_at : ℕ → List ℕ → Result (At (List ℕ) × List ℕ) Refusal
identifier_at _ [] = Err (UnexpectedEof, [])
identifier_at n (c ∷ cs) = if is_id_start c then Ok (run_at n Identifier (c ∷ cs), after Identifier (c ∷ cs)) else Err (Expected tokens.Identifier, c ∷ cs)

-- past the character that ended a run, which the end of the text did not
abbrev pub closed_at : List ℕ → Result (List ℕ) Refusal
closed_at [] = Err (UnexpectedEof, [])
closed_at (c ∷ cs) = Ok cs
