-- Reading a value: pieces parted by number signs. Characters are numbers.
use Rattle.std.specs.Prelude.{ℕ, Bool, true, false, ◌==◌, ◌&&◌, List, [], ◌∷◌, if◌then◌else◌, Option, Some, None, Result, Ok, Err}
use Rattle.std.specs.Char.{is_ascii_digit}
use Rattle.std.specs.List.{list_any}
use Rattle.laws.specs.Characters.{double_quote, number_sign, open_brace}
use Rattle.laws.specs.Results.{◌>>=◌}
use Rattle.laws.specs.Steps.{each}
use Rattle.biblatex_text.specs.Character.{is_id_continue}
use Rattle.biblatex_text.specs.Run.{after}
use Rattle.biblatex_text.specs.Raw.{At, at_map, Piece, normal, abbreviation}
use Rattle.biblatex_text.specs.declared.run.Run.TheVariants.{Identifier, Number, Braced, Quoted}
use Rattle.biblatex_text.specs.declared.token.Token.TheVariants as tokens
use Rattle.biblatex_text.specs.declared.token.Fault.TheVariants.{UnexpectedEof, Unexpected, Expected}
use Rattle.biblatex_text.specs.Reading.{Refusal, offset, after_blanks, run_at, closed_at}

-- past the quotation mark that ends a piece; a brace that closes none may not stand there
abbrev pub unquoted_at : List ℕ → Result (List ℕ) Refusal
unquoted_at [] = Err (UnexpectedEof, [])
unquoted_at (c ∷ cs) = if c == double_quote then Ok cs else Err (Unexpected tokens.ClosingBrace, c ∷ cs)

-- a piece after its opening brace
unfoldable pub braced_at : ℕ → List ℕ → Result (At Piece × List ℕ) Refusal
braced_at n cs = do
  rest ← closed_at (after (Braced 0) cs)
  Ok (at_map (λ t. normal t) (run_at n (Braced 0) cs), rest)

-- a piece after its opening quotation mark
unfoldable pub quoted_at : ℕ → List ℕ → Result (At Piece × List ℕ) Refusal
quoted_at n cs = do
  rest ← unquoted_at (after (Quoted 0) cs)
  Ok (at_map (λ t. normal t) (run_at n (Quoted 0) cs), rest)

abbrev pub is_end : List ℕ → Bool
is_end [] = true
is_end (c ∷ cs) = false

-- ASCII digits, one at least, with at most one point
abbrev pub is_number : List ℕ → Bool
is_number cs = is_end (after Number cs) && list_any is_ascii_digit cs

-- a piece that stands bare
abbrev pub bare : List ℕ → Piece
bare cs = if is_number cs then normal cs else abbreviation cs

abbrev pub piece_at : ℕ → List ℕ → Result (At Piece × List ℕ) Refusal
piece_at _ [] = Err (UnexpectedEof, [])
piece_at n (c ∷ cs) = if c == open_brace then braced_at n cs
    else (if c == double_quote then quoted_at n cs
    else (if is_id_continue c then Ok (at_map bare (run_at n Identifier (c ∷ cs)), after Identifier (c ∷ cs))
    else Err (Expected tokens.Identifier, c ∷ cs)))

-- a number sign and a further piece, or the end of the value at an offset before
abbrev pub piece_or_end_at : ℕ → List ℕ → List ℕ → Result (Option (At Piece) × List ℕ) Refusal
piece_or_end_at _ end [] = Ok (None, end)
piece_or_end_at n end (c ∷ cs) = if c == number_sign then (piece_at n (after_blanks cs) >>= λ p. Ok (Some p.0, p.1)) else Ok (None, end)

-- after a piece: white space, a number sign and a further piece, or the end of the value
unfoldable pub next_piece_at : ℕ → List ℕ → Result (Option (At Piece) × List ℕ) Refusal
next_piece_at n cs = piece_or_end_at n cs (after_blanks cs)

-- a value
unfoldable pub value_at : ℕ → List ℕ → Result (At (List (At Piece)) × List ℕ) Refusal
value_at n cs = do
  first ← piece_at n cs
  others ← each (next_piece_at n) first.1
  Ok (record { v = first.0 ∷ others.0; start = offset n cs; end = offset n others.1 }, others.1)
