-- Reading fields, up to the end of an item. Characters are numbers.
use Rattle.std.specs.Prelude.{ℕ, ◌==◌, List, [], ◌∷◌, if◌then◌else◌, Option, Some, None, Result, Ok, Err}
use Rattle.laws.specs.Characters.{close_parenthesis, comma, equals_sign, close_brace}
use Rattle.laws.specs.Results.{◌>>=◌}
use Rattle.laws.specs.Steps.{each}
use Rattle.biblatex_text.specs.Raw.{Field}
use Rattle.biblatex_text.specs.declared.bracket.Bracket.{Bracket}
use Rattle.biblatex_text.specs.declared.bracket.Bracket.TheVariants.{Brace, Parenthesis}
use Rattle.biblatex_text.specs.declared.token.Token.TheVariants as tokens
use Rattle.biblatex_text.specs.declared.token.Fault.TheVariants.{UnexpectedEof, Expected}
use Rattle.biblatex_text.specs.Reading.{Refusal, token_at, after_blanks, identifier_at}
use Rattle.biblatex_text.specs.Value.{value_at}

unfoldable pub field_at : ℕ → List ℕ → Result (Field × List ℕ) Refusal
field_at n cs = do
  name ← identifier_at n cs
  following ← token_at equals_sign tokens.Equals (after_blanks name.1)
  value ← value_at n (after_blanks following)
  Ok (record { name = name.0; value = value.0 }, value.1)

-- what closes an item
abbrev pub closing : Bracket → ℕ
closing Brace = close_brace
closing Parenthesis = close_parenthesis

-- where a field may stand: the end of the item, or a field
abbrev pub field_or_end_at : ℕ → Bracket → List ℕ → Result (Option Field × List ℕ) Refusal
field_or_end_at _ _ [] = Err (UnexpectedEof, [])
field_or_end_at n bracket (c ∷ cs) = if c == closing bracket then Ok (None, cs) else (field_at n (c ∷ cs) >>= λ f. Ok (Some f.0, f.1))

-- after a key or a field: the end of the item, or a comma and what may follow it
abbrev pub comma_or_end_at : ℕ → Bracket → List ℕ → Result (Option Field × List ℕ) Refusal
comma_or_end_at _ _ [] = Err (UnexpectedEof, [])
comma_or_end_at n bracket (c ∷ cs) = if c == closing bracket then Ok (None, cs)
    else (if c == comma then field_or_end_at n bracket (after_blanks cs)
    else Err (Expected tokens.Comma, c ∷ cs))

unfoldable pub next_field_at : ℕ → Bracket → List ℕ → Result (Option Field × List ℕ) Refusal
next_field_at n bracket cs = comma_or_end_at n bracket (after_blanks cs)

-- the fields after a key or a field, up to the end of the item
abbrev pub more_fields_at : ℕ → Bracket → List ℕ → Result (List Field × List ℕ) Refusal
more_fields_at n bracket cs = each (next_field_at n bracket) cs

-- the fields after a first one, if there is one
abbrev pub fields_from : ℕ → Bracket → Option Field → List ℕ → Result (List Field × List ℕ) Refusal
fields_from _ _ None cs = Ok ([], cs)
fields_from n bracket (Some f) cs = more_fields_at n bracket cs >>= λ fs. Ok (f ∷ fs.0, fs.1)

-- the abbreviations of an item
unfoldable pub definitions_at : ℕ → Bracket → List ℕ → Result (List Field × List ℕ) Refusal
definitions_at n bracket cs = do
  first ← field_or_end_at n bracket (after_blanks cs)
  fields_from n bracket first.0 first.1
