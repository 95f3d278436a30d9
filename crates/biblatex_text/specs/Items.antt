-- Reading the items of a text. Characters are numbers.
use Rattle.std.specs.Prelude.{ℕ, Bool, ◌==◌, List, [], ◌∷◌, length, if◌then◌else◌, Option, Some, None, Result, Ok, Err, codes}
use Rattle.std.specs.Str.{bytes_eq}
use Rattle.laws.specs.Characters.{open_parenthesis, open_brace}
use Rattle.laws.specs.Results.{◌>>=◌}
use Rattle.laws.specs.Steps.{each}
use Rattle.laws.specs.Text.{lowered, text as text_of}
use Rattle.biblatex_text.specs.Run.{after}
use Rattle.biblatex_text.specs.Raw.{At, Entry, Item, nothing, definitions, an_entry, Raw, gathered}
use Rattle.biblatex_text.specs.declared.run.Run.{Run}
use Rattle.biblatex_text.specs.declared.run.Run.TheVariants.{Outside, Key, RoundKey, Remark}
use Rattle.biblatex_text.specs.declared.bracket.Bracket.{Bracket}
use Rattle.biblatex_text.specs.declared.bracket.Bracket.TheVariants.{Brace, Parenthesis}
use Rattle.biblatex_text.specs.declared.token.Token.TheVariants as tokens
use Rattle.biblatex_text.specs.declared.token.Fault.{Fault}
use Rattle.biblatex_text.specs.declared.token.Fault.TheVariants.{UnexpectedEof, Expected}
use Rattle.biblatex_text.specs.Reading.{Refusal, offset, token_at, after_blanks, run_at, identifier_at, closed_at}
use Rattle.biblatex_text.specs.Value.{value_at}
use Rattle.biblatex_text.specs.Fields.{closing, more_fields_at, definitions_at}

-- the brace or the parenthesis that opens an item
abbrev pub opening_at : List ℕ → Result (Bracket × List ℕ) Refusal
opening_at [] = Err (UnexpectedEof, [])
opening_at (c ∷ cs) = if c == open_brace then Ok (Brace, cs) else (if c == open_parenthesis then Ok (Parenthesis, cs) else Err (Expected tokens.OpeningBrace, c ∷ cs))

-- a comment item after its kind: text in braces, or nothing where none opens
abbrev pub remark_at : List ℕ → Result (List ℕ) Refusal
remark_at [] = Ok []
remark_at (c ∷ cs) = if c == open_brace then closed_at (after (Remark 0) cs) else Ok (c ∷ cs)

-- a preamble's value, which says nothing here
unfoldable pub preamble_at : ℕ → Bracket → List ℕ → Result (List ℕ) Refusal
preamble_at n bracket cs = do
  value ← value_at n (after_blanks cs)
  token_at (closing bracket) tokens.ClosingBrace (after_blanks value.1)

-- in parentheses a key ends before a closing one too
abbrev pub key_run : Bracket → Run
key_run Brace = Key
key_run Parenthesis = RoundKey

-- the key and the fields of an entry
unfoldable pub entry_at : ℕ → At (List ℕ) → Bracket → List ℕ → Result (Entry × List ℕ) Refusal
entry_at n kind bracket cs = do
  fields ← more_fields_at n bracket (after (key_run bracket) (after_blanks cs))
  Ok (record { kind = kind; key = run_at n (key_run bracket) (after_blanks cs); fields = fields.0 }, fields.1)

-- a kind is compared in lower case
abbrev pub is_named : List ℕ → List ℕ → Bool
is_named name wanted = bytes_eq (lowered name) wanted

-- the body of an item that is no comment, after what opens it
abbrev pub body_at : ℕ → At (List ℕ) → Bracket → List ℕ → Result (Item × List ℕ) Refusal
body_at n kind bracket cs = if is_named kind.v (codes "preamble") then (preamble_at n bracket cs >>= λ rest. Ok (nothing, rest))
    else (if is_named kind.v (codes "string") then (definitions_at n bracket cs >>= λ fs. Ok (definitions fs.0, fs.1))
    else (entry_at n kind bracket cs >>= λ e. Ok (an_entry e.0, e.1)))

-- an item after its kind
abbrev pub item_of_kind_at : ℕ → At (List ℕ) → List ℕ → Result (Item × List ℕ) Refusal
item_of_kind_at n kind cs = if is_named kind.v (codes "comment") then (remark_at cs >>= λ rest. Ok (nothing, rest))
    else (opening_at cs >>= λ opened. body_at n kind opened.0 opened.1)

-- an item after its at sign
unfoldable pub item_at : ℕ → List ℕ → Result (Item × List ℕ) Refusal
item_at n cs = do
  kind ← identifier_at n (after_blanks cs)
  item_of_kind_at n kind.0 (after_blanks kind.1)

-- after the text between items: the end, or an at sign and an item
abbrev pub item_or_end_at : ℕ → List ℕ → Result (Option (At Item) × List ℕ) Refusal
item_or_end_at _ [] = Ok (None, [])
item_or_end_at n (c ∷ cs) = item_at n cs >>= λ i. Ok (Some (record { v = i.0; start = offset n (c ∷ cs); end = offset n i.1 }), i.1)

unfoldable pub next_item_at : ℕ → List ℕ → Result (Option (At Item) × List ℕ) Refusal
next_item_at n cs = item_or_end_at n (after Outside cs)

-- all that is left of a text holds
unfoldable pub raw_at : ℕ → List ℕ → Result Raw Refusal
raw_at n cs = each (next_item_at n) cs >>= λ p. Ok (gathered p.0)

-- a fault and its offset
abbrev pub at_offset : ℕ → Result Raw Refusal → Result Raw (Fault × ℕ)
at_offset n (Ok r) = Ok r
at_offset n (Err f) = Err (f.0, offset n f.1)

-- all that a text holds, or its first fault from the left, and the byte where that stands
abbrev pub raw_of : List ℕ → Result Raw (Fault × ℕ)
raw_of cs = at_offset (length (text_of cs)) (raw_at (length (text_of cs)) cs)
