-- Markers: a bracket, cites parted by a semicolon and a space, and the closing bracket. Each definition gives what stands at the
-- start of a text and what follows it, or that it does not stand there. Characters are numbers.
use Rattle.std.specs.Prelude.{ℕ, Bool, true, false, ◌&&◌, List, ◌∷◌, if◌then◌else◌, Option, Some, None, Result, Ok, Err}
use Rattle.std.specs.Option.{ok_or}
use Rattle.std.specs.Str.{bytes_eq, trim}
use Rattle.laws.specs.Characters.{space, hyphen, semicolon, at_sign, open_bracket, close_bracket}
use Rattle.laws.specs.Results.{◌>>=◌}
use Rattle.laws.specs.Runs.{prefix_of, after}
use Rattle.laws.specs.Steps.{each}
use Rattle.laws.specs.Text.{text, is_filled}
use Rattle.texts.specs.Reading.{token_at, taken}
use Rattle.texts.specs.declared.reader.Unreadable.{Unreadable}
use Rattle.texts.specs.declared.reader.Unreadable.TheVariants.{NotThere}
use Rattle.rendering_taxonomy.specs.declared.cite.CitePurpose.{CitePurpose}
use Rattle.rendering_taxonomy.specs.declared.locator.Locator.{Locator}
use Rattle.cite_markers.specs.Character.{passes}
use Rattle.cite_markers.specs.Words.{purpose_of, label_of}
use Rattle.cite_markers.specs.declared.class.Class.TheVariants.{Word, Name, Value}

-- the part of a work that a cite points to: its label and its value
pub record CiteLocator : Type 0 where
  pub label : Locator
  pub value : List ℕ

-- a cite of the work with that name
pub record Cite : Type 0 where
  pub name : List ℕ
  pub hidden : Bool
  pub purpose : Option CitePurpose
  pub locator : Option CiteLocator

-- what stands before a name: whether the cite is hidden, and its purpose
pub record Beginning : Type 0 where
  pub hidden : Bool
  pub purpose : Option CitePurpose

-- what was read, where it passed a test
abbrev pub passing : {A : Type 0} → Bool → A → Result A Unreadable
passing test a = if test then Ok a else Err NotThere

-- a word, as bytes, and the space after it
unfoldable pub word_at : List ℕ → Result (List ℕ × List ℕ) Unreadable
word_at cs = do
  rest ← token_at space (after (passes Word) cs)
  Ok (text (prefix_of (passes Word) cs), rest)

-- the word of a purpose, a space and an at sign
unfoldable pub purpose_at : List ℕ → Result (Option CitePurpose × List ℕ) Unreadable
purpose_at cs = do
  word ← word_at cs
  purpose ← ok_or (purpose_of word.0) NotThere
  rest ← token_at at_sign word.1
  Ok (Some purpose, rest)

-- an at sign, or a purpose before it
abbrev pub purpose_if_no_sign : Bool × List ℕ → Result (Option CitePurpose × List ℕ) Unreadable
purpose_if_no_sign (true, rest) = Ok (None, rest)
purpose_if_no_sign (false, rest) = purpose_at rest

-- the beginning of a cite, through its at sign: a hyphen where it is hidden, and its purpose where it has one
unfoldable pub beginning_at : List ℕ → Result (Beginning × List ℕ) Unreadable
beginning_at cs = do
  purpose ← purpose_if_no_sign (taken at_sign (taken hyphen cs).1)
  Ok (record { hidden = (taken hyphen cs).0; purpose = purpose.0 }, purpose.1)

-- a value, as bytes, is not empty, and has no white space at its ends
abbrev pub is_value : List ℕ → Bool
is_value value = is_filled value && bytes_eq (trim value) value

-- a label, a space and a value
unfoldable pub locator_at : List ℕ → Result (Option CiteLocator × List ℕ) Unreadable
locator_at cs = do
  word ← word_at cs
  label ← ok_or (label_of word.0) NotThere
  value ← passing (is_value (text (prefix_of (passes Value) word.1))) (prefix_of (passes Value) word.1)
  Ok (Some (record { label = label; value = value }), after (passes Value) word.1)

-- a locator after a space, or none
abbrev pub locator_if_space : Bool × List ℕ → Result (Option CiteLocator × List ℕ) Unreadable
locator_if_space (true, rest) = locator_at rest
locator_if_space (false, rest) = Ok (None, rest)

-- a cite: its beginning, its name, and its locator where it has one
unfoldable pub cite_at : List ℕ → Result (Cite × List ℕ) Unreadable
cite_at cs = do
  beginning ← beginning_at cs
  name ← passing (is_filled (prefix_of (passes Name) beginning.1)) (prefix_of (passes Name) beginning.1)
  locator ← locator_if_space (taken space (after (passes Name) beginning.1))
  Ok (record { name = name; hidden = beginning.0.hidden; purpose = beginning.0.purpose; locator = locator.0 }, locator.1)

-- a space and a cite
unfoldable pub further_cite_at : List ℕ → Result (Option Cite × List ℕ) Unreadable
further_cite_at cs = do
  rest ← token_at space cs
  cite ← cite_at rest
  Ok (Some cite.0, cite.1)

-- a further cite after a semicolon, or none
abbrev pub cite_if_semicolon : Bool × List ℕ → Result (Option Cite × List ℕ) Unreadable
cite_if_semicolon (true, rest) = further_cite_at rest
cite_if_semicolon (false, rest) = Ok (None, rest)

unfoldable pub next_cite_at : List ℕ → Result (Option Cite × List ℕ) Unreadable
next_cite_at cs = cite_if_semicolon (taken semicolon cs)

-- one cite or more
unfoldable pub cites_at : List ℕ → Result (List Cite × List ℕ) Unreadable
cites_at cs = do
  first ← cite_at cs
  others ← each next_cite_at first.1
  Ok (first.0 ∷ others.0, others.1)

-- a bracket, cites, and the closing bracket
unfoldable pub marker_at : List ℕ → Result (List Cite × List ℕ) Unreadable
marker_at cs = do
  opened ← token_at open_bracket cs
  cites ← cites_at opened
  rest ← token_at close_bracket cites.1
  Ok (cites.0, rest)

-- an opening: a bracket and the beginning of a cite
unfoldable pub opening_at : List ℕ → Result (Beginning × List ℕ) Unreadable
opening_at cs = do
  opened ← token_at open_bracket cs
  beginning_at opened
