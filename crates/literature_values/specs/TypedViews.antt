-- Values that keep a text which is not read.
use Rattle.std.specs.Prelude.{◌≡◌, ℕ, List, Option, Some, None, Result, Ok, Err, string_bytes}
use Rattle.texts.specs.declared.reader.Unreadable.{Unreadable}
use Rattle.literature_numbers.specs.Numerics.{Numeral}
use Rattle.literature_numbers.specs.Pages.{Part}
use Rattle.literature_numbers.specs.Views.{numeral_view}
use Rattle.laws.specs.Text.{characters}
use Rattle.literature_numbers.specs.PageViews.{pages_view}
use Rattle.literature_numbers.specs.declared.numeric.Numeric.{Numeric}
use Rattle.literature_numbers.specs.declared.page_ranges.PageRanges.{PageRanges}
use Rattle.literature_values.specs.declared.maybe_typed.MaybeTyped.{MaybeTyped}
use Rattle.literature_values.specs.declared.maybe_typed.MaybeTyped.TheVariants as typed

-- a value as it is viewed, or the characters of a text
pub data ValueOrText (V : Type 0) : Type 0 where
  Value : V → ValueOrText V
  Text : List ℕ → ValueOrText V

abbrev pub typed_view : {T V : Type 0} → (T → V) → MaybeTyped T → ValueOrText V
typed_view view (typed.Typed v) = Value (view v)
typed_view view (typed.String s) = Text (characters s)

-- the value as it prints, or the text
abbrev pub printed : {T : Type 0} → (T → Option (List ℕ)) → MaybeTyped T → Option (List ℕ)
printed output (typed.Typed v) = output v
printed output (typed.String s) = Some (string_bytes s)

-- the value, where there is one
abbrev pub typed_value : {T : Type 0} → MaybeTyped T → Option T
typed_value (typed.Typed v) = Some v
typed_value (typed.String s) = None

-- the value that a text means, or the text itself where it means none
abbrev pub KeepsNumeric : MaybeTyped Numeric → List ℕ → Result Numeral Unreadable → Type 0
KeepsNumeric (typed.Typed n) text meant = meant ≡ Ok (numeral_view n)
KeepsNumeric (typed.String s) text meant = (string_bytes s ≡ text) × ((e : Unreadable) × (meant ≡ Err e))

abbrev pub KeepsPages : MaybeTyped PageRanges → List ℕ → Result (List Part) Unreadable → Type 0
KeepsPages (typed.Typed p) text meant = meant ≡ Ok (pages_view p)
KeepsPages (typed.String s) text meant = (string_bytes s ≡ text) × ((e : Unreadable) × (meant ≡ Err e))
