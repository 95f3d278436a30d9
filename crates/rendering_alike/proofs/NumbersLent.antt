-- Numbers that are borrowed or not, or texts instead of them, are equal exactly where the view of them is one.
use Rattle.std.specs.Global.{Global}
use Rattle.std.proofs.Common.{◌≡◌, Bool, true, false, true≢false, String, string_eq, sym, ap, ℕ, List, []}
use Rattle.std.specs.Cow.{cow_value}
use Rattle.std.specs.declared.borrow.Cow.{Cow}
use Rattle.std.proofs.lemmas.Bool.Decides.{Decides-at}
use Rattle.laws.specs.Equality.{Shows}
use Rattle.laws.proofs.Equality.{Decides-moved, Decides-never, Shows-strings}
use Rattle.literature_numbers.specs.Numerics.{Numeral}
use Rattle.literature_numbers.specs.Views.{numeral_view}
use Rattle.literature_numbers.specs.contracts.numeric.NumericPartialEq.TheImpl as numeric
use Rattle.literature_numbers.specs.declared.numeric.Numeric.{Numeric}
use Rattle.literature_numbers.proofs.Equality.{Shows-Numeric}
use Rattle.literature_values.specs.TypedViews.{ValueOrText, Value, Text}
use Rattle.literature_values.specs.declared.maybe_typed.MaybeTyped.{MaybeTyped}
use Rattle.literature_values.specs.declared.maybe_typed.MaybeTyped.TheVariants as typed
use Rattle.rendering_entries.specs.Views.{lent_number_view}

abbrev is_text : ValueOrText Numeral → Bool
is_text (Value v) = false
is_text (Text cs) = true

abbrev value_or : Numeral → ValueOrText Numeral → Numeral
value_or v (Value w) = w
value_or v (Text cs) = v

abbrev text_of : ValueOrText Numeral → List ℕ
text_of (Value v) = []
text_of (Text cs) = cs

abbrev Lent : Type 0
Lent = MaybeTyped (Cow Numeric)

module _ (same : Lent → Lent → Bool) (numbers : (v w : Cow Numeric) → same (typed.Typed v) (typed.Typed w) ≡ numeric.ghosts.eq (cow_value v) (cow_value w))
    (never : (v : Cow Numeric) (t : String Global) → same (typed.Typed v) (typed.String t) ≡ false) (never_too : (t : String Global) (v : Cow Numeric) → same (typed.String t) (typed.Typed v) ≡ false)
    (texts : (s t : String Global) → same (typed.String s) (typed.String t) ≡ string_eq s t) where
  pub Shows-lent : Shows same lent_number_view
  Shows-lent (typed.Typed v) (typed.Typed w) =
      Decides-at (same (typed.Typed v) (typed.Typed w)) (numeric.ghosts.eq (cow_value v) (cow_value w)) (numbers v w)
      (Decides-moved (numeric.ghosts.eq (cow_value v) (cow_value w)) (Shows-Numeric (cow_value v) (cow_value w)) (ap Value) (ap (value_or (numeral_view (cow_value v)))))
  Shows-lent (typed.Typed v) (typed.String t) = Decides-at (same (typed.Typed v) (typed.String t)) false (never v t) (Decides-never (λ e. true≢false (sym (ap is_text e))))
  Shows-lent (typed.String s) (typed.Typed w) = Decides-at (same (typed.String s) (typed.Typed w)) false (never_too s w) (Decides-never (λ e. true≢false (ap is_text e)))
  Shows-lent (typed.String s) (typed.String t) =
      Decides-at (same (typed.String s) (typed.String t)) (string_eq s t) (texts s t) (Decides-moved (string_eq s t) (Shows-strings s t) (ap Text) (ap text_of))
