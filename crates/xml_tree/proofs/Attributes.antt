-- One more attribute, with its value or with its namespace.
use Rattle.std.proofs.Common.{◌≡◌, ℕ, true, false, List, [], ◌∷◌, ◌++◌, Option, Some, None, Ok, Err, refl}
use Rattle.laws.specs.Results.{EndsWith}
use Rattle.xml_text.specs.Tokens.{At}
use Rattle.xml_text.specs.Tokens as tokens
use Rattle.xml_text.specs.declared.fault.Fault.TheVariants as faults
use Rattle.xml_tree.specs.Values.{Refusal, value_of}
use Rattle.xml_tree.specs.Names.{Valued, is_written, valued_as, with_value}

module _ (earlier : List (At Valued)) (a : At tokens.Attribute) where
  pub value_repeats : is_written earlier a.v.name ≡ true → with_value earlier a ≡ Err (faults.Repeated, a.left)
  value_repeats seen = rw seen refl

  pub value_added : (t : List ℕ) → is_written earlier a.v.name ≡ false → value_of a.v.value ≡ Ok t → with_value earlier a ≡ Ok (earlier ++ valued_as a t ∷ [])
  value_added t unseen is = rw (unseen, is) refl

  pub value_fails : (refusal : Option Refusal) → is_written earlier a.v.name ≡ false → EndsWith refusal (value_of a.v.value) → EndsWith refusal (with_value earlier a)
  value_fails None unseen is = tt
  value_fails (Some f) unseen is = rw (unseen, is) refl
