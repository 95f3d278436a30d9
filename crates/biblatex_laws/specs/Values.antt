-- Values of fields that are made of characters, under names that are texts.
use Rattle.std.specs.Prelude.{◌≡◌, ℕ, List, Option, Some}
use Rattle.std.specs.Str.{IsUtf8}
use Rattle.biblatex_content.specs.Styled.{plain}
use Rattle.biblatex_fields.specs.Value.{Value}
use Rattle.biblatex_laws.specs.Raw.{AreCharacters}

-- Something stands under texts alone, and is made of characters.
pub record IsValueText (name : List ℕ) (v : Value) : Type 0 where
  pub utf8 : IsUtf8 name
  pub text : AreCharacters (plain v.text)

abbrev pub IsTableText : (List ℕ → Option Value) → Type 0
IsTableText t = (name : List ℕ) (v : Value) → t name ≡ Some v → IsValueText name v
