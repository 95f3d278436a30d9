-- The separators as the characters of a text.
use Rattle.std.proofs.Common.{◌≡◌, ℕ, true, List, ◌++◌, refl, ap, ◌∙◌}
use Rattle.std.specs.Str.{chars, IsUtf8, all_scalars}
use Rattle.std.proofs.lemmas.Str.{chars-append, chars-encodes}
use Rattle.laws.specs.Text.{text}
use Rattle.literature_numbers.specs.NumericText.{delimiter_text}
use Rattle.literature_numbers.specs.declared.separator.NumericDelimiter.{NumericDelimiter}
use Rattle.literature_numbers.specs.declared.separator.NumericDelimiter.TheVariants.{Comma, Ampersand, Hyphen}

delimiter_scalars : (d : NumericDelimiter) → all_scalars (delimiter_text d) ≡ true
delimiter_scalars Comma = refl
delimiter_scalars Ampersand = refl
delimiter_scalars Hyphen = refl

-- a separator after a text is its next characters
pub chars-delimiter_after : (old new : List ℕ) (d : NumericDelimiter) → IsUtf8 old → new ≡ old ++ text (delimiter_text d) → chars new ≡ chars old ++ delimiter_text d
chars-delimiter_after old new d utf8 e =
    ap chars e ∙ chars-append old (text (delimiter_text d)) utf8 ∙ ap (λ (cs : List ℕ). chars old ++ cs) (chars-encodes (delimiter_text d) (delimiter_scalars d))
