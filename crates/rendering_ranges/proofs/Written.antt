-- What was written after a text, as its next characters.
use Rattle.std.proofs.Common.{◌≡◌, ℕ, List, ◌++◌, sym, ap, ◌∙◌}
use Rattle.std.specs.Str.{chars, IsUtf8}
use Rattle.laws.specs.Text.{text}
use Rattle.laws.proofs.Text.{chars-text, text_of_chars, text-append}

pub chars-written : (old new cs : List ℕ) → IsUtf8 old → IsUtf8 new → new ≡ old ++ text cs → chars new ≡ chars old ++ cs
chars-written old new cs before since e =
    chars-text new (chars old ++ cs) since
    (e ∙ ap (λ (bs : List ℕ). bs ++ text cs) (sym (text_of_chars old before)) ∙ sym (text-append (chars old) cs))
