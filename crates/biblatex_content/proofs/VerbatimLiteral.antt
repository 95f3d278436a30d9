-- Characters of a verbatim text that are themselves.
use Rattle.std.proofs.Common.{◌≡◌, ℕ, Bool, true, false, not, ◌||◌, ◌==◌, List, ◌∷◌, refl, ap}
use Rattle.laws.specs.Characters.{backslash}
use Rattle.biblatex_content.specs.Verbatim.{is_brace, verbatim_text}
use Rattle.biblatex_content.proofs.Tests.{not_true}

first_no : (a b : Bool) → a || b ≡ false → a ≡ false
first_no true b e = e
first_no false b e = refl

pub literal_more : (c : ℕ) (cs : List ℕ) → not (c == backslash || is_brace c) ≡ true → verbatim_text cs ≡ cs → verbatim_text (c ∷ cs) ≡ c ∷ cs
literal_more c cs e more =
    let other = not_true (c == backslash || is_brace c) e in
    let no_backslash = first_no (c == backslash) (is_brace c) other in
    rw (other, no_backslash) (ap (λ (x : List ℕ). c ∷ x) more)
