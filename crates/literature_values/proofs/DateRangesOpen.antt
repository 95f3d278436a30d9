-- Two points are what is open, as bytes and as characters.
use Rattle.std.proofs.Common.{◌≡◌, ℕ, List, [], ◌∷◌, refl, sym, ap, ◌∙◌}
use Rattle.std.specs.Str.{bytes_eq, chars, IsUtf8}
use Rattle.std.proofs.lemmas.Bool.Decides.{same_from_decides}
use Rattle.std.proofs.lemmas.Slice.Eq.{bytes_eq-Decides}
use Rattle.std.proofs.lemmas.Str.{chars-encodes}
use Rattle.laws.specs.Characters.{full_stop}
use Rattle.laws.specs.Text.{text}
use Rattle.laws.proofs.Text.{text_of_chars}
use Rattle.literature_values.specs.DateRanges.{is_open}

abbrev two_points : List ℕ
two_points = full_stop ∷ full_stop ∷ []

pub points : (bs : List ℕ) → IsUtf8 bs → bytes_eq bs two_points ≡ is_open (chars bs)
unfolding lib.Utf8.encode
points bs u = same_from_decides (bytes_eq bs two_points) (is_open (chars bs)) (bytes_eq-Decides bs two_points)
    ((λ h. sym (text_of_chars bs u) ∙ ap text ((bytes_eq-Decides (chars bs) two_points).0 h)), (λ e. (bytes_eq-Decides (chars bs) two_points).1 (ap chars e ∙ chars-encodes two_points refl)))
