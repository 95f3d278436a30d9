-- The literals as the characters of a text.
use Rattle.std.proofs.Common.{◌≡◌, [], ◌∷◌, codes, refl}
use Rattle.std.specs.Str.{chars}
use Rattle.std.proofs.lemmas.Str.{chars-encodes}
use Rattle.rendering_dates.specs.Dates.{dash}

-- the bytes of the en dash
pub dash_characters : chars (226 ∷ 128 ∷ 147 ∷ []) ≡ dash
unfolding chars
dash_characters = refl

pub ad_characters : chars (codes " AD") ≡ codes " AD"
unfolding lib.Utf8.encode
ad_characters = chars-encodes (codes " AD") refl

pub bc_characters : chars (codes " BC") ≡ codes " BC"
unfolding lib.Utf8.encode
bc_characters = chars-encodes (codes " BC") refl
