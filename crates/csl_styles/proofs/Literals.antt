-- The literals as the characters of a text.
use Rattle.std.proofs.Common.{◌≡◌, codes, refl}
use Rattle.std.specs.Str.{chars}
use Rattle.std.proofs.lemmas.Str.{chars-encodes}

pub comma : chars (codes ", ") ≡ codes ", "
unfolding lib.Utf8.encode
comma = chars-encodes (codes ", ") refl
