-- The text without characters.
use Rattle.std.proofs.Common.{◌≡◌, []}
use Rattle.std.specs.Str.{chars}
use Rattle.std.proofs.lemmas.Str.{chars-nil}

pub no_characters : chars [] ≡ []
no_characters = chars-nil
