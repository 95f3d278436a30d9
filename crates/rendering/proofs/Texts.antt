-- The literals as the characters of a text.
use Rattle.std.proofs.Common.{◌≡◌, [], ◌∷◌, codes, refl}
use Rattle.std.specs.Str.{chars}
use Rattle.std.proofs.lemmas.Str.{chars-encodes}
use Rattle.laws.specs.Characters.{space, open_parenthesis, close_parenthesis}

pub open_characters : chars (codes "(") ≡ open_parenthesis ∷ []
unfolding chars
open_characters = refl

pub close_characters : chars (codes ")") ≡ close_parenthesis ∷ []
unfolding chars
close_characters = refl

pub space_characters : chars (codes " ") ≡ space ∷ []
unfolding chars
space_characters = refl

pub no_date_characters : chars (codes "n.d.") ≡ codes "n.d."
unfolding lib.Utf8.encode
no_date_characters = chars-encodes (codes "n.d.") refl
