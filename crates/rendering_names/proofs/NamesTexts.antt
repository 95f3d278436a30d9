-- The literals as the characters of a text.
use Rattle.std.proofs.Common.{◌≡◌, [], ◌∷◌, codes, refl}
use Rattle.std.specs.Str.{chars}
use Rattle.laws.specs.Characters.{space, ampersand}
use Rattle.rendering_names.specs.Names.{ellipsis}
use Rattle.rendering_names.specs.Persons.{comma_and_space, stop_and_space}

pub comma_characters : chars (codes ", ") ≡ comma_and_space
unfolding chars
comma_characters = refl

pub stop_characters : chars (codes ". ") ≡ stop_and_space
unfolding chars
stop_characters = refl

pub space_characters : chars (codes " ") ≡ space ∷ []
unfolding chars
space_characters = refl

pub ampersand_characters : chars (codes "&") ≡ ampersand ∷ []
unfolding chars
ampersand_characters = refl

-- the bytes of the ellipsis
pub ellipsis_characters : chars (226 ∷ 128 ∷ 166 ∷ []) ≡ ellipsis
unfolding chars
ellipsis_characters = refl
