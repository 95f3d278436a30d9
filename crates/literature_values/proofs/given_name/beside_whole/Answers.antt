use Rattle.std.proofs.Common.{◌≡◌, ◌++◌, [], ◌∷◌, refl, lit<, sym, ◌∙◌}
use Rattle.std.specs.Str.{chars}
use Rattle.std.proofs.lemmas.Str.{encode_ascii, chars-encodes}
use Rattle.laws.specs.Characters.{hyphen, space}
use Rattle.literature_values.proofs.given_name.beside_whole.Goals as goal

hyphen_alone : chars (hyphen ∷ []) ≡ hyphen ∷ []
hyphen_alone = (λ i. chars (sym (encode_ascii hyphen (lit< tt)) i ++ [])) ∙ chars-encodes (hyphen ∷ []) refl

space_alone : chars (space ∷ []) ≡ space ∷ []
space_alone = (λ i. chars (sym (encode_ascii space (lit< tt)) i ++ [])) ∙ chars-encodes (space ∷ []) refl

pub returns-then-is_hyphenated : goal.returns-then-is_hyphenated
returns-then-is_hyphenated c = rw c.if-is_hyphenated.true hyphen_alone

pub returns-else-is_hyphenated : goal.returns-else-is_hyphenated
returns-else-is_hyphenated c = rw c.if-is_hyphenated.false space_alone
