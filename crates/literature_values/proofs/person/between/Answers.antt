use Rattle.std.proofs.Common.{◌≡◌, ◌++◌, [], ◌∷◌, refl, lit<, sym, ◌∙◌}
use Rattle.std.specs.Str.{chars}
use Rattle.std.proofs.lemmas.Str.{encode_ascii, chars-encodes}
use Rattle.laws.specs.Characters as character
use Rattle.literature_values.proofs.person.between.Goals as goal

pub returns-then-is_hyphenated : goal.returns-then-is_hyphenated
returns-then-is_hyphenated c =
    let hyphen : chars (character.hyphen ∷ []) ≡ character.hyphen ∷ [] = (λ i. chars (sym (encode_ascii character.hyphen (lit< tt)) i ++ [])) ∙ chars-encodes (character.hyphen ∷ []) refl in
    let asked = c.if-style.true in
    let stands = c.if-is_hyphenated.true in
    rw (asked, stands) hyphen
