-- The codes of languages. A code is the bytes of its text, such as those of en-US.
use Rattle.std.specs.Prelude.{ℕ, not, ◌==◌, List, [], ◌∷◌, Option, codes, take_while}
use Rattle.std.specs.List.{find}
use Rattle.std.specs.Str.{bytes_eq}
use Rattle.laws.specs.Characters.{hyphen}

-- English as it is written in the United States
abbrev pub en_us : List ℕ
en_us = codes "en-US"

-- the language that a code begins with, up to the first hyphen
abbrev pub base_of : List ℕ → List ℕ
base_of code = take_while (λ c. not (c == hyphen)) code

-- the codes that stand for languages without a locale of their own
abbrev pub fallbacks : List (List ℕ)
fallbacks = codes "de-DE" ∷ codes "en-US" ∷ codes "es-ES" ∷ codes "fr-FR" ∷ codes "pt-PT" ∷ codes "zh-CN" ∷ []

-- the one of them that begins with the language of a code
abbrev pub fallback : List ℕ → Option (List ℕ)
fallback code = find (λ f. bytes_eq (base_of code) (base_of f)) fallbacks
