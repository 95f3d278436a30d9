-- Texts as their characters.
use Rattle.std.proofs.Common.{◌≡◌, ℕ, List, [], ◌++◌, codes, refl, ap}
use Rattle.std.specs.Str.{chars}
use Rattle.std.proofs.lemmas.Str.{chars-encodes}

-- the text before an identifier
pub doi_characters : chars (codes "https://doi.org/") ≡ codes "https://doi.org/"
unfolding lib.Utf8.encode
doi_characters = chars-encodes (codes "https://doi.org/") refl

-- what is written into an empty text is all of it
pub after_nothing : (old more : List ℕ) → old ≡ [] → old ++ more ≡ more
after_nothing old more e = ap (λ (bs : List ℕ). bs ++ more) e
