-- Names and keys by the characters that they are made of.
use Rattle.std.specs.Prelude.{ℕ, Bool, List, [], ◌∷◌, codes}
use Rattle.biblatex_text.specs.Character.{is_id_continue, is_key}
use Rattle.biblatex_writing.specs.declared.settled.Part.{Part}
use Rattle.biblatex_writing.specs.declared.settled.Part.TheVariants as parts
use Rattle.biblatex_writing.specs.Settled.{is_no_capital}

abbrev pub passes : Part → ℕ → Bool
passes parts.Key c = is_key c
passes parts.Identifier c = is_id_continue c
passes parts.NoCapital c = is_no_capital c

-- the names of types that are read as others
abbrev pub renamed_types : List (List ℕ)
renamed_types = codes "conference" ∷ codes "electronic" ∷ codes "www" ∷ []
