-- The entries of a text before their references are resolved, and after.
use Rattle.std.specs.Prelude.{◌≡◌, ℕ, List, Ok}
use Rattle.biblatex_text.specs.Raw.{At, Raw}
use Rattle.biblatex_text.specs.Items.{raw_of}
use Rattle.biblatex_fields.specs.Abbreviations.{Glossary, AreFlags}
use Rattle.biblatex_meaning.specs.Listed.{Listed}
use Rattle.biblatex_meaning.specs.Reading.{loaded}
use Rattle.biblatex_meaning.specs.Resolved.{IsResolved}

-- The characters of a text are read as this file: its entries have their abbreviations opened, and resolve to these.
pub record IsFileOf (cs : List ℕ) (file resolved : Listed) : Type 0 where
  pub raw : Raw
  pub glossary : Glossary
  pub keys : List (At (List ℕ))
  pub read : raw_of cs ≡ Ok raw
  pub definitions : glossary.definitions ≡ raw.abbreviations
  pub flags : AreFlags glossary.flags glossary.definitions
  pub entries : loaded glossary raw.entries ≡ Ok (record { listed = file; keys = keys })
  pub resolves : IsResolved file resolved
