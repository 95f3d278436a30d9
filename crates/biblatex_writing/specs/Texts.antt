-- Entries that are made of characters.
use Rattle.std.specs.Prelude.{◌≡◌, true, List}
use Rattle.std.specs.List.{AllByRecursion}
use Rattle.std.specs.Str.{IsUtf8, all_scalars}
use Rattle.biblatex_content.specs.Styled.{plain}
use Rattle.biblatex_fields.specs.Fields.{Named}
use Rattle.biblatex_entries.specs.Entries.{Source}
use Rattle.biblatex_entries.specs.TypeNames.{written_type}

-- names and contents are made of characters
abbrev pub AreText : List Named → Type 0
AreText fs = AllByRecursion (λ f. IsUtf8 f.0) fs × AllByRecursion (λ f. all_scalars (plain f.1.text) ≡ true) fs

-- Keys, written types, names and contents are made of characters, as those of each entry in memory are.
pub record IsText (e : Source) : Type 0 where
  pub key : IsUtf8 e.key
  pub entry_type : IsUtf8 (written_type e.entry_type).name
  pub fields : AreText e.fields
