-- What the code holds and gives, without where it lies in memory.
use Rattle.std.specs.Global.{Global}
use Rattle.std.specs.Prelude.{◌≡◌, ℕ, List, map, String}
use Rattle.std.specs.BTreeMap.{BTreeMap, get_by_text}
use Rattle.std.specs.Str.{chars}
use Rattle.std.specs.Borrow.{Bor}
use Rattle.biblatex_text.specs.Raw.{Field}
use Rattle.biblatex_text.specs.Views.{field_view}
use Rattle.biblatex_text.specs.declared.raw.Pair.{Pair}
use Rattle.biblatex_fields.specs.declared.glossary.Sense.{Sense as Opened}
use Rattle.biblatex_fields.specs.declared.glossary.Sense.TheVariants as senses
use Rattle.biblatex_fields.specs.Abbreviations.{Sense, spelled, defined, pieces_at, index_of}

abbrev pub sense_view : List Field → Opened → Sense
sense_view ds (senses.Spelled text) = spelled (chars text.now)
sense_view ds (senses.Defined index) = defined (pieces_at ds index)

-- the definitions in order
abbrev pub definitions_view : Bor (List Pair) → List Field
definitions_view ps = map field_view ps.now

-- a map from each name to the index of its last definition
abbrev pub IsIndex : BTreeMap (String Global) ℕ → List Field → Type 0
IsIndex table ds = (name : List ℕ) → get_by_text table name ≡ index_of name ds
