-- What a written file means.
use Rattle.std.specs.Prelude.{◌≡◌, ℕ, true, List, [], ◌∷◌, map, Result, Ok}
use Rattle.std.specs.List.{AllByRecursion}
use Rattle.std.specs.Str.{chars, IsUtf8}
use Rattle.biblatex_content.specs.Styled.{Member}
use Rattle.biblatex_fields.specs.Fields.{Named}
use Rattle.biblatex_entries.specs.Entries.{Source}
use Rattle.biblatex_entries.specs.TypeNames.{written_type}
use Rattle.biblatex_meaning.specs.Listed.{Listed}
use Rattle.biblatex_meaning.specs.Reading.{Refusal}
use Rattle.biblatex_meaning.specs.Resolved.{TextMeans}
use Rattle.biblatex_writing.specs.FieldNames.{written_name, HaveDistinctWrittenNames}
use Rattle.biblatex_writing.specs.Settled.{is_settled}
use Rattle.biblatex_writing.specs.Texts.{IsText}
use Rattle.biblatex_writing.specs.Written.{in_written_order, written_file}

-- names with the styled texts, spans left out
abbrev pub named_texts : List Named → List (List ℕ × List Member)
named_texts fs = map (λ f. (f.0, f.1.text)) fs

-- the written names in their order, each with the text that is written under it
abbrev pub written_texts : List Named → List (List ℕ × List Member)
written_texts fs = map (λ f. (written_name f.0, f.1.text)) (in_written_order fs)

-- An entry was read back: its key, its written type, and unless two of its fields are written under one name, under each written name
-- the text of the field that was written so.
pub record IsReadBack (e f : Source) : Type 0 where
  pub key : f.key ≡ e.key
  pub entry_type : f.entry_type ≡ written_type e.entry_type
  pub fields : HaveDistinctWrittenNames e.fields → named_texts f.fields ≡ written_texts e.fields

-- Each entry was read back at its index.
abbrev pub AreReadBack : List Source → List Source → Type 0
AreReadBack [] [] = Unit {0}
AreReadBack [] (f ∷ fs) = ⊥
AreReadBack (e ∷ es) [] = ⊥
AreReadBack (e ∷ es) (f ∷ fs) = IsReadBack e f × AreReadBack es fs

-- Bytes are a text that means entries that were read back, and nothing else.
pub record ReadsBack (bytes : List ℕ) (es : List Source) : Type 0 where
  pub utf8 : IsUtf8 bytes
  pub file : Listed
  pub meant : TextMeans (chars bytes) (Ok file)
  pub only : (answer : Result Listed Refusal) → TextMeans (chars bytes) answer → answer ≡ Ok file
  pub entries : AreReadBack es file.entries

-- What is written of settled entries reads back as these entries.
abbrev pub SettledEntriesReadBack : Type 0
SettledEntriesReadBack = (es : List Source) → is_settled es ≡ true → AllByRecursion IsText es → ReadsBack (written_file es) es
