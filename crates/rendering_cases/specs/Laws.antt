-- What no case changes, and what cases change character by character.
use Rattle.std.specs.Prelude.{ℕ, Bool, true, false, List, [], flat_map, Option, Some, None}
use Rattle.std.specs.Char.Unicode.ToLowercase.{to_lowercase}
use Rattle.std.specs.Char.Unicode.ToUppercase.{to_uppercase}
use Rattle.literature_values.specs.TextViews.{Chunk}
use Rattle.literature_values.specs.declared.text.ChunkKind.{ChunkKind}
use Rattle.literature_values.specs.declared.text.ChunkKind.TheVariants as kinds
use Rattle.rendering_taxonomy.specs.declared.text_case.TextCase.{TextCase}
use Rattle.rendering_taxonomy.specs.declared.text_case.TextCase.TheVariants as cases

-- of the text of a piece nothing where its case may be changed, else all
abbrev pub kept_text : ChunkKind → List ℕ → List ℕ
kept_text kinds.Normal cs = []
kept_text kinds.Verbatim cs = cs
kept_text kinds.Math cs = cs

-- of a piece its kind, and that text
abbrev pub kept : Chunk → Chunk
kept k = record { value = kept_text k.kind k.value; kind = k.kind }

-- what a text is in a case that takes each character by itself; nothing of other cases
abbrev pub letter_by_letter : Option TextCase → List ℕ → Option (List ℕ)
letter_by_letter (Some cases.Lowercase) cs = Some (flat_map to_lowercase cs)
letter_by_letter (Some cases.Uppercase) cs = Some (flat_map to_uppercase cs)
letter_by_letter case cs = None

-- whether a case changes nothing but first letters of words
abbrev pub changes_first_letters : Option TextCase → Bool
changes_first_letters (Some cases.CapitalizeFirst) = true
changes_first_letters (Some cases.CapitalizeAll) = true
changes_first_letters (Some cases.Title) = true
changes_first_letters case = false
