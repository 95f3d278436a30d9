-- What text case makes of a text, and of a text in pieces.
use Rattle.std.specs.Prelude.{ℕ, Bool, true, false, not, ◌&&◌, ◌||◌, List, [], ◌∷◌, ◌++◌, flat_map, if◌then◌else◌, Option, Some, None}
use Rattle.std.specs.Char.Unicode.ToLowercase.{to_lowercase}
use Rattle.std.specs.Char.Unicode.ToUppercase.{to_uppercase}
use Rattle.literature_values.specs.TextViews.{Chunk}
use Rattle.literature_values.specs.declared.text.ChunkKind.{ChunkKind}
use Rattle.literature_values.specs.declared.text.ChunkKind.TheVariants as kinds
use Rattle.rendering_taxonomy.specs.declared.text_case.TextCase.{TextCase}
use Rattle.rendering_taxonomy.specs.declared.text_case.TextCase.TheVariants as cases
use Rattle.rendering_cases.specs.StopWords.{is_stop_word}
use Rattle.rendering_cases.specs.Words.{Place, place_at, is_letter, is_small, is_last, is_in_capitals, word}

-- a letter there begins a word without a capital
abbrev pub begins_small_word : Place → ℕ → Bool
begins_small_word p c = is_letter c && (p.begins_word && is_small p.ahead)

-- and the word is the first one
abbrev pub begins_first_word : Place → ℕ → Bool
begins_first_word p c = p.begins_text && begins_small_word p c

-- the word there is no stop word, or the last word
abbrev pub is_last_or_no_stop_word : Place → Bool
is_last_or_no_stop_word p = not (is_stop_word (word p.ahead)) || is_last p.ahead

-- and a title capitalises it: it is the first word, or stands after a mark, or is one of these
abbrev pub begins_title_word : Place → ℕ → Bool
begins_title_word p c =
    begins_small_word p c && (p.begins_text || (p.follows_mark || is_last_or_no_stop_word p))

-- a letter there is the first one of the text
abbrev pub is_first_letter : Place → ℕ → Bool
is_first_letter p c = p.begins_text && is_letter c

-- a character, as a capital or as it is
abbrev pub raised_if : Bool → ℕ → List ℕ
raised_if is_raised c = if is_raised then to_uppercase c else c ∷ []

-- a character of a sentence: in a text of capitals it is small, but for the first letter
abbrev pub in_sentence : Bool → Place → ℕ → List ℕ
in_sentence in_capitals p c =
    if in_capitals && not (is_first_letter p c) then to_lowercase c
    else raised_if (begins_first_word p c) c

-- what stands for a character at a place, of a text that is in capitals or not
abbrev pub changed : TextCase → Bool → Place → ℕ → List ℕ
changed cases.Lowercase in_capitals p c = to_lowercase c
changed cases.Uppercase in_capitals p c = to_uppercase c
changed cases.CapitalizeFirst in_capitals p c = raised_if (begins_first_word p c) c
changed cases.CapitalizeAll in_capitals p c = raised_if (begins_small_word p c) c
changed cases.Sentence in_capitals p c = in_sentence in_capitals p c
changed cases.Title in_capitals p c = raised_if (begins_title_word p c) c

-- what stands for a text, between what comes before it, the nearest first, and what follows it
abbrev pub changed_between : TextCase → Bool → List ℕ → List ℕ → List ℕ → List ℕ
changed_between case in_capitals before [] beyond = []
changed_between case in_capitals before (c ∷ cs) beyond =
    changed case in_capitals (place_at before (c ∷ (cs ++ beyond))) c
    ++ changed_between case in_capitals (c ∷ before) cs beyond

-- whether a case is for texts of the language: titles are English
abbrev pub is_for : TextCase → Bool → Bool
is_for cases.Title is_english = is_english
is_for case is_english = true

-- whether there is a case that is
abbrev pub applies : Option TextCase → Bool → Bool
applies None is_english = false
applies (Some case) is_english = is_for case is_english

-- a text in a case, or as it is
abbrev pub cased_text : Option TextCase → Bool → List ℕ → List ℕ
cased_text None is_english cs = cs
cased_text (Some case) is_english cs =
    if is_for case is_english then changed_between case (is_in_capitals cs) [] cs [] else cs

-- the characters of pieces
abbrev pub plain : List Chunk → List ℕ
plain ks = flat_map (λ (k : Chunk). k.value) ks

-- the text of a piece by its kind: verbatim pieces and formulas stay
abbrev pub value_between : ChunkKind → TextCase → Bool → List ℕ → List ℕ → List ℕ → List ℕ
value_between kinds.Normal case in_capitals before cs beyond =
    changed_between case in_capitals before cs beyond
value_between kinds.Verbatim case in_capitals before cs beyond = cs
value_between kinds.Math case in_capitals before cs beyond = cs

-- what stands before a place once more characters do
abbrev pub passed : List ℕ → List ℕ → List ℕ
passed before [] = before
passed before (c ∷ cs) = passed (c ∷ before) cs

-- a piece, between what stands before it and the pieces that follow it
abbrev pub chunk_between : TextCase → Bool → List ℕ → Chunk → List Chunk → Chunk
chunk_between case in_capitals before k ks = record {
  value = value_between k.kind case in_capitals before k.value (plain ks);
  kind = k.kind;
}

-- each piece
abbrev pub changed_chunks : TextCase → Bool → List ℕ → List Chunk → List Chunk
changed_chunks case in_capitals before [] = []
changed_chunks case in_capitals before (k ∷ ks) =
    chunk_between case in_capitals before k ks
    ∷ changed_chunks case in_capitals (passed before k.value) ks

-- a text in pieces in a case, or as it is
abbrev pub cased_chunks : Option TextCase → Bool → List Chunk → List Chunk
cased_chunks None is_english ks = ks
cased_chunks (Some case) is_english ks =
    if is_for case is_english then changed_chunks case (is_in_capitals (plain ks)) [] ks else ks
