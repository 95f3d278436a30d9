-- The same from place to place, as the code goes along a text.
use Rattle.std.specs.Prelude.{ℕ, Bool, not, ◌&&◌, ◌||◌, List, [], ◌∷◌, ◌++◌}
use Rattle.literature_values.specs.TextViews.{Chunk}
use Rattle.literature_values.specs.declared.text.ChunkKind.{ChunkKind}
use Rattle.literature_values.specs.declared.text.ChunkKind.TheVariants as kinds
use Rattle.rendering_taxonomy.specs.declared.text_case.TextCase.{TextCase}
use Rattle.rendering_cases.specs.Cases.{changed}
use Rattle.rendering_cases.specs.Words.{Place, is_letter, is_mark, parts_words}

-- the same three things of a place, after one more character
abbrev pub word_start_after : Bool → ℕ → Bool
word_start_after begins c = parts_words c || (not (is_letter c) && begins)

abbrev pub text_start_after : Bool → ℕ → Bool
text_start_after begins c = not (is_letter c) && begins

abbrev pub mark_after : Bool → ℕ → Bool
mark_after follows c = is_mark c || (not (is_letter c) && follows)

-- a text without its first character
abbrev pub rest_of : List ℕ → List ℕ
rest_of [] = []
rest_of (c ∷ cs) = cs

-- the place after a character
abbrev pub next : Place → ℕ → Place
next p c = record {
  begins_word = word_start_after p.begins_word c;
  begins_text = text_start_after p.begins_text c;
  follows_mark = mark_after p.follows_mark c;
  ahead = rest_of p.ahead;
}

-- the place after a text
abbrev pub past : Place → List ℕ → Place
past p [] = p
past p (c ∷ cs) = past (next p c) cs

-- what stands for the characters of a text from a place on
abbrev pub changed_along : TextCase → Bool → Place → List ℕ → List ℕ
changed_along case in_capitals p [] = []
changed_along case in_capitals p (c ∷ cs) =
    changed case in_capitals p c ++ changed_along case in_capitals (next p c) cs

-- the text of a piece
abbrev pub value_along : ChunkKind → TextCase → Bool → Place → List ℕ → List ℕ
value_along kinds.Normal case in_capitals p cs = changed_along case in_capitals p cs
value_along kinds.Verbatim case in_capitals p cs = cs
value_along kinds.Math case in_capitals p cs = cs

-- a piece
abbrev pub chunk_along : TextCase → Bool → Place → Chunk → Chunk
chunk_along case in_capitals p k =
    record { value = value_along k.kind case in_capitals p k.value; kind = k.kind }

-- pieces
abbrev pub chunks_along : TextCase → Bool → Place → List Chunk → List Chunk
chunks_along case in_capitals p [] = []
chunks_along case in_capitals p (k ∷ ks) =
    chunk_along case in_capitals p k ∷ chunks_along case in_capitals (past p k.value) ks
