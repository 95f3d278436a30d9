-- What no case changes.
use Rattle.std.proofs.Common.{◌≡◌, ℕ, Bool, true, false, cond, List, [], ◌∷◌, map, refl, ap₂, Option, Some, None}
use Rattle.literature_values.specs.TextViews.{Chunk}
use Rattle.literature_values.specs.declared.text.ChunkKind.{ChunkKind}
use Rattle.literature_values.specs.declared.text.ChunkKind.TheVariants as kinds
use Rattle.rendering_taxonomy.specs.declared.text_case.TextCase.{TextCase}
use Rattle.rendering_cases.specs.Cases.{applies, cased_chunks, cased_text, changed_chunks, is_for, passed, plain, value_between}
use Rattle.rendering_cases.specs.Laws.{kept, kept_text}
use Rattle.rendering_cases.specs.Words.{is_in_capitals}

text_kept : (kind : ChunkKind) (case : TextCase) (in_capitals : Bool) (before cs beyond : List ℕ) → kept_text kind (value_between kind case in_capitals before cs beyond) ≡ kept_text kind cs
text_kept kinds.Normal case in_capitals before cs beyond = refl
text_kept kinds.Verbatim case in_capitals before cs beyond = refl
text_kept kinds.Math case in_capitals before cs beyond = refl

abbrev put : ChunkKind → List ℕ → Chunk
put kind cs = record { value = cs; kind = kind }

all_kept : (case : TextCase) (in_capitals : Bool) (before : List ℕ) (ks : List Chunk) → map kept (changed_chunks case in_capitals before ks) ≡ map kept ks
all_kept case in_capitals before [] = refl
all_kept case in_capitals before (k ∷ ks) =
    ap₂ (λ (t : List ℕ) (rest : List Chunk). put k.kind t ∷ rest)
    (text_kept k.kind case in_capitals before k.value (plain ks))
    (all_kept case in_capitals (passed before k.value) ks)

pub cased_kept : (case : Option TextCase) (is_english : Bool) (ks : List Chunk) → map kept (cased_chunks case is_english ks) ≡ map kept ks
cased_kept None is_english ks = refl
cased_kept (Some case) is_english ks = by_language (is_for case is_english)
  where
    by_language : (b : Bool) → map kept (cond b (changed_chunks case (is_in_capitals (plain ks)) [] ks) ks) ≡ map kept ks
    by_language true = all_kept case (is_in_capitals (plain ks)) [] ks
    by_language false = refl

-- where no case applies, texts stay as they are
pub same_text : (case : Option TextCase) (is_english : Bool) (cs : List ℕ) → applies case is_english ≡ false → cased_text case is_english cs ≡ cs
same_text None is_english cs none = refl
same_text (Some case) is_english cs none = rw none refl

pub same_chunks : (case : Option TextCase) (is_english : Bool) (ks : List Chunk) → applies case is_english ≡ false → cased_chunks case is_english ks ≡ ks
same_chunks None is_english ks none = refl
same_chunks (Some case) is_english ks none = rw none refl
