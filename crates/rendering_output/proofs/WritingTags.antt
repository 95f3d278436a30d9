-- Tags that were written, one after the other.
use Rattle.std.proofs.Common.{◌≡◌, ℕ, Bool, false, List, [], ◌∷◌, ◌++◌, if◌then◌else◌, Option, Some, None, refl, sym, ap, subst, append-nil}
use Rattle.std.specs.List.{flat_map}
use Rattle.std.proofs.lemmas.Grind.{flat_map-append}
use Rattle.rendering_taxonomy.specs.Formats.{plain, looks_like}
use Rattle.rendering_taxonomy.specs.declared.formatting.Display.{Display}
use Rattle.rendering_taxonomy.specs.declared.formatting.Formatting.{Formatting}
use Rattle.rendering_output.specs.declared.writing.BufWriteFormat.{BufWriteFormat}
use Rattle.rendering_output.specs.Writing.{Tag, words, span, end_span, spanned, divided, begun, ended, tag_text, WritesCharacters, WritesTags}
use Rattle.rendering_output.proofs.WritingCalls.{writes_nothing, writes_more}

module _ {W : Type 0} (took : W → List ℕ → W → Type 0) (format : BufWriteFormat) where
  -- no tags were written
  pub writes_no_tags : (w : W) → WritesTags took format w [] w
  writes_no_tags w = writes_nothing took w

  -- more were written after them
  pub writes_more_tags : (w : W) (ts : List Tag) (v : W) (us : List Tag) (u : W) → WritesTags took format w ts v → WritesTags took format v us u → WritesTags took format w (ts ++ us) u
  writes_more_tags w ts v us u p q =
      subst (λ (cs : List ℕ). WritesCharacters took w cs u) (sym (flat_map-append (tag_text format) ts us)) (writes_more took w (flat_map (tag_text format) ts) v (flat_map (tag_text format) us) u p q)

-- a text whose formatting is not the default
pub spanned-looks : (f : Formatting) (cs : List ℕ) → looks_like f plain ≡ false → spanned f cs ≡ span f ∷ words cs ∷ end_span ∷ []
spanned-looks f cs e = ap (λ (b : Bool). if b then words cs ∷ [] else span f ∷ words cs ∷ end_span ∷ []) e

-- an element: where it begins, what it contains, and where it ends
pub divided-parts : (d : Option Display) (ts : List Tag) → begun d ++ (ts ++ ended d) ≡ divided d ts
divided-parts None ts = append-nil ts
divided-parts (Some d) ts = refl
