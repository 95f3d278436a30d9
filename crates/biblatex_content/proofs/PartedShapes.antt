-- Chunks of the same kinds, of which the same give something, are joined alike.
use Rattle.std.proofs.Common.{◌≡◌, Bool, true, ◌&&◌, List, [], ◌∷◌, map, Option, None, refl, sym, ap, ◌∙◌}
use Rattle.biblatex_text.specs.declared.spanned.Spanned.{Spanned}
use Rattle.biblatex_content.specs.declared.chunk.Kind.{Kind}
use Rattle.biblatex_content.specs.declared.chunk.Chunk.{Chunk}
use Rattle.biblatex_content.specs.Parted.{is_full, kind_of, is_apart, first_kind, are_parted}

abbrev pub kinds : List (Spanned Chunk) → List (Option Kind)
kinds cs = map (λ c. kind_of c.v) cs

abbrev pub fullness : List (Spanned Chunk) → List Bool
fullness cs = map (λ c. is_full c.v) cs

abbrev first_in : List (Option Kind) → Option Kind
first_in [] = None
first_in (k ∷ ks) = k

abbrev parted_in : List (Option Kind) → List Bool → Bool
parted_in [] fs = true
parted_in (k ∷ ks) [] = true
parted_in (k ∷ ks) (f ∷ fs) = f && is_apart k (first_in ks) && parted_in ks fs

first_by_kinds : (cs : List (Spanned Chunk)) → first_kind cs ≡ first_in (kinds cs)
first_by_kinds [] = refl
first_by_kinds (c ∷ cs) = refl

parted_by_kinds : (cs : List (Spanned Chunk)) → are_parted cs ≡ parted_in (kinds cs) (fullness cs)
parted_by_kinds [] = refl
parted_by_kinds (c ∷ cs) = rw (first_by_kinds cs, parted_by_kinds cs) refl

pub parted_alike : (cs ds : List (Spanned Chunk)) → kinds cs ≡ kinds ds → fullness cs ≡ fullness ds → are_parted cs ≡ are_parted ds
parted_alike cs ds same_kinds same_fullness = parted_by_kinds cs ∙ (ap (λ (ks : List (Option Kind)). parted_in ks (fullness cs)) same_kinds ∙ (ap (parted_in (kinds ds)) same_fullness ∙ sym (parted_by_kinds ds)))
