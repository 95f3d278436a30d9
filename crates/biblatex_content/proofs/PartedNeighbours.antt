-- A chunk after others.
use Rattle.std.proofs.Common.{◌≡◌, ℕ, true, ◌&&◌, List, [], ◌∷◌, ◌++◌, Option, Some, None, refl, sym}
use Rattle.biblatex_content.specs.declared.chunk.Kind.{Kind}
use Rattle.biblatex_content.specs.declared.chunk.Kind.TheVariants.{Normal, Verbatim}
use Rattle.biblatex_content.specs.declared.chunk.Chunk.{Chunk}
use Rattle.biblatex_text.specs.declared.spanned.Spanned.{Spanned}
use Rattle.laws.specs.Text.{is_filled}
use Rattle.biblatex_content.specs.Parted.{is_full, kind_of, is_apart, are_parted, last_kind, IsLastOrNone}
use Rattle.biblatex_content.proofs.Tests.{both, first_of_two, second_of_two}

pub last_kind_after : (cs : List (Spanned Chunk)) (c : Spanned Chunk) → last_kind (cs ++ c ∷ []) ≡ kind_of c.v
last_kind_after [] c = refl
last_kind_after (d ∷ []) c = refl
last_kind_after (d ∷ e ∷ cs) c = last_kind_after (e ∷ cs) c

apart_from_none : (kind : Option Kind) → is_apart kind None ≡ true
apart_from_none None = refl
apart_from_none (Some Normal) = refl
apart_from_none (Some Verbatim) = refl

pub parted_after : (cs : List (Spanned Chunk)) (c : Spanned Chunk) → are_parted cs ≡ true → is_full c.v ≡ true → is_apart (last_kind cs) (kind_of c.v) ≡ true → are_parted (cs ++ c ∷ []) ≡ true
parted_after [] c parted full apart = rw (full, apart_from_none (kind_of c.v)) refl
parted_after (d ∷ []) c parted full apart =
    let alone = first_of_two (is_full d.v) (is_apart (kind_of d.v) None) (first_of_two _ true parted) in
    rw (alone, apart, full, apart_from_none (kind_of c.v)) refl
parted_after (d ∷ e ∷ cs) c parted full apart =
    let here = is_full d.v && is_apart (kind_of d.v) (kind_of e.v) in
    both here (are_parted ((e ∷ cs) ++ c ∷ [])) (first_of_two here (are_parted (e ∷ cs)) parted) (parted_after (e ∷ cs) c (second_of_two here (are_parted (e ∷ cs)) parted) full apart)

pub last_or_none_fresh : (kind : Kind) (last : Option Kind) → last ≡ None → IsLastOrNone kind last
last_or_none_fresh kind last e = rw e tt

pub last_or_none_same : (kind : Kind) (last : Option Kind) → last ≡ Some kind → IsLastOrNone kind last
last_or_none_same kind last e = rw e refl

-- a text of the other kind may follow
pub apart_from_last : (kind other : Kind) (last : Option Kind) → IsLastOrNone kind last → (kind ≡ other → ⊥) → is_apart last (Some other) ≡ true
apart_from_last kind other None e differ = refl
apart_from_last kind Normal (Some Normal) e differ = absurd (differ (sym e))
apart_from_last kind Verbatim (Some Normal) e differ = refl
apart_from_last kind Normal (Some Verbatim) e differ = refl
apart_from_last kind Verbatim (Some Verbatim) e differ = absurd (differ (sym e))

-- something is there after a text
pub filled_after : (cs ds : List ℕ) → is_filled ds ≡ true → cs ++ ds ≡ [] → ⊥
filled_after [] [] filled e = absurd cc
filled_after [] (d ∷ ds) filled e = absurd cc
filled_after (c ∷ cs) ds filled e = absurd cc
