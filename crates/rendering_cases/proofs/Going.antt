-- Going along a text from place to place gives what stands for it between what comes before it and what follows.
use Rattle.std.proofs.Common.{◌≡◌, ℕ, Bool, List, [], ◌∷◌, ◌++◌, refl, sym, ap, ap₂, ◌∙◌, append-nil, append_assoc}
use Rattle.literature_values.specs.TextViews.{Chunk}
use Rattle.literature_values.specs.declared.text.ChunkKind.{ChunkKind}
use Rattle.literature_values.specs.declared.text.ChunkKind.TheVariants as kinds
use Rattle.rendering_taxonomy.specs.declared.text_case.TextCase.{TextCase}
use Rattle.rendering_cases.specs.Along.{changed_along, chunk_along, chunks_along, next, past, value_along}
use Rattle.rendering_cases.specs.Cases.{changed, changed_between, changed_chunks, passed, plain, value_between}
use Rattle.rendering_cases.specs.Words.{Place, place_at}

module _ (case : TextCase) (in_capitals : Bool) where
  along : (before cs beyond : List ℕ) → changed_along case in_capitals (place_at before (cs ++ beyond)) cs ≡ changed_between case in_capitals before cs beyond
  along before [] beyond = refl
  along before (c ∷ cs) beyond = ap (λ (t : List ℕ). changed case in_capitals (place_at before (c ∷ (cs ++ beyond))) c ++ t) (along (c ∷ before) cs beyond)

  -- a whole text
  pub whole : (cs : List ℕ) → changed_along case in_capitals (place_at [] cs) cs ≡ changed_between case in_capitals [] cs []
  whole cs = ap (λ (t : List ℕ). changed_along case in_capitals (place_at [] t) cs) (sym (append-nil cs)) ∙ along [] cs []

  value : (kind : ChunkKind) (before cs beyond : List ℕ) → value_along kind case in_capitals (place_at before (cs ++ beyond)) cs ≡ value_between kind case in_capitals before cs beyond
  value kinds.Normal before cs beyond = along before cs beyond
  value kinds.Verbatim before cs beyond = refl
  value kinds.Math before cs beyond = refl

-- the place after a text
passes : (before cs beyond : List ℕ) → past (place_at before (cs ++ beyond)) cs ≡ place_at (passed before cs) beyond
passes before [] beyond = refl
passes before (c ∷ cs) beyond = passes (c ∷ before) cs beyond

abbrev put : ChunkKind → List ℕ → Chunk
put kind cs = record { value = cs; kind = kind }

-- a text in pieces
pub pieces : (case : TextCase) (in_capitals : Bool) (before : List ℕ) (ks : List Chunk) → chunks_along case in_capitals (place_at before (plain ks)) ks ≡ changed_chunks case in_capitals before ks
pieces case in_capitals before [] = refl
pieces case in_capitals before (k ∷ ks) =
    ap₂ (λ (t : List ℕ) (rest : List Chunk). put k.kind t ∷ rest)
    (value case in_capitals k.kind before k.value (plain ks))
    (ap (λ (p : Place). chunks_along case in_capitals p ks) (passes before k.value (plain ks)) ∙ pieces case in_capitals (passed before k.value) ks)

-- one more character of a text
pub text_on : (case : TextCase) (in_capitals : Bool) (old new : List ℕ) (p q : Place) (c : ℕ) (rest more : List ℕ) → rest ≡ c ∷ more → new ≡ old ++ changed case in_capitals p c → q ≡ next p c
    → new ++ changed_along case in_capitals q more ≡ old ++ changed_along case in_capitals p rest
text_on case in_capitals old new p q c rest more is put goes = rw (is, put, goes) (append_assoc old (changed case in_capitals p c) (changed_along case in_capitals (next p c) more))

-- one more piece
pub chunk_on : (case : TextCase) (in_capitals : Bool) (done : List Chunk) (made k : Chunk) (p q : Place) (ks : List Chunk) → made ≡ chunk_along case in_capitals p k → q ≡ past p k.value
    → (done ++ made ∷ []) ++ chunks_along case in_capitals q ks ≡ done ++ chunks_along case in_capitals p (k ∷ ks)
chunk_on case in_capitals done made k p q ks is goes = rw (is, goes) (append_assoc done (chunk_along case in_capitals p k ∷ []) (chunks_along case in_capitals (past p k.value) ks))
