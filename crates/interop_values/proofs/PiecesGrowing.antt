-- Pieces that grow.
use Rattle.std.proofs.Common.{◌≡◌, ℕ, Bool, true, false, List, [], ◌∷◌, ◌++◌, map, refl, sym, ap, ◌∙◌, append_assoc, Option, Some, None, codes}
use Rattle.std.specs.Str.{chars}
use mathlib.Core.Bool.{beq}
use Rattle.std.proofs.lemmas.List.{append-nil, map-append}
use Rattle.biblatex_content.specs.declared.chunk.Kind.{Kind}
use Rattle.biblatex_content.specs.declared.chunk.Kind.TheVariants as kinds
use Rattle.biblatex_content.specs.Styled.{Member, Letter, Math, letters}
use Rattle.laws.specs.Characters as character
use Rattle.laws.specs.Text.{characters, is_filled}
use Rattle.literature_values.specs.declared.text.ChunkKind.TheVariants as pieces
use Rattle.literature_values.specs.declared.text.StringChunk.{StringChunk}
use Rattle.literature_values.specs.TextViews.{Chunk, chunk_view}
use Rattle.interop_values.specs.Pieces.{piece_kind, is_of, pieces_of}
use Rattle.interop_values.specs.Readings.{with_subtitle}
use Rattle.interop_values.specs.Views.{kind_of}
use Rattle.interop_values.proofs.PiecesParting.{first_is, first_before, parted, no_formula, one_piece}

-- a text that is ended is a piece
pub ended : (ps : List StringChunk) (s : StringChunk) (k : Kind) (cs : List ℕ) → characters s.value ≡ cs → s.kind ≡ piece_kind k → is_filled cs ≡ true → map chunk_view (ps ++ s ∷ []) ≡ map chunk_view ps ++ pieces_of (letters k cs)
ended ps s k cs same kind filled =
    map-append chunk_view ps (s ∷ [])
    ∙ ap (λ (qs : List Chunk). map chunk_view ps ++ qs) ((λ i. record { value = same i; kind = kind i } ∷ []) ∙ sym (one_piece k cs filled))

-- the pieces of a text that goes on are those of both its parts together
pub goes_on : (ps : List Chunk) (k : Kind) (run cs : List ℕ) (rest : List Member) → ps ++ pieces_of (letters k (run ++ cs) ++ rest) ≡ ps ++ pieces_of (letters k run ++ (letters k cs ++ rest))
goes_on ps k run cs rest = ap (λ (ms : List Member). ps ++ pieces_of ms) (ap (λ (ms : List Member). ms ++ rest) (map-append (Letter k) run cs) ∙ append_assoc (letters k run) (letters k cs) rest)

-- what follows a text that has been ended
pub follows : (ps : List Chunk) (k : Kind) (run : List ℕ) (rest : List Member) → first_is k (pieces_of rest) ≡ false → (ps ++ pieces_of (letters k run)) ++ pieces_of rest ≡ ps ++ pieces_of (letters k run ++ rest)
follows ps k run rest e = append_assoc ps (pieces_of (letters k run)) (pieces_of rest) ∙ ap (λ (qs : List Chunk). ps ++ qs) (sym (parted k run rest e))

-- a formula after a text that has been ended
pub formula : (done : List StringChunk) (s : StringChunk) (ps : List Chunk) (k : Kind) (run cs : List ℕ) (rest : List Member) → map chunk_view done ≡ ps ++ pieces_of (letters k run) → characters s.value ≡ cs → s.kind ≡ pieces.Math → map chunk_view (done ++ s ∷ []) ++ pieces_of rest ≡ ps ++ pieces_of (letters k run ++ (Math cs ∷ rest))
formula done s ps k run cs rest before same kind =
    ap (λ (qs : List Chunk). qs ++ pieces_of rest) (map-append chunk_view done (s ∷ []))
    ∙ (append_assoc (map chunk_view done) (chunk_view s ∷ []) (pieces_of rest)
    ∙ ((λ i. before i ++ (record { value = same i; kind = kind i } ∷ pieces_of rest))
    ∙ follows ps k run (Math cs ∷ rest) (no_formula k)))

unlike : (b d : Bool) → beq b d ≡ false → is_of (kind_of b) (piece_kind (kind_of d)) ≡ false
unlike true true e = absurd cc
unlike true false e = refl
unlike false true e = refl
unlike false false e = absurd cc

-- a character of another kind after a text that has been ended
pub turned : (ps : List Chunk) (b d : Bool) (run : List ℕ) (c : ℕ) (rest : List Member) → beq b d ≡ false → (ps ++ pieces_of (letters (kind_of b) run)) ++ pieces_of (Letter (kind_of d) c ∷ rest) ≡ ps ++ pieces_of (letters (kind_of b) run ++ (Letter (kind_of d) c ∷ rest))
turned ps b d run c rest e = follows ps (kind_of b) run (Letter (kind_of d) c ∷ rest) (first_before (kind_of b) (kind_of d) c (pieces_of rest) (unlike b d e))

-- text of the kind that stands after pieces
pub put_last : (new : List Chunk) (b d : Bool) (run cs : List ℕ) (old : List Member → List Chunk) (rest : List Member) → b ≡ d → is_filled cs ≡ true → ((c : ℕ) (more : List Member) → new ++ pieces_of (letters (kind_of b) run ++ (Letter (kind_of d) c ∷ more)) ≡ old (Letter (kind_of d) c ∷ more)) → new ++ pieces_of (letters (kind_of b) (run ++ cs) ++ rest) ≡ old (letters (kind_of d) cs ++ rest)
put_last new b d run [] old rest e filled h = absurd cc
put_last new b d run (c ∷ cs) old rest e filled h =
    goes_on new (kind_of b) run (c ∷ cs) rest
    ∙ (ap (λ (x : Bool). new ++ pieces_of (letters (kind_of b) run ++ (letters (kind_of x) (c ∷ cs) ++ rest))) e
    ∙ h c (letters (kind_of d) cs ++ rest))

-- a title with its subtitle after it
pub after_title : (ms : List Member) (subtitle : Option (List Member)) → ms ++ (with_subtitle [] subtitle ++ []) ≡ with_subtitle ms subtitle
after_title ms None = append-nil ms
after_title ms (Some sub) = ap (λ (ns : List Member). ms ++ ns) (append-nil (letters kinds.Normal (character.colon ∷ character.space ∷ []) ++ sub))

-- a colon and a space spell themselves
pub colon : chars (codes ": ") ≡ character.colon ∷ character.space ∷ []
unfolding chars
colon = refl
