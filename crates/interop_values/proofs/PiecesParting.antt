-- Where pieces of a styled text are parted.
use Rattle.std.proofs.Common.{◌≡◌, ℕ, Bool, true, false, List, [], ◌∷◌, ◌++◌, refl, ap, ◌∙◌}
use Rattle.biblatex_content.specs.declared.chunk.Kind.{Kind}
use Rattle.biblatex_content.specs.declared.chunk.Kind.TheVariants as kinds
use Rattle.biblatex_content.specs.Styled.{Member, letters}
use Rattle.literature_values.specs.declared.text.ChunkKind.{ChunkKind}
use Rattle.literature_values.specs.declared.text.ChunkKind.TheVariants as pieces
use Rattle.literature_values.specs.TextViews.{Chunk}
use Rattle.interop_values.specs.Pieces.{piece_kind, is_of, joined, letter_before, pieces_of}
use Rattle.laws.specs.Text.{is_filled}

-- whether the first piece is of the kind
abbrev pub first_is : Kind → List Chunk → Bool
first_is kind [] = false
first_is kind (p ∷ ps) = is_of kind p.kind

-- a character before pieces of another kind is a piece of its own
alone : (k : Kind) (c : ℕ) (ps : List Chunk) → first_is k ps ≡ false → letter_before k c ps ≡ record { value = c ∷ []; kind = piece_kind k } ∷ ps
alone k c [] e = refl
alone k c (p ∷ ps) e = rw e refl

joined_both : (b : Bool) (k : Kind) (c : ℕ) (p : Chunk) (ps qs : List Chunk) → joined b k c p (ps ++ qs) ≡ joined b k c p ps ++ qs
joined_both true k c p ps qs = refl
joined_both false k c p ps qs = refl

twice_by : (b : Bool) (k : Kind) (c d : ℕ) (x : Chunk) (xs qs : List Chunk) → letter_before k c (joined b k d x xs ++ qs) ≡ letter_before k c (joined b k d x xs) ++ qs
twice_by true k c d x xs qs = joined_both (is_of k x.kind) k c (record { value = d ∷ x.value; kind = x.kind }) xs qs
twice_by false k c d x xs qs = joined_both (is_of k (piece_kind k)) k c (record { value = d ∷ []; kind = piece_kind k }) (x ∷ xs) qs

twice : (k : Kind) (c d : ℕ) (ps qs : List Chunk) → letter_before k c (letter_before k d ps ++ qs) ≡ letter_before k c (letter_before k d ps) ++ qs
twice k c d [] qs = joined_both (is_of k (piece_kind k)) k c (record { value = d ∷ []; kind = piece_kind k }) [] qs
twice k c d (x ∷ xs) qs = twice_by (is_of k x.kind) k c d x xs qs

-- text before pieces of another kind
pub parted : (k : Kind) (cs : List ℕ) (ms : List Member) → first_is k (pieces_of ms) ≡ false → pieces_of (letters k cs ++ ms) ≡ pieces_of (letters k cs) ++ pieces_of ms
parted k [] ms e = refl
parted k (c ∷ []) ms e = alone k c (pieces_of ms) e
parted k (c ∷ d ∷ cs) ms e = ap (letter_before k c) (parted k (d ∷ cs) ms e) ∙ twice k c d (pieces_of (letters k cs)) (pieces_of ms)

-- a kind is of itself alone
other : (j k : Kind) (kind : ChunkKind) → is_of j (piece_kind k) ≡ false → is_of k kind ≡ true → is_of j kind ≡ false
other kinds.Normal kinds.Normal kind e f = absurd cc
other kinds.Verbatim kinds.Verbatim kind e f = absurd cc
other kinds.Normal kinds.Verbatim pieces.Normal e f = absurd cc
other kinds.Normal kinds.Verbatim pieces.Verbatim e f = refl
other kinds.Normal kinds.Verbatim pieces.Math e f = refl
other kinds.Verbatim kinds.Normal pieces.Normal e f = refl
other kinds.Verbatim kinds.Normal pieces.Verbatim e f = absurd cc
other kinds.Verbatim kinds.Normal pieces.Math e f = refl

first_by : (b : Bool) (j k : Kind) (c : ℕ) (p : Chunk) (ps : List Chunk) → is_of k p.kind ≡ b → is_of j (piece_kind k) ≡ false → first_is j (joined b k c p ps) ≡ false
first_by true j k c p ps same e = other j k p.kind e same
first_by false j k c p ps same e = e

pub first_before : (j k : Kind) (c : ℕ) (ps : List Chunk) → is_of j (piece_kind k) ≡ false → first_is j (letter_before k c ps) ≡ false
first_before j k c [] e = e
first_before j k c (p ∷ ps) e = first_by (is_of k p.kind) j k c p ps refl e

-- a formula is of no kind of text
pub no_formula : (k : Kind) → is_of k pieces.Math ≡ false
no_formula kinds.Normal = refl
no_formula kinds.Verbatim = refl

same : (k : Kind) → is_of k (piece_kind k) ≡ true
same kinds.Normal = refl
same kinds.Verbatim = refl

-- text of one kind is one piece
pub one_piece : (k : Kind) (cs : List ℕ) → is_filled cs ≡ true → pieces_of (letters k cs) ≡ record { value = cs; kind = piece_kind k } ∷ []
one_piece k [] e = absurd cc
one_piece k (c ∷ []) e = refl
one_piece k (c ∷ d ∷ cs) e = ap (letter_before k c) (one_piece k (d ∷ cs) refl) ∙ ap (λ (b : Bool). joined b k c (record { value = d ∷ cs; kind = piece_kind k }) []) (same k)
