-- What is read of a document are its pieces, no document is that of two lists of pieces, and an opening without a marker is refused.
use Rattle.std.proofs.Common.{◌≡◌, ℕ, ◌-◌, List, [], ◌∷◌, ◌++◌, length, Result, Ok, Err, sym, ap, ◌∙◌, subst, arith}
use Rattle.std.proofs.lemmas.List.{length-append}
use Rattle.laws.specs.Steps.{each}
use Rattle.laws.specs.Text.{text as text_of}
use Rattle.laws.proofs.Results.{ok_is}
use Rattle.laws.proofs.Text.{text-append}
use Rattle.cite_markers.specs.Document.{Piece, piece_at, or_offset, document_of}
use Rattle.cite_markers.proofs.Leaving.{Leaves, leaves_all, leaves_more}
use Rattle.cite_markers.proofs.DocumentLeaving.{piece_leaves}
use Rattle.cite_markers_grammar.specs.Documents.{ArePieces, IsDocument, IsRefused}
use Rattle.cite_markers_grammar.proofs.Pieces.{All, AreSteps, piece-again, pieces-again, refusal-again, lacking-refuses, steps}

pub read-held : (cs : List ℕ) (ps : List Piece) → document_of cs ≡ Ok ps → IsDocument cs ps
unfolding document_of
read-held cs ps e = by_steps (each piece_at cs) (steps cs) e
  where
    by_steps : (r : All) → AreSteps cs r → or_offset cs r ≡ Ok ps → IsDocument cs ps
    by_steps (Ok q) are e = subst (IsDocument cs) (ok_is {F = ℕ} q.0 ps e) are
    by_steps (Err opening) are e = absurd cc

pub held-read : (cs : List ℕ) (ps : List Piece) → IsDocument cs ps → document_of cs ≡ Ok ps
unfolding document_of
held-read cs ps are = ap (or_offset cs) (pieces-again ps cs are)

pub unique : (cs : List ℕ) (ps qs : List Piece) → IsDocument cs ps → IsDocument cs qs → ps ≡ qs
unique cs ps qs are other = ok_is {F = ℕ} ps qs (sym (held-read cs ps are) ∙ held-read cs qs other)

-- pieces leave an end of the text
pieces-leave : (ps : List Piece) (cs rest : List ℕ) → ArePieces cs ps rest → Leaves cs rest
pieces-leave [] cs rest e = subst (Leaves cs) e (leaves_all cs)
pieces-leave (p ∷ ps) cs rest (a, is, are) = leaves_more cs a rest (piece_leaves cs a p (piece-again p cs a is)) (pieces-leave ps a rest are)

-- the bytes before an opening
offset : (cs front opening : List ℕ) → cs ≡ front ++ opening → length (text_of cs) - length (text_of opening) ≡ length (text_of front)
offset cs front opening e = omega (arith, ap length (ap text_of e ∙ text-append front opening), length-append (text_of front) (text_of opening))

abbrev refusal : ℕ → Result (List Piece) ℕ
refusal at = Err at

refusal-same : (m n : ℕ) → refusal m ≡ refusal n → m ≡ n
refusal-same m n e = cc

pub read-refused : (cs : List ℕ) (at : ℕ) → document_of cs ≡ Err at → IsRefused cs at
unfolding document_of
read-refused cs at e = by_steps (each piece_at cs) (steps cs) e
  where
    by_steps : (r : All) → AreSteps cs r → or_offset cs r ≡ Err at → IsRefused cs at
    by_steps (Ok q) are e = absurd cc
    by_steps (Err opening) (ps, are, opens, lacks) e =
        let leaves = pieces-leave ps cs opening are in
        (leaves.prefix, opening, ps, leaves.parts, are, opens, lacks, sym (refusal-same (length (text_of cs) - length (text_of opening)) at e) ∙ offset cs leaves.prefix opening leaves.parts)

pub refused-read : (cs : List ℕ) (at : ℕ) → IsRefused cs at → document_of cs ≡ Err at
unfolding document_of
refused-read cs at (front, opening, ps, e, are, opens, lacks, is) =
    ap (or_offset cs) (refusal-again ps cs opening are (lacking-refuses opening opens lacks)) ∙ ap refusal (offset cs front opening e ∙ sym is)
