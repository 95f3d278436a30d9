-- What a piece of a document leaves.
use Rattle.std.proofs.Common.{◌≡◌, ℕ, Bool, true, false, cond, List, [], ◌∷◌, Option, Some, None, Result, Ok, Err, refl, arith}
use Rattle.std.specs.Prelude.{IfOk, ◌==◌, ◌&&◌}
use Rattle.laws.specs.Characters.{backslash}
use Rattle.laws.specs.Steps.{Shortens}
use Rattle.laws.proofs.Results.{if_ok_at}
use Rattle.texts.specs.declared.reader.Unreadable.{Unreadable}
use Rattle.cite_markers.specs.Marker.{Cite, marker_at, opening_at}
use Rattle.cite_markers.specs.Document.{Piece, is_opening, escaped, is_opening_or_escape, from_opening_or_escape, Step, text_at, marker_or_fault, piece_if_escaped, piece_at}
use Rattle.cite_markers.proofs.Leaving.{Leaves, LeavesRest, leaves_all, leaves_more, leaves_past, end_length}
use Rattle.cite_markers.proofs.MarkerLeaving.{marker_leaves}

-- a step that gives a piece takes the first character at least
abbrev pub TakesOne : List ℕ → Option Piece × List ℕ → Type 0
TakesOne cs (None, rest) = Unit {0}
TakesOne [] (Some p, rest) = ⊥
TakesOne (c ∷ cs) (Some p, rest) = Leaves cs rest

from_opening_or_escape_leaves : (cs : List ℕ) → Leaves cs (from_opening_or_escape cs)
from_opening_or_escape_leaves [] = leaves_all []
from_opening_or_escape_leaves (c ∷ cs) = by_test (from_opening_or_escape_leaves cs) (is_opening_or_escape (c ∷ cs))
  where
    by_test : Leaves cs (from_opening_or_escape cs) → (b : Bool) → Leaves (c ∷ cs) (cond b (c ∷ cs) (from_opening_or_escape cs))
    by_test more true = leaves_all (c ∷ cs)
    by_test more false = leaves_more (c ∷ cs) cs (from_opening_or_escape cs) (leaves_past (c ∷ cs) c cs (leaves_all (c ∷ cs))) more

text_takes : (cs : List ℕ) → IfOk (text_at cs) (TakesOne cs)
text_takes [] = tt
text_takes (c ∷ cs) = from_opening_or_escape_leaves cs

-- a text after a backslash
text_takes_after : (c : ℕ) (cs : List ℕ) → IfOk (text_at cs) (TakesOne (c ∷ cs))
text_takes_after c [] = tt
text_takes_after c (d ∷ cs) = leaves_more (d ∷ cs) cs (from_opening_or_escape cs) (leaves_past (d ∷ cs) d cs (leaves_all (d ∷ cs))) (from_opening_or_escape_leaves cs)

marker_takes : (c : ℕ) (cs : List ℕ) (r : Result (List Cite × List ℕ) Unreadable) → IfOk r (LeavesRest cs) → IfOk (marker_or_fault (c ∷ cs) r) (TakesOne (c ∷ cs))
marker_takes c cs (Ok p) a = a
marker_takes c cs (Err e) a = tt

-- at the end of the text there is no piece
none_at_end : IfOk (piece_at []) (TakesOne [])
unfolding piece_at is_opening opening_at
none_at_end = tt

pub piece_takes : (cs : List ℕ) → IfOk (piece_at cs) (TakesOne cs)
unfolding piece_at
piece_takes [] = none_at_end
piece_takes (c ∷ cs) = by_escape (c == backslash && is_opening cs)
  where
    by_opening : (b : Bool) → IfOk (cond b (marker_or_fault (c ∷ cs) (marker_at (c ∷ cs))) (text_at (c ∷ cs))) (TakesOne (c ∷ cs))
    by_opening true = marker_takes c cs (marker_at (c ∷ cs)) (marker_leaves c cs)
    by_opening false = text_takes (c ∷ cs)

    by_escape : (b : Bool) → IfOk (piece_if_escaped (c ∷ cs) (cond b (Some cs) None)) (TakesOne (c ∷ cs))
    by_escape true = text_takes_after c cs
    by_escape false = by_opening (is_opening (c ∷ cs))

-- so a piece leaves less to read
pub pieces_shorten : Shortens piece_at
pieces_shorten [] rest p is = absurd (if_ok_at (TakesOne []) (piece_at []) (Some p, rest) is (piece_takes []))
pieces_shorten (c ∷ cs) rest p is = omega (arith, end_length cs rest (if_ok_at (TakesOne (c ∷ cs)) (piece_at (c ∷ cs)) (Some p, rest) is (piece_takes (c ∷ cs))))

-- and what it leaves is an end of the text
pub piece_leaves : (cs rest : List ℕ) (p : Piece) → piece_at cs ≡ Ok (Some p, rest) → Leaves cs rest
piece_leaves [] rest p is = absurd (if_ok_at (TakesOne []) (piece_at []) (Some p, rest) is (piece_takes []))
piece_leaves (c ∷ cs) rest p is =
    leaves_more (c ∷ cs) cs rest (leaves_past (c ∷ cs) c cs (leaves_all (c ∷ cs))) (if_ok_at (TakesOne (c ∷ cs)) (piece_at (c ∷ cs)) (Some p, rest) is (piece_takes (c ∷ cs)))

-- the fault of a step is the text that it was to read
abbrev pub FaultsAt : List ℕ → Step → Type 0
FaultsAt cs (Ok p) = Unit {0}
FaultsAt cs (Err fault) = cs ≡ fault

text_faults : (cs rest : List ℕ) → FaultsAt cs (text_at rest)
text_faults cs [] = tt
text_faults cs (c ∷ rest) = tt

marker_faults : (cs : List ℕ) (r : Result (List Cite × List ℕ) Unreadable) → FaultsAt cs (marker_or_fault cs r)
marker_faults cs (Ok p) = tt
marker_faults cs (Err e) = refl

piece_faults : (cs : List ℕ) → FaultsAt cs (piece_at cs)
unfolding piece_at
piece_faults cs = by_escape (escaped cs)
  where
    by_opening : (b : Bool) → FaultsAt cs (cond b (marker_or_fault cs (marker_at cs)) (text_at cs))
    by_opening true = marker_faults cs (marker_at cs)
    by_opening false = text_faults cs cs

    by_escape : (o : Option (List ℕ)) → FaultsAt cs (piece_if_escaped cs o)
    by_escape (Some opening) = text_faults cs opening
    by_escape None = by_opening (is_opening cs)

pub fault_leaves : (cs fault : List ℕ) → piece_at cs ≡ Err fault → Leaves cs fault
fault_leaves cs fault is =
    let h : FaultsAt cs (Err fault) = rw is at (piece_faults cs) in
    record { prefix = []; parts = h }
