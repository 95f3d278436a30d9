-- Marks that are put on one after the other.
use Rattle.std.proofs.Common.{◌≡◌, ℕ, List, [], ◌∷◌, ◌++◌, refl, ap}
use Rattle.biblatex_tex.specs.Accent.{with_mark, marked}

-- the last mark is put on first
pub marked-last : (marks : List ℕ) (mark : ℕ) (cs : List ℕ) → marked (marks ++ mark ∷ []) cs ≡ marked marks (with_mark mark cs)
marked-last [] mark cs = refl
marked-last (m ∷ marks) mark cs = ap (with_mark m) (marked-last marks mark cs)
