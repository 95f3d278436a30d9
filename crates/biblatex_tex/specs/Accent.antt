-- Accents: a mark and the first character of what it stands on, composed.
use Rattle.std.specs.Prelude.{ℕ, ◌==◌, List, [], ◌∷◌, ◌++◌, if◌then◌else◌}
use Rattle.laws.specs.Characters.{lower_i, lower_j, dotless_i, dotless_j}
use Rattle.unicode_normalization.specs.Forms.{nfc}

-- a dotless i or j takes a mark as i or j
abbrev pub dotted : ℕ → ℕ
dotted c = if c == dotless_i then lower_i else (if c == dotless_j then lower_j else c)

-- the first character with a mark, and the rest; nothing takes no mark
abbrev pub with_mark : ℕ → List ℕ → List ℕ
with_mark mark [] = []
with_mark mark (c ∷ cs) = nfc (dotted c ∷ mark ∷ []) ++ cs

-- the same with several marks, of which the last is put on first
abbrev pub marked : List ℕ → List ℕ → List ℕ
marked [] cs = cs
marked (mark ∷ marks) cs = with_mark mark (marked marks cs)
