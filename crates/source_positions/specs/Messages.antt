-- The message for a source that is refused.
use Rattle.std.specs.Prelude.{ℕ, List, [], ◌∷◌, ◌++◌, codes}
use Rattle.std.specs.Fmt.{decimal}
use Rattle.laws.specs.Characters.{line_feed, colon}
use Rattle.source_positions.specs.Position.{line_at, mark_at, line_number, column_number}

-- FILE:LINE:COLUMN: and why, then the line, then the mark below the position
abbrev pub refusal_lines : List ℕ → List ℕ → ℕ → List ℕ → List ℕ
refusal_lines path source at why =
    path ++ (colon ∷ (decimal (line_number source at) ++ (colon ∷ (decimal (column_number source at) ++ (codes ": " ++ (why ++ (line_feed ∷ (line_at source at ++ (line_feed ∷ (mark_at source at ++ line_feed ∷ []))))))))))
