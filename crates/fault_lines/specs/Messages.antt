-- What is said of a fault of a source.
use Rattle.std.specs.Prelude.{ℕ, List, [], ◌∷◌, ◌++◌, codes}
use Rattle.std.specs.Fmt.{decimal}
use Rattle.laws.specs.Characters.{line_feed, colon}
use Rattle.source_positions.specs.Position.{line_number}
use Rattle.fault_lines.specs.Places.{column_number}
use Rattle.fault_lines.specs.Windows.{window_at, mark_at}

-- a line: PATH:LINE:COLUMN: and why
abbrev pub fault_line : List ℕ → List ℕ → ℕ → List ℕ → List ℕ
fault_line path source at why =
    path ++ (colon ∷ (decimal (line_number source at) ++ (colon ∷ (decimal (column_number source at) ++ (codes ": " ++ (why ++ line_feed ∷ []))))))

-- three lines: that one, what is shown of the line of the source, and the mark below the position
abbrev pub fault_lines : List ℕ → List ℕ → ℕ → List ℕ → List ℕ
fault_lines path source at why = fault_line path source at why ++ (window_at source at ++ (line_feed ∷ (mark_at source at ++ line_feed ∷ [])))
