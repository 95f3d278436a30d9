-- What is said of a fault past the end of a source: what is said of one at its end.
use Rattle.std.proofs.Common.{◌≡◌, ◌+◌, ◌==◌, not, ℕ, List, [], ◌∷◌, ◌++◌, length, map, take, min, ap, ap₂, ◌∙◌, codes}
use Rattle.std.specs.Fmt.{decimal}
use Rattle.std.specs.Str.Lines.{strip_carriage_return}
use Rattle.std.proofs.lemmas.List.{drop_min, take_min}
use Rattle.laws.specs.Characters.{circumflex, colon, line_feed}
use Rattle.laws.specs.Runs.{prefix_of}
use Rattle.laws.specs.Text.{text}
use Rattle.source_positions.specs.Position.{Position, blank, line_characters, position_from}
use Rattle.fault_lines.specs.Messages.{fault_line, fault_lines}
use Rattle.fault_lines.specs.Places.{characters_begun}
use Rattle.fault_lines.specs.Windows.{last_bytes, mark_at, reach, shown_after, shown_before, window_at}

abbrev come_to : List ℕ → Position
come_to bs = position_from (record { ended = 0; read = [] }) bs

pub line_there : (path source why : List ℕ) (at there : ℕ) → there ≡ min at (length source) → fault_line path source there why ≡ fault_line path source at why
line_there path source why at there is =
    ap (λ (n : ℕ). fault_line path source n why) is
    ∙ ap (λ (bs : List ℕ). path ++ (colon ∷ (decimal ((come_to bs).ended + 1) ++ (colon ∷ (decimal (characters_begun (come_to bs).read + 1) ++ (codes ": " ++ (why ++ line_feed ∷ []))))))) (take_min at source)

-- what is shown where these bytes come before the place, and these after it
abbrev before_of : List ℕ → List ℕ
before_of bs = shown_before (line_characters (last_bytes (come_to bs).read))

abbrev after_of : List ℕ → List ℕ
after_of bs = shown_after (line_characters (take reach (strip_carriage_return (prefix_of (λ b. not (b == line_feed)) bs))))

abbrev shown_of : List ℕ → List ℕ → List ℕ
shown_of bs cs = text (before_of bs ++ after_of cs) ++ (line_feed ∷ ((map blank (before_of bs) ++ circumflex ∷ []) ++ line_feed ∷ []))

abbrev pub shown_lines : List ℕ → ℕ → List ℕ
shown_lines source at = window_at source at ++ (line_feed ∷ (mark_at source at ++ line_feed ∷ []))

shown_there : (source : List ℕ) (at there : ℕ) → there ≡ min at (length source) → shown_lines source there ≡ shown_lines source at
shown_there source at there is = ap (shown_lines source) is ∙ ap₂ shown_of (take_min at source) (drop_min at source)

pub lines_there : (path source why : List ℕ) (at there : ℕ) → there ≡ min at (length source) → fault_lines path source there why ≡ fault_lines path source at why
lines_there path source why at there is = ap₂ (λ (l s : List ℕ). l ++ s) (line_there path source why at there is) (shown_there source at there is)
