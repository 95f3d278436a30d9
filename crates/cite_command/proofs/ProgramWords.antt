-- What words ask for, where there are four at least.
use Rattle.std.proofs.Common.{◌≡◌, ◌≤◌, ℕ, List, [], ◌∷◌, length, slice_index_or, Some, None, Err, refl, arith}
use Rattle.std.specs.Borrow.{Bor}
use Rattle.rendering_style.specs.Styles.{Style}
use Rattle.cite_command.specs.Program.{format_named, format_text, job_of, style_named}

-- an unknown format
pub no_format : (words : List (Bor (List ℕ))) (e : Bor (List ℕ)) (s : Style) → 4 ≤ length words → style_named (slice_index_or words 0 e).now ≡ Some s → format_named (slice_index_or words 1 e).now ≡ None
    → job_of words ≡ Err (format_text (slice_index_or words 1 e).now)
no_format [] e s long style format = absurd (omega arith)
no_format (a ∷ []) e s long style format = absurd (omega arith)
no_format (a ∷ b ∷ []) e s long style format = absurd (omega arith)
no_format (a ∷ b ∷ c ∷ []) e s long style format = absurd (omega arith)
no_format (a ∷ b ∷ c ∷ d ∷ words) e s long style format = rw (style, format) refl
