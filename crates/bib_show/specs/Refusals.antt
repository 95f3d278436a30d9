-- Which sources are refused, and the message for each.
use Rattle.std.specs.Prelude.{◌≡◌, ℕ, true, false, List, codes, ◌⊎◌, Err}
use Rattle.std.specs.Str.{chars, is_utf8}
use Rattle.std.specs.Str.Lossy.{utf8_valid_len}
use Rattle.biblatex.specs.Errors.{reason_text}
use Rattle.biblatex.specs.Reading.{Refusal}
use Rattle.biblatex.specs.Resolved.{TextMeans}
use Rattle.source_positions.specs.Messages.{refusal_lines}

-- bytes that are no text, at the first one that is not of a character
abbrev pub IsNoText : List ℕ → List ℕ → List ℕ → Type 0
IsNoText path source message = (is_utf8 source ≡ false) × (message ≡ refusal_lines path source (utf8_valid_len source) (codes "not UTF-8"))

-- a text that means no entries, at the start of what is refused
pub record IsTextFault (path source message : List ℕ) : Type 0 where
  pub refusal : Refusal
  pub is_text : is_utf8 source ≡ true
  pub means : TextMeans (chars source) (Err refusal)
  pub lines : message ≡ refusal_lines path source refusal.start (reason_text refusal.reason)

abbrev pub IsSourceFault : List ℕ → List ℕ → List ℕ → Type 0
IsSourceFault path source message = IsNoText path source message ⊎ IsTextFault path source message
