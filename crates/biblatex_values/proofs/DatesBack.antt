-- Dates that were written are read back.
use Rattle.std.proofs.Common.{◌≡◌, ℕ, List, Result, Ok, Err, IfOk, String, Global, string_bytes, ap, ◌∙◌}
use Rattle.std.proofs.lemmas.Str.{IsUtf8-string_bytes}
use Rattle.laws.specs.Text.{text, characters}
use Rattle.laws.proofs.Text.{chars-text}
use Rattle.biblatex_content.specs.declared.chunk.Kind.TheVariants.{Normal}
use Rattle.biblatex_dates.specs.Shape.{shape_of, date_of}
use Rattle.biblatex_dates.specs.Written.{date_text}
use Rattle.biblatex_dates.specs.declared.date.Date.{Date}
use Rattle.biblatex_dates.proofs.WrittenAgain.{date_again}
use Rattle.biblatex_dates.proofs.ShapeExists.{date_exists}
use Rattle.biblatex_values.specs.Dates.{reads_date, writes_date, IsDate}
use Rattle.biblatex_values.proofs.TextsPlain.{plain-letters}

pub date_back : (d : Date) → IsDate d → reads_date (writes_date d) ≡ Ok d
date_back d exists = ap (λ (cs : List ℕ). date_of (shape_of cs)) (plain-letters Normal (date_text d)) ∙ date_again d exists

-- a date that is read exists
pub read_date_exists : (cs : List ℕ) → IfOk (date_of (shape_of cs)) IsDate
read_date_exists cs = date_exists cs

-- a text that was spelled from characters has them
pub spelled : {E : Type 0} (r : Result (String Global) E) (cs : List ℕ) → IfOk r (λ s. string_bytes s ≡ text cs) → IfOk r (λ s. characters s ≡ cs)
spelled (Ok s) cs e = chars-text (string_bytes s) cs (IsUtf8-string_bytes s) e
spelled (Err f) cs e = tt
