-- Reading a whole text: offsets are counted in the bytes that spell it.
use Rattle.std.proofs.Common.{◌≡◌, ℕ, List, length, Result, Ok, Err, ap, ◌∙◌}
use Rattle.std.specs.Str.{chars, IsUtf8}
use Rattle.laws.proofs.Text.{text_of_chars}
use Rattle.biblatex_text.specs.Raw.{Raw}
use Rattle.biblatex_text.specs.Reading.{Refusal, offset}
use Rattle.biblatex_text.specs.Items.{raw_at, at_offset, raw_of}
use Rattle.biblatex_text.specs.declared.token.Fault.{Fault}

whole : (source : List ℕ) (read : Result Raw Refusal) → IsUtf8 source → raw_at (length source) (chars source) ≡ read → raw_of (chars source) ≡ at_offset (length source) read
whole source read utf8 is = ap (λ (n : ℕ). at_offset n (raw_at n (chars source))) (ap length (text_of_chars source utf8)) ∙ ap (at_offset (length source)) is

pub whole_ok : (source : List ℕ) (r : Raw) → IsUtf8 source → raw_at (length source) (chars source) ≡ Ok r → raw_of (chars source) ≡ Ok r
whole_ok source r utf8 is = whole source (Ok r) utf8 is

pub whole_err : (source rest : List ℕ) (f : Fault) → IsUtf8 source → raw_at (length source) (chars source) ≡ Err (f, rest) → raw_of (chars source) ≡ Err (f, offset (length source) rest)
whole_err source rest f utf8 is = whole source (Err (f, rest)) utf8 is
