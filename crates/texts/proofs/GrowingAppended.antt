-- Characters appended to those of a text.
use Rattle.std.proofs.Common.{◌≡◌, ℕ, List, [], ◌∷◌, ◌++◌, refl, sym, ◌∙◌}
use Rattle.std.specs.Prelude.{encode_utf8, OnOk, Result, Ok, Err, is_ok, if◌then◌else◌}
use Rattle.std.specs.Char.{IsScalar}
use Rattle.std.specs.Str.{chars, IsUtf8}
use Rattle.std.proofs.lemmas.Str.{chars_past_char, chars-append, chars-nil, IsUtf8-encode}
use Rattle.std.proofs.lemmas.List.{append-nil}

pub chars-one : (c : ℕ) → IsScalar c → chars (encode_utf8 c) ≡ c ∷ []
chars-one c scalar = chars_past_char (encode_utf8 c) [] c (IsUtf8-encode c scalar) (sym (append-nil (encode_utf8 c))) ∙ rw chars-nil refl

-- a text after another, if there was memory for it
pub chars-put : {A E : Type 0} (r : Result A E) (old more new : List ℕ) → IsUtf8 old → new ≡ (if is_ok r then old ++ more else old) → OnOk r (chars new ≡ chars old ++ chars more)
chars-put (Ok x) old more new utf8 e = rw e (chars-append old more utf8)
chars-put (Err x) old more new utf8 e = tt

-- a text with a character after it has that character after its own
pub chars-put_one : {A E : Type 0} (r : Result A E) (old new : List ℕ) (c : ℕ) → IsUtf8 old → IsScalar c → new ≡ (if is_ok r then old ++ encode_utf8 c else old) → OnOk r (chars new ≡ chars old ++ c ∷ [])
chars-put_one (Ok x) old new c utf8 scalar e = rw e (chars-append old (encode_utf8 c) utf8 ∙ rw (chars-one c scalar) refl)
chars-put_one (Err x) old new c utf8 scalar e = tt
