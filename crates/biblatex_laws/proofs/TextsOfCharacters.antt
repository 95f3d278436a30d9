-- The bytes that spell characters are a text, in lower case too.
use Rattle.std.proofs.Common.{◌≡◌, ℕ, Bool, true, false, List, [], ◌∷◌, ◌++◌, map, refl, sym, ap, ◌∙◌, arith}
use Rattle.std.specs.Prelude.{encode_utf8, encode_utf8_all}
use Rattle.std.specs.Char.{is_ascii, to_ascii_lowercase}
use Rattle.std.specs.List.{list_all}
use Rattle.std.specs.Str.{chars, IsUtf8}
use Rattle.std.proofs.lemmas.Bool.{ltb-true}
use Rattle.std.proofs.lemmas.Bool.Decides.{nat_tests}
use Rattle.std.proofs.lemmas.List.{map-append}
use Rattle.std.proofs.lemmas.List.Sums.{AllPass-from_list_all}
use Rattle.std.proofs.lemmas.Str.{IsUtf8-from_ascii, scalars-chars}
use Rattle.std.proofs.lemmas.Str.Ascii.{IsAscii-from_all, encode_ascii, lowercase_ascii}
use lib.Utf8.{scalar, low_scalar}
use Rattle.laws.specs.Text.{lowered, text}
use Rattle.biblatex_reading_back.proofs.NamesBack.{high}
use Rattle.biblatex_laws.specs.Raw.{AreCharacters}
use Rattle.biblatex_laws.proofs.CharacterLists.{both_of, first_of, tail}

pub text_is_utf8 : (cs : List ℕ) → AreCharacters cs → IsUtf8 (text cs)
text_is_utf8 cs p = (cs, (p, refl))

-- a word of ASCII
pub ascii_is_utf8 : (word : List ℕ) → list_all is_ascii word ≡ true → IsUtf8 word
ascii_is_utf8 word small = let all = AllPass-from_list_all is_ascii word small in IsUtf8-from_ascii word (IsAscii-from_all word (λ k d l. ltb-true _ 128 (all k d l)))

pub ascii_characters : (word : List ℕ) → list_all is_ascii word ≡ true → AreCharacters (chars word)
ascii_characters word small = scalars-chars word (ascii_is_utf8 word small)

above : (c : ℕ) → is_ascii c ≡ false → to_ascii_lowercase c ≡ c
above c e = grind (arith, nat_tests, e)

lower_character : (c : ℕ) → scalar c ≡ true → scalar (to_ascii_lowercase c) ≡ true
lower_character c p = by (is_ascii c) refl
  where
    by : (b : Bool) → is_ascii c ≡ b → scalar (to_ascii_lowercase c) ≡ true
    by true small = let less = lowercase_ascii c (ltb-true c 128 small) in low_scalar (to_ascii_lowercase c) (omega (arith, less))
    by false large = ap scalar (above c large) ∙ p

lower_spelled : (c : ℕ) → encode_utf8 (to_ascii_lowercase c) ≡ map to_ascii_lowercase (encode_utf8 c)
lower_spelled c = by (is_ascii c) refl
  where
    by : (b : Bool) → is_ascii c ≡ b → encode_utf8 (to_ascii_lowercase c) ≡ map to_ascii_lowercase (encode_utf8 c)
    by true small = let less = ltb-true c 128 small in encode_ascii (to_ascii_lowercase c) (lowercase_ascii c less) ∙ sym (ap (map to_ascii_lowercase) (encode_ascii c less))
    by false large = ap encode_utf8 (above c large) ∙ sym (high c large)

all_lower : (cs : List ℕ) → AreCharacters cs → AreCharacters (map to_ascii_lowercase cs)
all_lower [] p = refl
all_lower (c ∷ cs) p = both_of (scalar (to_ascii_lowercase c)) _ (lower_character c (first_of (scalar c) _ p)) (all_lower cs (tail c cs p))

spelled_lower : (cs : List ℕ) → encode_utf8_all (map to_ascii_lowercase cs) ≡ lowered cs
spelled_lower [] = refl
spelled_lower (c ∷ cs) = (λ i. lower_spelled c i ++ spelled_lower cs i) ∙ sym (map-append to_ascii_lowercase (encode_utf8 c) (text cs))

pub lowered_is_utf8 : (cs : List ℕ) → AreCharacters cs → IsUtf8 (lowered cs)
lowered_is_utf8 cs p = (map to_ascii_lowercase cs, (all_lower cs p, spelled_lower cs))
