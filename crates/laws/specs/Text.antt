-- Characters and the texts that they spell. Characters are numbers, texts are bytes.
use Rattle.std.specs.Global.{Global}
use Rattle.std.specs.Prelude.{ℕ, Bool, true, false, List, [], ◌∷◌, map, Option, Some, None, encode_utf8_all, String, string_bytes}
use Rattle.std.specs.Borrow.{Bor}
use Rattle.std.specs.Str.{chars}
use Rattle.std.specs.Char.{to_ascii_lowercase}

-- the bytes that spell the characters
abbrev pub text : List ℕ → List ℕ
text cs = encode_utf8_all cs

-- the same in lower case, where only the ASCII letters have one
abbrev pub lowered : List ℕ → List ℕ
lowered cs = map to_ascii_lowercase (text cs)

-- the characters of a text
abbrev pub characters : String Global → List ℕ
characters s = chars (string_bytes s)

-- the characters of a borrowed text
abbrev pub spelled : Bor (List ℕ) → List ℕ
spelled s = chars s.now

-- whether there is something in a list, as a character in a text
abbrev pub is_filled : {A : Type 0} → List A → Bool
is_filled [] = false
is_filled (x ∷ xs) = true

-- a list, where there is something in it
abbrev pub if_filled : {A : Type 0} → List A → Option (List A)
if_filled [] = None
if_filled (x ∷ xs) = Some (x ∷ xs)
