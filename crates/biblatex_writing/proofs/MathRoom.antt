-- Room for the depth of braces in a text.
use Rattle.std.proofs.Common.{◌≡◌, ℕ, ◌+◌, ◌≤◌, List, ◌++◌, length, length-append, ap, arith}
use Rattle.std.specs.Prelude.{encode_utf8}
use Rattle.std.proofs.lemmas.Str.{length-encode, len_utf8_bounds}

-- what follows a character is shorter
pub shorter : (rest more : List ℕ) (c : ℕ) → rest ≡ encode_utf8 c ++ more → length more + 1 ≤ length rest
shorter rest more c e =
    let all : length rest ≡ length (encode_utf8 c ++ more) = ap length e in
    omega (arith, all, length-append (encode_utf8 c) more, length-encode c, len_utf8_bounds c)
