-- Texts without their first or their last character.
use Rattle.std.proofs.Common.{◌≡◌, ◌≤◌, ℕ, List, [], ◌∷◌, ◌++◌, length, take, drop, append-nil, refl, sym, ap, subst, ◌∙◌, arith}
use Rattle.std.specs.Prelude.{encode_utf8}
use Rattle.std.specs.Str.{chars, IsUtf8}
use Rattle.std.proofs.lemmas.List.{length-append, take_at, drop_at}
use Rattle.std.proofs.lemmas.Str.{chars-nil, chars-append, chars_past_char, IsCharBoundary-from_take, IsUtf8-drop}

-- what follows a text within a text is a text
pub text_after : (bs leading back : List ℕ) → IsUtf8 bs → IsUtf8 leading → bs ≡ leading ++ back → IsUtf8 back
text_after bs leading back u v e =
    let n = length leading in
    let low : n ≤ length bs = omega (arith, length-append leading back, ap length e) in
    let cut = IsCharBoundary-from_take bs n u low (subst IsUtf8 (sym (ap (take n) e ∙ take_at leading back n refl)) v) in
    subst IsUtf8 (ap (drop n) e ∙ drop_at leading back n refl) (IsUtf8-drop bs n u cut)

one_character : (c : ℕ) → IsUtf8 (encode_utf8 c) → chars (encode_utf8 c) ≡ c ∷ []
one_character c u = chars_past_char (encode_utf8 c) [] c u (sym (append-nil (encode_utf8 c))) ∙ ap (λ cs. c ∷ cs) chars-nil

-- the last character
pub last_character : (bs leading : List ℕ) (c : ℕ) → IsUtf8 bs → IsUtf8 leading → bs ≡ leading ++ encode_utf8 c → chars bs ≡ chars leading ++ c ∷ []
last_character bs leading c u v e =
    ap chars e ∙ chars-append leading (encode_utf8 c) v ∙ ap (λ cs. chars leading ++ cs) (one_character c (text_after bs leading (encode_utf8 c) u v e))
