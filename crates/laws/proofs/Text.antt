-- Texts and their characters.
use Rattle.std.proofs.Common.{◌≡◌, ℕ, true, List, ◌∷◌, ◌++◌, ap, subst, ◌∙◌}
use Rattle.std.specs.Prelude.{encode_utf8}
use Rattle.std.specs.Str.{chars, IsUtf8, all_scalars}
use Rattle.std.proofs.lemmas.Str.{encodes-append, encodes_same, encodes-chars, chars-encodes, chars_past_char, IsUtf8-past_char}
use Rattle.laws.specs.Text.{text}

-- the characters of a text are those that it was spelled from
pub chars-text : (bs cs : List ℕ) → IsUtf8 bs → bs ≡ text cs → chars bs ≡ cs
chars-text bs cs u e =
    let same : u.0 ≡ cs = encodes_same u.0 cs (u.1.1 ∙ e) in
    let fine : all_scalars cs ≡ true = subst (λ (x : List ℕ). all_scalars x ≡ true) same u.1.0 in
    ap chars e ∙ chars-encodes cs fine

-- a text is spelled from its characters
pub text_of_chars : (bs : List ℕ) → IsUtf8 bs → text (chars bs) ≡ bs
text_of_chars bs u = encodes-chars bs u

pub text-append : (cs ds : List ℕ) → text (cs ++ ds) ≡ text cs ++ text ds
text-append cs ds = encodes-append cs ds

-- what is known of the rest of a text after one more of its characters was read
pub record Next (rest more : List ℕ) (c : ℕ) : Type 0 where
  pub chars_are : chars rest ≡ c ∷ chars more
  pub utf8 : IsUtf8 more

pub next_char : (rest more : List ℕ) (c : ℕ) → IsUtf8 rest → rest ≡ encode_utf8 c ++ more → Next rest more c
next_char rest more c u e = record { chars_are = chars_past_char rest more c u e; utf8 = IsUtf8-past_char rest more c u e }
