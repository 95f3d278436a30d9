-- Texts of which characters are taken off, at the start or at the end.
use Rattle.std.proofs.Common.{◌≡◌, ◌<◌, ◌≤◌, ℕ, true, true≢false, List, [], ◌∷◌, ◌++◌, length, take, sym, ap, subst, ◌∙◌, arith, Option, Some, None}
use Rattle.std.specs.Prelude.{encode_utf8, IfSome, IfNone, MatchOption}
use Rattle.std.specs.Str.{chars, IsUtf8, IsCharBoundary}
use Rattle.std.proofs.lemmas.Str.{chars-nil, chars_past_char, IsCharBoundary-from_take}
use Rattle.laws.specs.Text.{is_filled}
use Rattle.rendering_page.proofs.ViewsTexts.{last_character}

-- a text without bytes has no character
pub nothing_spelled : (bs : List ℕ) → length bs ≡ 0 → chars bs ≡ []
nothing_spelled [] e = chars-nil
nothing_spelled (b ∷ bs) e = absurd (let never : ⊥ = omega (arith, e) in never)

-- a text with a character has a byte
pub some_byte : (bs : List ℕ) → is_filled (chars bs) ≡ true → 0 < length bs
some_byte [] e = absurd (true≢false (sym e ∙ ap is_filled chars-nil))
some_byte (b ∷ bs) e = omega arith

-- the last character is taken off
pub popped : (bs leading : List ℕ) (r : Option ℕ) → IsUtf8 bs → IsUtf8 leading
    → IfSome r (λ c. bs ≡ leading ++ encode_utf8 c) → IfNone r (length bs ≡ 0) → length leading ≤ length bs
    → MatchOption r ((chars bs ≡ []) × (chars leading ≡ [])) (λ c. chars bs ≡ chars leading ++ c ∷ [])
popped bs leading None u v some none low = (nothing_spelled bs none, nothing_spelled leading (omega (arith, none, low)))
popped bs leading (Some c) u v some none low = last_character bs leading c u v some

-- the first character is taken off
pub first_taken : (bs rest : List ℕ) (d c : ℕ) (cs : List ℕ) → IsUtf8 bs → bs ≡ encode_utf8 d ++ rest → chars bs ≡ c ∷ cs → chars rest ≡ cs
first_taken bs rest d c cs u e f = let g : d ∷ chars rest ≡ c ∷ cs = sym (chars_past_char bs rest d u e) ∙ f in cc

-- a text within a text ends where that may be cut
pub ends_within : (bs leading : List ℕ) → IsUtf8 bs → IsUtf8 leading → leading ≡ take (length leading) bs → length leading ≤ length bs → IsCharBoundary bs (length leading)
ends_within bs leading u v e low = IsCharBoundary-from_take bs (length leading) u low (subst IsUtf8 e v)
