-- Characters that are shown as they are.
use Rattle.std.proofs.Common.{◌≡◌, ℕ, Bool, true, false, not, List, [], ◌∷◌, ◌++◌, length, ◌<◌, refl, sym, ap, subst, ◌∙◌, append_assoc, arith}
use Rattle.std.specs.Str.{chars, IsUtf8}
use Rattle.std.specs.Char.Escape.{escape_unicode}
use Rattle.std.proofs.lemmas.Grind.{flat_map-append}
use Rattle.laws.specs.Runs.{prefix_of, after, AllPassTest, Bars}
use Rattle.laws.specs.Text.{text}
use Rattle.laws.proofs.Runs.{prefix-after, all-prefix, bars-after, length-after}
use Rattle.laws.proofs.Text.{text_of_chars}
use Rattle.bib_show.specs.Shown.{is_marked, is_plain, shown_character, shown_characters}

-- plain characters are shown as the text that they spell
shown-plain : (cs : List ℕ) → AllPassTest is_plain cs → shown_characters cs ≡ text cs
shown-plain [] all = refl
shown-plain (c ∷ cs) all = by_mark (shown-plain cs all.1) (is_marked c) refl all.0
  where
    by_mark : shown_characters cs ≡ text cs → (b : Bool) → is_marked c ≡ b → not b ≡ true → shown_characters (c ∷ cs) ≡ text (c ∷ cs)
    by_mark more true e plain = absurd cc
    by_mark more false e plain = rw (e, more) refl

-- what was shown, a plain prefix, and what follows it
pub put_plain : (old new whole prefix back : List ℕ) → IsUtf8 prefix → chars prefix ≡ prefix_of is_plain (chars whole) → chars back ≡ after is_plain (chars whole) → new ≡ old ++ prefix
    → new ++ shown_characters (chars back) ≡ old ++ shown_characters (chars whole)
put_plain old new whole prefix back u f b e =
    let cs = chars whole in
    let plain : shown_characters (prefix_of is_plain cs) ≡ prefix = shown-plain (prefix_of is_plain cs) (all-prefix is_plain cs) ∙ (sym (ap text f) ∙ text_of_chars prefix u) in
    let parts : shown_characters cs ≡ shown_characters (prefix_of is_plain cs) ++ shown_characters (after is_plain cs) =
    ap shown_characters (prefix-after is_plain cs) ∙ flat_map-append shown_character (prefix_of is_plain cs) (after is_plain cs) in
    (λ i. e i ++ shown_characters (b i))
    ∙ (append_assoc old prefix (shown_characters (after is_plain cs))
    ∙ ap (λ (x : List ℕ). old ++ x) (ap (λ (x : List ℕ). x ++ shown_characters (after is_plain cs)) (sym plain) ∙ sym parts))

-- what follows a plain prefix begins with a marked character, if with any
pub barred : (whole back : List ℕ) → chars back ≡ after is_plain (chars whole) → Bars is_plain (chars back)
barred whole back b = rw b (bars-after is_plain (chars whole))

marked : (b : Bool) → not b ≡ false → b ≡ true
marked true e = refl
marked false e = absurd cc

-- what was shown, and the number of a marked character
pub put_marked : (old new rest more : List ℕ) (c : ℕ) → Bars is_plain (chars rest) → chars rest ≡ c ∷ chars more → new ≡ old ++ text (escape_unicode c)
    → new ++ shown_characters (chars more) ≡ old ++ shown_characters (chars rest)
put_marked old new rest more c bars next e =
    let is_one : is_marked c ≡ true = marked (is_marked c) (subst (Bars is_plain) next bars) in
    let shows : shown_character c ≡ text (escape_unicode c) = rw is_one refl in
    ap (λ (x : List ℕ). x ++ shown_characters (chars more)) e
    ∙ (append_assoc old (text (escape_unicode c)) (shown_characters (chars more))
    ∙ ap (λ (x : List ℕ). old ++ x) (ap (λ (x : List ℕ). x ++ shown_characters (chars more)) (sym shows) ∙ sym (ap shown_characters next)))

-- what follows the next plain prefix is shorter
pub shorter : (rest more next : List ℕ) (c : ℕ) → chars rest ≡ c ∷ chars more → chars next ≡ after is_plain (chars more) → length (chars next) < length (chars rest)
shorter rest more next c e f =
    let n = length-after is_plain (chars more) in
    rw (e, f) (omega arith)
