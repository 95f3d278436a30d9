-- Texts without a line feed.
use Rattle.std.proofs.Common.{◌≡◌, ℕ, suc, zero, ◌+◌, ◌/◌, ◌%◌, ◌<◌, ◌||◌, Bool, true, false, true≢false, cond, eqb, ltb, List, [], ◌∷◌, ◌++◌, decimal, refl, sym, ap, ◌∙◌, arith, ne_eqb}
use Rattle.std.specs.Prelude.{encode_utf8}
use Rattle.std.specs.Char.{is_newline}
use Rattle.std.specs.List.{list_any}
use Rattle.std.specs.Fmt.{digit_glyph, digits_onto, digits}
use Rattle.std.proofs.lemmas.List.Folds.{list_any-append}
use Rattle.laws.specs.Characters.{line_feed}
use Rattle.laws.specs.Runs.{AllPassTest}
use Rattle.laws.specs.Text.{text}
use Rattle.biblatex.specs.Lines.{HasNoLineFeed}

neither : (a b : Bool) → a ≡ false → b ≡ false → a || b ≡ false
neither true b e f = e
neither false b e f = f

of_neither : (a b : Bool) → a || b ≡ false → (a ≡ false) × (b ≡ false)
of_neither true b e = absurd (true≢false e)
of_neither false b e = (refl, e)

-- two texts without a line feed, one after the other, have none
pub append : (a b : List ℕ) → HasNoLineFeed a → HasNoLineFeed b → HasNoLineFeed (a ++ b)
append a b p q = list_any-append is_newline a b ∙ neither (list_any is_newline a) (list_any is_newline b) p q

-- a class of characters without the line feed
other : (test : ℕ → Bool) (c : ℕ) → test line_feed ≡ false → test c ≡ true → is_newline c ≡ false
other test c bars passes = ne_eqb c line_feed (λ e. true≢false (sym passes ∙ (ap test e ∙ bars)))

pub passing : (test : ℕ → Bool) (cs : List ℕ) → test line_feed ≡ false → AllPassTest test cs → HasNoLineFeed cs
passing test [] bars all = refl
passing test (c ∷ cs) bars all = neither (is_newline c) (list_any is_newline cs) (other test c bars all.0) (passing test cs bars all.1)

-- a byte above the line feed is none
above : (k x : ℕ) → line_feed < k → eqb (k + x) line_feed ≡ false
above k x h = ne_eqb (k + x) line_feed (λ e. omega arith)

before : (b : ℕ) (bs : List ℕ) → is_newline b ≡ false → HasNoLineFeed bs → HasNoLineFeed (b ∷ bs)
before b bs p q = neither (is_newline b) (list_any is_newline bs) p q

-- the bytes of a character that is no line feed have none
encoded : (c : ℕ) → is_newline c ≡ false → HasNoLineFeed (encode_utf8 c)
unfolding lib.Utf8.encode
encoded c is = by_size (ltb c 128) (ltb c 2048) (ltb c 65536)
  where
    follows : (x : ℕ) (bs : List ℕ) → HasNoLineFeed bs → HasNoLineFeed ((128 + x % 64) ∷ bs)
    follows x bs q = before (128 + x % 64) bs (above 128 (x % 64) (omega arith)) q

    by_size : (one two three : Bool)
        → HasNoLineFeed (cond one (c ∷ []) (cond two ((192 + c / 64) ∷ (128 + c % 64) ∷ []) (cond three ((224 + c / 4096) ∷ (128 + (c / 64) % 64) ∷ (128 + c % 64) ∷ []) ((240 + c / 262144) ∷ (128 + (c / 4096) % 64) ∷ (128 + (c / 64) % 64) ∷ (128 + c % 64) ∷ []))))
    by_size true two three = before c [] is refl
    by_size false true three = before (192 + c / 64) ((128 + c % 64) ∷ []) (above 192 (c / 64) (omega arith)) (follows c [] refl)
    by_size false false true = before (224 + c / 4096) ((128 + (c / 64) % 64) ∷ (128 + c % 64) ∷ []) (above 224 (c / 4096) (omega arith)) (follows (c / 64) ((128 + c % 64) ∷ []) (follows c [] refl))
    by_size false false false = before (240 + c / 262144) ((128 + (c / 4096) % 64) ∷ (128 + (c / 64) % 64) ∷ (128 + c % 64) ∷ []) (above 240 (c / 262144) (omega arith)) (follows (c / 4096) ((128 + (c / 64) % 64) ∷ (128 + c % 64) ∷ []) (follows (c / 64) ((128 + c % 64) ∷ []) (follows c [] refl)))

-- the bytes of characters that are no line feeds have none
pub spelled : (cs : List ℕ) → HasNoLineFeed cs → HasNoLineFeed (text cs)
spelled [] is = refl
spelled (c ∷ cs) is =
    let parts : (is_newline c ≡ false) × HasNoLineFeed cs = of_neither (is_newline c) (list_any is_newline cs) is in
    append (encode_utf8 c) (text cs) (encoded c parts.0) (spelled cs parts.1)

-- a digit is no line feed
glyph : (upper : Bool) (d : ℕ) → is_newline (digit_glyph upper d) ≡ false
glyph upper d = by_test (ltb d 10) upper
  where
    by_test : (low up : Bool) → is_newline (cond low (48 + d) (cond up (55 + d) (87 + d))) ≡ false
    by_test true up = above 48 d (omega arith)
    by_test false true = above 55 d (omega arith)
    by_test false false = above 87 d (omega arith)

onto : (k base : ℕ) (upper : Bool) (n : ℕ) (more : List ℕ) → HasNoLineFeed more → HasNoLineFeed (digits_onto k base upper n more)
onto zero base upper n more is = is
onto (suc k) base upper n more is = by_test (onto k base upper (n / base) (digit_glyph upper (n % base) ∷ more) longer) (eqb (n / base) 0)
  where
    longer : HasNoLineFeed (digit_glyph upper (n % base) ∷ more)
    longer = before (digit_glyph upper (n % base)) more (glyph upper (n % base)) is

    by_test : HasNoLineFeed (digits_onto k base upper (n / base) (digit_glyph upper (n % base) ∷ more)) → (b : Bool)
        → HasNoLineFeed (cond b (digit_glyph upper (n % base) ∷ more) (digits_onto k base upper (n / base) (digit_glyph upper (n % base) ∷ more)))
    by_test further true = longer
    by_test further false = further

pub of_number : (n : ℕ) → HasNoLineFeed (decimal n)
unfolding digits
of_number n = onto 64 10 false n [] refl
