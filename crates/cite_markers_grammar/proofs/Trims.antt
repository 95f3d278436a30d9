-- A text is what is left when white space is taken off its ends exactly where no white space stands there.
use Rattle.std.proofs.Common.{◌≡◌, ℕ, zero, suc, ◌+◌, ◌-◌, ◌*◌, ◌/◌, ◌%◌, ◌<◌, ◌≤◌, Bool, true, false, cond, ◌&&◌, ◌==◌, eqb, ltb, List, [], ◌∷◌, ◌++◌, length, refl, sym, ap, ◌∙◌, arith, rules, ltb-true}
use Rattle.std.specs.Prelude.{encode_utf8}
use Rattle.std.specs.Char.{is_whitespace}
use Rattle.std.specs.Str.{chars, chars_after, continuation_len, lead_bits, bytes_eq, trim, trim_start, trim_end, skip_leading_whitespace, drop_trailing_whitespace}
use Rattle.std.proofs.lemmas.Bool.{and_parts}
use Rattle.std.proofs.lemmas.List.{length-append}
use Rattle.std.proofs.lemmas.Slice.Eq.{bytes_eq-Decides}
use Rattle.std.proofs.lemmas.Str.{chars-nil, encodes_same}
use Rattle.laws.specs.Runs.{Bars}
use Rattle.laws.specs.Text.{is_filled, text as text_of}
use Rattle.cite_markers.specs.Marker.{is_value}
use Rattle.cite_markers_grammar.specs.Characters.{IsTight}

-- the bytes of a character are read back as the character, whatever number it is
whole : (c : ℕ) (bs : List ℕ) → chars_after zero c bs ≡ c ∷ chars bs
unfolding chars
whole c [] = refl
whole c (b ∷ bs) = refl

led : (a n v : ℕ) (bs : List ℕ) → n ≡ continuation_len a → v ≡ lead_bits a → chars (a ∷ bs) ≡ chars_after n v bs
unfolding chars
led a n v bs p q = λ i. chars_after (sym p i) (sym q i) bs

one_byte : (c : ℕ) (rest : List ℕ) → c < 128 → chars (c ∷ rest) ≡ c ∷ chars rest
one_byte c rest low = led c zero c rest (grind arith) (grind arith) ∙ whole c rest

two_bytes : (a b c : ℕ) (rest : List ℕ) → 192 ≤ a → a < 224 → (a - 192) * 64 + (b - 128) ≡ c → chars (a ∷ b ∷ rest) ≡ c ∷ chars rest
two_bytes a b c rest low high is =
    led a (suc zero) (a - 192) (b ∷ rest) (grind arith) (grind arith)
    ∙ whole _ rest ∙ ap (λ x. x ∷ chars rest) is

three_bytes : (a b d c : ℕ) (rest : List ℕ) → 224 ≤ a → a < 240 → ((a - 224) * 64 + (b - 128)) * 64 + (d - 128) ≡ c → chars (a ∷ b ∷ d ∷ rest) ≡ c ∷ chars rest
three_bytes a b d c rest low high is =
    led a (suc (suc zero)) (a - 224) (b ∷ d ∷ rest) (grind arith) (grind arith)
    ∙ whole _ rest ∙ ap (λ x. x ∷ chars rest) is

four_bytes : (a b d x c : ℕ) (rest : List ℕ) → 240 ≤ a → (((a - 240) * 64 + (b - 128)) * 64 + (d - 128)) * 64 + (x - 128) ≡ c → chars (a ∷ b ∷ d ∷ x ∷ rest) ≡ c ∷ chars rest
four_bytes a b d x c rest low is =
    led a (suc (suc (suc zero))) (a - 240) (b ∷ d ∷ x ∷ rest) (grind arith) (grind arith)
    ∙ whole _ rest ∙ ap (λ y. y ∷ chars rest) is

read_back : (c : ℕ) (rest : List ℕ) → chars (encode_utf8 c ++ rest) ≡ c ∷ chars rest
unfolding lib.Utf8.encode
read_back c rest = by_size (ltb c 128) (ltb c 2048) (ltb c 65536) refl refl refl
  where
    by_size : (one two three : Bool) → ltb c 128 ≡ one → ltb c 2048 ≡ two → ltb c 65536 ≡ three
        → chars (cond one (c ∷ []) (cond two ((192 + c / 64) ∷ (128 + c % 64) ∷ []) (cond three ((224 + c / 4096) ∷ (128 + (c / 64) % 64) ∷ (128 + c % 64) ∷ []) ((240 + c / 262144) ∷ (128 + (c / 4096) % 64) ∷ (128 + (c / 64) % 64) ∷ (128 + c % 64) ∷ []))) ++ rest) ≡ c ∷ chars rest
    by_size true two three e f g = one_byte c rest (ltb-true c 128 e)
    by_size false true three e f g =
        let high : c < 2048 = ltb-true c 2048 f in
        two_bytes (192 + c / 64) (128 + c % 64) c rest (omega arith) (omega arith) (omega arith)
    by_size false false true e f g =
        let high : c < 65536 = ltb-true c 65536 g in
        three_bytes (224 + c / 4096) (128 + (c / 64) % 64) (128 + c % 64) c rest (omega arith) (omega arith) (omega arith)
    by_size false false false e f g = four_bytes (240 + c / 262144) (128 + (c / 4096) % 64) (128 + (c / 64) % 64) (128 + c % 64) c rest (omega arith) (omega arith)

chars-text : (cs : List ℕ) → chars (text_of cs) ≡ cs
chars-text [] = chars-nil
chars-text (c ∷ cs) = read_back c (text_of cs) ∙ ap (λ (x : List ℕ). c ∷ x) (chars-text cs)

-- the characters without the white space at their ends
abbrev trimmed : List ℕ → List ℕ
trimmed cs = drop_trailing_whitespace (skip_leading_whitespace cs)

trim-text : (cs : List ℕ) → trim (text_of cs) ≡ text_of (trimmed cs)
unfolding trim_start trim_end
trim-text cs =
    ap (λ (x : List ℕ). text_of (drop_trailing_whitespace (chars (text_of (skip_leading_whitespace x))))) (chars-text cs)
    ∙ ap (λ (x : List ℕ). text_of (drop_trailing_whitespace x)) (chars-text (skip_leading_whitespace cs))

-- no end has more characters than the text
skip-length : (cs : List ℕ) → length (skip_leading_whitespace cs) ≤ length cs
skip-length [] = omega arith
skip-length (c ∷ cs) = by_test (skip-length cs) (is_whitespace c)
  where
    by_test : length (skip_leading_whitespace cs) ≤ length cs → (b : Bool) → length (cond b (skip_leading_whitespace cs) (c ∷ cs)) ≤ length (c ∷ cs)
    by_test more true = omega arith
    by_test more false = omega arith

-- what stays of a text where b says that its first character is white and nothing of the others stays
kept-length : (b : Bool) (c n : ℕ) (ds : List ℕ) → length ds ≤ n → length (cond b [] (c ∷ ds)) ≤ suc n
kept-length true c n ds less = omega arith
kept-length false c n ds less = omega arith

drop-length : (cs : List ℕ) → length (drop_trailing_whitespace cs) ≤ length cs
drop-length [] = omega arith
drop-length (c ∷ cs) = kept-length (is_whitespace c && eqb (length (drop_trailing_whitespace cs)) 0) c (length cs) (drop_trailing_whitespace cs) (drop-length cs)

drop-last : (a : List ℕ) (c : ℕ) → is_whitespace c ≡ true → length (drop_trailing_whitespace (a ++ c ∷ [])) ≤ length a
drop-last [] c white =
    let nothing : drop_trailing_whitespace (c ∷ []) ≡ [] = ap (λ b. cond (b && true) [] (c ∷ [])) white in
    omega (arith, ap length nothing)
drop-last (x ∷ a) c white = kept-length (is_whitespace x && eqb (length (drop_trailing_whitespace (a ++ c ∷ []))) 0) x (length a) (drop_trailing_whitespace (a ++ c ∷ [])) (drop-last a c white)

-- where nothing is taken off no white space stands at an end
first-tight : (cs : List ℕ) → trimmed cs ≡ cs → Bars is_whitespace cs
first-tight [] same = tt
first-tight (c ∷ cs) same = by_test (is_whitespace c) refl
  where
    by_test : (b : Bool) → is_whitespace c ≡ b → b ≡ false
    by_test true e =
        let less : trimmed (c ∷ cs) ≡ trimmed cs = ap (λ b. drop_trailing_whitespace (cond b (skip_leading_whitespace cs) (c ∷ cs))) e in
        let long : length (trimmed cs) ≡ suc (length cs) = ap length (sym less ∙ same) in
        absurd (omega (arith, drop-length (skip_leading_whitespace cs), skip-length cs))
    by_test false e = refl

skip-same : (cs : List ℕ) → Bars is_whitespace cs → skip_leading_whitespace cs ≡ cs
skip-same [] bars = refl
skip-same (c ∷ cs) bars = ap (λ b. cond b (skip_leading_whitespace cs) (c ∷ cs)) bars

last-tight : (cs : List ℕ) → drop_trailing_whitespace cs ≡ cs → (a : List ℕ) (c : ℕ) → cs ≡ a ++ c ∷ [] → is_whitespace c ≡ false
last-tight cs same a c e = by_test (is_whitespace c) refl
  where
    by_test : (b : Bool) → is_whitespace c ≡ b → b ≡ false
    by_test true white =
        let long : length (drop_trailing_whitespace (a ++ c ∷ [])) ≡ length (a ++ c ∷ []) = ap length (ap drop_trailing_whitespace (sym e) ∙ (same ∙ e)) in
        absurd (omega (arith, drop-last a c white, length-append a (c ∷ [])))
    by_test false white = refl

-- where no white space stands at an end nothing is taken off
filled : (x : ℕ) (xs : List ℕ) → (length (x ∷ xs) == 0) ≡ false
filled x xs = search rules

never_both : (b : Bool) → (b && false) ≡ false
never_both true = refl
never_both false = refl

kept : (b : Bool) (x y : ℕ) (ys : List ℕ) → cond (b && (length (y ∷ ys) == 0)) [] (x ∷ y ∷ ys) ≡ x ∷ y ∷ ys
kept b x y ys = ap (λ t. cond (b && t) [] (x ∷ y ∷ ys)) (filled y ys) ∙ ap (λ t. cond t [] (x ∷ y ∷ ys)) (never_both b)

drop-same : (cs : List ℕ) → ((a : List ℕ) (c : ℕ) → cs ≡ a ++ c ∷ [] → is_whitespace c ≡ false) → drop_trailing_whitespace cs ≡ cs
drop-same [] last = refl
drop-same (x ∷ []) last = ap (λ b. cond (b && true) [] (x ∷ [])) (last [] x refl)
drop-same (x ∷ y ∷ cs) last =
    let more : drop_trailing_whitespace (y ∷ cs) ≡ y ∷ cs = drop-same (y ∷ cs) (λ a c e. last (x ∷ a) c (ap (λ (z : List ℕ). x ∷ z) e)) in
    ap (λ (l : List ℕ). cond (is_whitespace x && (length l == 0)) [] (x ∷ l)) more ∙ kept (is_whitespace x) x y cs

pub tight-trimmed : (cs : List ℕ) → IsTight cs → trimmed cs ≡ cs
tight-trimmed cs (first, last) = ap drop_trailing_whitespace (skip-same cs first) ∙ drop-same cs last

pub trimmed-tight : (cs : List ℕ) → trimmed cs ≡ cs → IsTight cs
trimmed-tight cs same =
    let first = first-tight cs same in
    (first, last-tight cs (sym (ap drop_trailing_whitespace (skip-same cs first)) ∙ same))

-- a text has bytes where it has characters
some_bytes : (c : ℕ) (bs : List ℕ) → is_filled (encode_utf8 c ++ bs) ≡ true
unfolding lib.Utf8.encode
some_bytes c bs = by_size (ltb c 128) (ltb c 2048) (ltb c 65536)
  where
    by_size : (one two three : Bool)
        → is_filled (cond one (c ∷ []) (cond two ((192 + c / 64) ∷ (128 + c % 64) ∷ []) (cond three ((224 + c / 4096) ∷ (128 + (c / 64) % 64) ∷ (128 + c % 64) ∷ []) ((240 + c / 262144) ∷ (128 + (c / 4096) % 64) ∷ (128 + (c / 64) % 64) ∷ (128 + c % 64) ∷ []))) ++ bs) ≡ true
    by_size true two three = refl
    by_size false true three = refl
    by_size false false true = refl
    by_size false false false = refl

filled-text : (cs : List ℕ) → is_filled (text_of cs) ≡ is_filled cs
filled-text [] = refl
filled-text (c ∷ cs) = some_bytes c (text_of cs)

-- a value is filled and tight
pub value-again : (cs : List ℕ) → is_filled cs ≡ true → IsTight cs → is_value (text_of cs) ≡ true
value-again cs some tight =
    let same : bytes_eq (trim (text_of cs)) (text_of cs) ≡ true = (bytes_eq-Decides (trim (text_of cs)) (text_of cs)).1 (trim-text cs ∙ ap text_of (tight-trimmed cs tight)) in
    rw (filled-text cs, some, same) refl

pub value-takes : (cs : List ℕ) → is_value (text_of cs) ≡ true → (is_filled cs ≡ true) × IsTight cs
value-takes cs e =
    let both = and_parts (is_filled (text_of cs)) (bytes_eq (trim (text_of cs)) (text_of cs)) e in
    let bytes : trim (text_of cs) ≡ text_of cs = (bytes_eq-Decides (trim (text_of cs)) (text_of cs)).0 both.1 in
    (sym (filled-text cs) ∙ both.0, trimmed-tight cs (encodes_same (trimmed cs) cs (sym (trim-text cs) ∙ bytes)))
