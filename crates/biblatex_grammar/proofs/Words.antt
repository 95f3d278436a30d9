-- A name is a word of ASCII letters where the reader compares its bytes with the word's.
use Rattle.std.proofs.Common.{◌≡◌, ℕ, ◌+◌, ◌/◌, ◌%◌, ◌<◌, ◌≤◌, Bool, true, false, true≢false, cond, ltb, List, [], ◌∷◌, ◌++◌, map, refl, sym, ap, ◌∙◌, arith, ltb-true, lt-ltb, le-ltb}
use Rattle.std.specs.Prelude.{encode_utf8}
use Rattle.std.specs.Char.{to_ascii_lowercase}
use Rattle.std.proofs.lemmas.Slice.Eq.{bytes_eq-Decides}
use Rattle.laws.specs.Runs.{AllPassTest}
use Rattle.laws.specs.Text.{lowered, text as text_of}
use Rattle.biblatex_text.specs.Items.{is_named}
use Rattle.biblatex_grammar.specs.Characters.{IsWord}

abbrev is_ascii : ℕ → Bool
is_ascii c = ltb c 128

abbrev pub AreAscii : List ℕ → Type 0
AreAscii cs = AllPassTest is_ascii cs

-- a character whose lower case is an ASCII character is one
of_lower : (c : ℕ) → is_ascii (to_ascii_lowercase c) ≡ true → is_ascii c ≡ true
of_lower c is = by_case (ltb c 65) (ltb c 91) refl refl is
  where
    by_case : (a b : Bool) → ltb c 65 ≡ a → ltb c 91 ≡ b → is_ascii (cond a c (cond b (c + 32) c)) ≡ true → is_ascii c ≡ true
    by_case true b e f h = h
    by_case false true e f h = let less : c < 91 = ltb-true c 91 f in lt-ltb c 128 (omega arith)
    by_case false false e f h = h

lower_other : (c : ℕ) → is_ascii c ≡ false → is_ascii (to_ascii_lowercase c) ≡ false
lower_other c other = by_case (is_ascii (to_ascii_lowercase c)) refl
  where
    by_case : (b : Bool) → is_ascii (to_ascii_lowercase c) ≡ b → b ≡ false
    by_case true e = absurd (true≢false (sym (of_lower c e) ∙ other))
    by_case false e = refl

-- a byte that is no ASCII character leads
abbrev Leads : List ℕ → Type 0
Leads bs = (b : ℕ) × (more : List ℕ) × (bs ≡ b ∷ more) × (is_ascii b ≡ false)

above : (k x : ℕ) → 128 ≤ k → is_ascii (k + x) ≡ false
above k x h = le-ltb (k + x) 128 (omega arith)

leads : (c : ℕ) → is_ascii c ≡ false → Leads (encode_utf8 c)
unfolding lib.Utf8.encode
leads c other = by_size (ltb c 128) (ltb c 2048) (ltb c 65536) other
  where
    by_size : (one two three : Bool) → one ≡ false
        → Leads (cond one (c ∷ []) (cond two ((192 + c / 64) ∷ (128 + c % 64) ∷ []) (cond three ((224 + c / 4096) ∷ (128 + (c / 64) % 64) ∷ (128 + c % 64) ∷ []) ((240 + c / 262144) ∷ (128 + (c / 4096) % 64) ∷ (128 + (c / 64) % 64) ∷ (128 + c % 64) ∷ []))))
    by_size true two three e = absurd (true≢false e)
    by_size false true three e = (192 + c / 64, (128 + c % 64) ∷ [], refl, above 192 (c / 64) (omega arith))
    by_size false false true e = (224 + c / 4096, (128 + (c / 64) % 64) ∷ (128 + c % 64) ∷ [], refl, above 224 (c / 4096) (omega arith))
    by_size false false false e = (240 + c / 262144, (128 + (c / 4096) % 64) ∷ (128 + (c / 64) % 64) ∷ (128 + c % 64) ∷ [], refl, above 240 (c / 262144) (omega arith))

one_byte : (c : ℕ) → is_ascii c ≡ true → encode_utf8 c ≡ c ∷ []
unfolding lib.Utf8.encode
one_byte c is = rw is refl

text-ascii : (cs : List ℕ) → AreAscii cs → text_of cs ≡ cs
text-ascii [] all = refl
text-ascii (c ∷ cs) all = ap (λ (x : List ℕ). x ++ text_of cs) (one_byte c all.0) ∙ ap (λ (x : List ℕ). c ∷ x) (text-ascii cs all.1)

first_is : (x y : ℕ) (xs ys : List ℕ) → x ∷ xs ≡ y ∷ ys → x ≡ y
first_is x y xs ys e = cc

others_are : (x y : ℕ) (xs ys : List ℕ) → x ∷ xs ≡ y ∷ ys → xs ≡ ys
others_are x y xs ys e = cc

-- characters whose lower case is a word of ASCII characters are such
ascii_of_word : (name word : List ℕ) → AreAscii word → map to_ascii_lowercase name ≡ word → AreAscii name
ascii_of_word [] word all e = tt
ascii_of_word (c ∷ cs) [] all e = absurd cc
ascii_of_word (c ∷ cs) (w ∷ ws) all e =
    let same : to_ascii_lowercase c ≡ w = first_is (to_ascii_lowercase c) w (map to_ascii_lowercase cs) ws e in
    (of_lower c (ap is_ascii same ∙ all.0), ascii_of_word cs ws all.1 (others_are (to_ascii_lowercase c) w (map to_ascii_lowercase cs) ws e))

-- so are those whose bytes are such a word in lower case
ascii_of_bytes : (name word : List ℕ) → AreAscii word → lowered name ≡ word → AreAscii name
ascii_of_bytes [] word all e = tt
ascii_of_bytes (c ∷ cs) word all e = by_size (is_ascii c) refl word all e (λ ws some is. ascii_of_bytes cs ws some is)
  where
    by_size : (b : Bool) → is_ascii c ≡ b → (word : List ℕ) → AreAscii word → lowered (c ∷ cs) ≡ word → ((ws : List ℕ) → AreAscii ws → lowered cs ≡ ws → AreAscii cs) → AreAscii (c ∷ cs)
    by_size true is [] all e more =
        let bytes : to_ascii_lowercase c ∷ lowered cs ≡ [] = ap (λ (x : List ℕ). map to_ascii_lowercase (x ++ text_of cs)) (sym (one_byte c is)) ∙ e in
        absurd cc
    by_size true is (w ∷ ws) all e more =
        let bytes : to_ascii_lowercase c ∷ lowered cs ≡ w ∷ ws = ap (λ (x : List ℕ). map to_ascii_lowercase (x ++ text_of cs)) (sym (one_byte c is)) ∙ e in
        (is, more ws all.1 (others_are (to_ascii_lowercase c) w (lowered cs) ws bytes))
    by_size false other [] all e more =
        let first = leads c other in
        let bytes : to_ascii_lowercase first.0 ∷ map to_ascii_lowercase (first.1 ++ text_of cs) ≡ [] = ap (λ (x : List ℕ). map to_ascii_lowercase (x ++ text_of cs)) (sym first.2) ∙ e in
        absurd cc
    by_size false other (w ∷ ws) all e more =
        let first = leads c other in
        let bytes : to_ascii_lowercase first.0 ∷ map to_ascii_lowercase (first.1 ++ text_of cs) ≡ w ∷ ws = ap (λ (x : List ℕ). map to_ascii_lowercase (x ++ text_of cs)) (sym first.2) ∙ e in
        let same : to_ascii_lowercase first.0 ≡ w = first_is (to_ascii_lowercase first.0) w (map to_ascii_lowercase (first.1 ++ text_of cs)) ws bytes in
        absurd (true≢false (sym all.0 ∙ (ap is_ascii (sym same) ∙ lower_other first.0 first.3)))

pub word-named : (name word : List ℕ) → AreAscii word → IsWord word name → is_named name word ≡ true
word-named name word all is = (bytes_eq-Decides (lowered name) word).1 (ap (map to_ascii_lowercase) (text-ascii name (ascii_of_word name word all is)) ∙ is)

pub named-word : (name word : List ℕ) → AreAscii word → is_named name word ≡ true → IsWord word name
named-word name word all is =
    let bytes = (bytes_eq-Decides (lowered name) word).0 is in
    ap (map to_ascii_lowercase) (sym (text-ascii name (ascii_of_bytes name word all bytes))) ∙ bytes

pub other-named : (name word : List ℕ) → AreAscii word → (IsWord word name → ⊥) → is_named name word ≡ false
other-named name word all other = by_test (is_named name word) refl
  where
    by_test : (b : Bool) → is_named name word ≡ b → b ≡ false
    by_test true e = absurd (other (named-word name word all e))
    by_test false e = refl

pub named-other : (name word : List ℕ) → AreAscii word → is_named name word ≡ false → IsWord word name → ⊥
named-other name word all other is = true≢false (sym (word-named name word all is) ∙ other)
