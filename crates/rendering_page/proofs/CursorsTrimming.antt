-- White space at the end of the last text.
use Rattle.std.proofs.Common.{◌≡◌, ◌+◌, ◌-◌, ℕ, zero, suc, Bool, true, false, cond, not, ◌&&◌, ◌==◌, List, [], ◌∷◌, ◌++◌, length, reverse, refl, sym, ap, ◌∙◌, arith, rules, append-nil, None}
use Rattle.std.specs.Prelude.{if◌then◌else◌}
use Rattle.std.specs.Char.{is_whitespace}
use Rattle.std.specs.Str.{drop_trailing_whitespace}
use Rattle.std.proofs.lemmas.List.{reverse-reverse}
use Rattle.laws.specs.Text.{is_filled}
use Rattle.rendering_taxonomy.specs.declared.formatting.Formatting.{Formatting}
use Rattle.rendering_tree.specs.Tokens.{Token, letter, with_letters, without_letters, last_backwards, last_text}
use Rattle.rendering_page.specs.Cursors.{blanks, trimmed_from}
use Rattle.rendering_page.specs.Tail.{trailing}
use Rattle.rendering_page.proofs.ViewsLetters.{reverse_onto}

-- a text without white space at its end, from one without its first character
abbrev pub one_more : ℕ → List ℕ → List ℕ
one_more c ds = cond (is_whitespace c && length ds == 0) [] (c ∷ ds)

pub more_blank : (c : ℕ) → is_whitespace c ≡ true → one_more c [] ≡ []
more_blank c e = ap (λ b. cond (b && true) [] (c ∷ [])) e

pub more_letter : (c : ℕ) → is_whitespace c ≡ false → one_more c [] ≡ c ∷ []
more_letter c e = ap (λ b. cond (b && true) [] (c ∷ [])) e

never_both : (b : Bool) → (b && false) ≡ false
never_both true = refl
never_both false = refl

not_none : (d : ℕ) (ds : List ℕ) → (length (d ∷ ds) == 0) ≡ false
not_none d ds = search rules

pub more_filled : (c d : ℕ) (ds : List ℕ) → one_more c (d ∷ ds) ≡ c ∷ d ∷ ds
more_filled c d ds = ap (λ b. cond (is_whitespace c && b) [] (c ∷ d ∷ ds)) (not_none d ds) ∙ ap (λ b. cond b [] (c ∷ d ∷ ds)) (never_both (is_whitespace c))

-- the page after a text of which that remains, and the white space before it
abbrev rest_of : Formatting → List ℕ → List Token → List ℕ → List Token
rest_of f ds ts xs = if is_filled ds then with_letters f ds ts else without_letters (blanks xs) ts

rest_more : (f : Formatting) (c : ℕ) (ds : List ℕ) (w : Bool) (ts : List Token) (xs : List ℕ) → is_whitespace c ≡ w → rest_of f ds (letter f c ∷ ts) (c ∷ xs) ≡ rest_of f (one_more c ds) ts xs
rest_more f c [] true ts xs e =
    ap (λ b. without_letters (if b then suc (blanks xs) else zero) (letter f c ∷ ts)) e ∙ ap (λ ds. rest_of f ds ts xs) (sym (more_blank c e))
rest_more f c [] false ts xs e =
    ap (λ b. without_letters (if b then suc (blanks xs) else zero) (letter f c ∷ ts)) e ∙ ap (λ ds. rest_of f ds ts xs) (sym (more_letter c e))
rest_more f c (d ∷ ds) w ts xs e = ap (λ ds. rest_of f ds ts xs) (sym (more_filled c d ds))

trimmed_letters : (f : Formatting) (cs : List ℕ) (ts : List Token) (xs : List ℕ) → without_letters (blanks (reverse cs ++ xs)) (with_letters f cs ts) ≡ rest_of f (drop_trailing_whitespace cs) ts xs
trimmed_letters f [] ts xs = refl
trimmed_letters f (c ∷ cs) ts xs =
    ap (λ ys. without_letters (blanks ys) (with_letters f cs (letter f c ∷ ts))) (sym (reverse_onto c cs xs))
    ∙ trimmed_letters f cs (letter f c ∷ ts) (c ∷ xs)
    ∙ rest_more f c (drop_trailing_whitespace cs) (is_whitespace c) ts xs refl

rest_is : (f : Formatting) (ds : List ℕ) (ts us : List Token) → (if is_filled ds then with_letters f ds ts else us) ≡ with_letters f ds (if not (is_filled ds) then us else ts)
rest_is f [] ts us = refl
rest_is f (d ∷ ds) ts us = refl

-- a text at the end of a page
pub trimmed_piece : (f : Formatting) (cs ds : List ℕ) (b : Bool) (ts : List Token) (xs : List ℕ) → ds ≡ drop_trailing_whitespace cs → b ≡ not (is_filled ds)
    → without_letters (blanks (reverse cs ++ xs)) (with_letters f cs ts) ≡ with_letters f ds (if b then without_letters (blanks xs) ts else ts)
trimmed_piece f cs ds b ts xs e is =
    trimmed_letters f cs ts xs
    ∙ ap (λ ds. rest_of f ds ts xs) (sym e)
    ∙ rest_is f ds ts (without_letters (blanks xs) ts)
    ∙ ap (λ b. with_letters f ds (if b then without_letters (blanks xs) ts else ts)) (sym is)

-- how many characters of white space a text ends with
abbrev count_of : List ℕ → List ℕ → List ℕ → ℕ
count_of cs ds xs = if is_filled ds then length cs - length ds else length cs + blanks xs

count_more : (c : ℕ) (cs ds : List ℕ) (w : Bool) (xs : List ℕ) → is_whitespace c ≡ w → count_of cs ds (c ∷ xs) ≡ count_of (c ∷ cs) (one_more c ds) xs
count_more c cs [] true xs e =
    ap (λ b. length cs + (if b then suc (blanks xs) else zero)) e
    ∙ (let same : length cs + suc (blanks xs) ≡ length (c ∷ cs) + blanks xs = omega arith in same)
    ∙ ap (λ ds. count_of (c ∷ cs) ds xs) (sym (more_blank c e))
count_more c cs [] false xs e =
    ap (λ b. length cs + (if b then suc (blanks xs) else zero)) e
    ∙ (let same : length cs + 0 ≡ length (c ∷ cs) - length (c ∷ []) = omega arith in same)
    ∙ ap (λ ds. count_of (c ∷ cs) ds xs) (sym (more_letter c e))
count_more c cs (d ∷ ds) w xs e =
    (let same : length cs - length (d ∷ ds) ≡ length (c ∷ cs) - length (c ∷ d ∷ ds) = omega arith in same)
    ∙ ap (λ ds. count_of (c ∷ cs) ds xs) (sym (more_filled c d ds))

counted : (cs xs : List ℕ) → blanks (reverse cs ++ xs) ≡ count_of cs (drop_trailing_whitespace cs) xs
counted [] xs = (let same : blanks xs ≡ 0 + blanks xs = omega arith in same)
counted (c ∷ cs) xs =
    ap blanks (sym (reverse_onto c cs xs)) ∙ counted cs (c ∷ xs) ∙ count_more c cs (drop_trailing_whitespace cs) (is_whitespace c) xs refl

all_counted : (cs ds : List ℕ) → count_of cs ds [] ≡ length cs - length ds
all_counted cs [] = (let same : length cs + 0 ≡ length cs - 0 = omega arith in same)
all_counted cs (d ∷ ds) = refl

-- of a text that is read from its end
pub trailing_backwards : (cs : List ℕ) → trailing (reverse cs) ≡ blanks cs
trailing_backwards cs =
    sym (ap blanks (sym (reverse-reverse cs) ∙ sym (append-nil (reverse (reverse cs)))) ∙ counted (reverse cs) [] ∙ all_counted (reverse cs) (drop_trailing_whitespace (reverse cs)))

-- all of the last text
pub trimmed_last : (ts : List Token) → trimmed_from None ts ≡ without_letters (trailing (last_text ts)) ts
trimmed_last ts = ap (λ n. without_letters n ts) (sym (trailing_backwards (last_backwards ts)))
