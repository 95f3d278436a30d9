-- Characters that are cut from the end of a page, or put before its last ones.
use Rattle.std.proofs.Common.{◌≡◌, ◌<◌, ◌+◌, ℕ, zero, suc, Bool, true, false, true≢false, List, [], ◌∷◌, ◌++◌, length, take, refl, sym, ap, ◌∙◌, arith}
use Rattle.std.specs.Prelude.{if◌then◌else◌}
use Rattle.std.specs.Str.{chars, IsUtf8}
use Rattle.std.proofs.lemmas.List.{length-append, take_at, append_cancel_left}
use Rattle.std.proofs.lemmas.List.Sums.{fold-append}
use Rattle.std.proofs.lemmas.Str.{chars-append}
use Rattle.rendering_taxonomy.specs.declared.formatting.Formatting.{Formatting}
use Rattle.rendering_tree.specs.Tokens.{Token, letter, last_text, with_letters, without_letters, with_letter_before}
use Rattle.laws.specs.Text.{is_filled}
use Rattle.rendering_page.specs.Cuts.{IsCut}
use Rattle.rendering_page.specs.Tail.{ends_in, without_end}

-- one text after another
pub letters_append : (f : Formatting) (cs ds : List ℕ) (ts : List Token) → with_letters f (cs ++ ds) ts ≡ with_letters f ds (with_letters f cs ts)
letters_append f cs ds ts = fold-append (λ done c. letter f c ∷ done) ts cs ds

cut_all : (f : Formatting) (cs : List ℕ) (ts : List Token) (n m : ℕ) → length cs + n ≡ m → without_letters m (with_letters f cs ts) ≡ without_letters n ts
cut_all f [] ts n m e = ap (λ k. without_letters k ts) (let same : m ≡ n = omega (arith, e) in same)
cut_all f (c ∷ cs) ts n m e = cut_all f cs (letter f c ∷ ts) (suc n) m (let same : length cs + suc n ≡ m = omega (arith, e) in same)

-- a text is cut from its end
pub cut_letters : (f : Formatting) (cs leading back : List ℕ) (count missing : ℕ) (ts : List Token) → IsCut cs count leading back missing
    → without_letters count (with_letters f cs ts) ≡ with_letters f leading (without_letters missing ts)
cut_letters f cs leading back count zero ts h =
    ap (λ xs. without_letters count (with_letters f xs ts)) h.parts
    ∙ ap (without_letters count) (letters_append f leading back ts)
    ∙ cut_all f back (with_letters f leading ts) 0 count h.long
cut_letters f cs leading back count (suc n) ts h =
    let none : leading ≡ [] = h.all (let some : 0 < suc n = omega arith in some) in
    ap (λ xs. without_letters count (with_letters f xs ts)) (h.parts ∙ ap (λ xs. xs ++ back) none)
    ∙ cut_all f back ts (suc n) count h.long
    ∙ ap (λ xs. with_letters f xs (without_letters (suc n) ts)) (sym none)

before_all : (f : Formatting) (cs : List ℕ) (c : ℕ) (ts : List Token) (n m : ℕ) → length cs + suc n ≡ m
    → with_letter_before m c (with_letters f cs ts) ≡ with_letters f cs (with_letter_before (suc n) c ts)
before_all f [] c ts n m e = ap (λ k. with_letter_before k c ts) (let same : m ≡ suc n = omega (arith, e) in same)
before_all f (d ∷ cs) c ts n m e = before_all f cs c (letter f d ∷ ts) (suc n) m (let same : length cs + suc (suc n) ≡ m = omega (arith, e) in same)

-- a character goes before the last ones of a text
pub before_letters : (f : Formatting) (cs leading back : List ℕ) (c count : ℕ) (ts : List Token) → 0 < count → IsCut cs count leading back 0
    → with_letter_before count c (with_letters f cs ts) ≡ with_letters f (c ∷ back) (with_letters f leading ts)
before_letters f cs leading [] c count ts some h = absurd (let no : count ≡ 0 = omega (arith, h.long) in let never : ⊥ = omega (arith, no, some) in never)
before_letters f cs leading (d ∷ back) c count ts some h =
    ap (λ xs. with_letter_before count c (with_letters f xs ts)) h.parts
    ∙ ap (with_letter_before count c) (letters_append f leading (d ∷ back) ts)
    ∙ before_all f back c (letter f d ∷ with_letters f leading ts) 0 count (let same : length back + 1 ≡ count = omega (arith, h.long) in same)

-- or before a text and some of what stands before it
pub before_text : (f : Formatting) (cs leading back : List ℕ) (c count missing : ℕ) (ts : List Token) → 0 < missing → IsCut cs count leading back missing
    → with_letter_before count c (with_letters f cs ts) ≡ with_letters f cs (with_letter_before missing c ts)
before_text f cs leading back c count zero ts some h = absurd (let never : ⊥ = omega (arith, some) in never)
before_text f cs leading back c count (suc n) ts some h =
    let all : cs ≡ back = h.parts ∙ ap (λ xs. xs ++ back) (h.all some) in
    before_all f cs c ts n count (let same : length cs + suc n ≡ count = ap (λ xs. length xs + suc n) all ∙ h.long in same)

-- two cuts of one text at one index
pub same_cut : (cs a b c d : List ℕ) (count missing : ℕ) → IsCut cs count a b 0 → IsCut cs count c d missing → c ≡ a
same_cut cs a b c d count missing h k =
    let one : length cs ≡ length a + length b = ap length h.parts ∙ length-append a b in
    let two : length cs ≡ length c + length d = ap length k.parts ∙ length-append c d in
    let long : length c ≡ length a = equal missing refl one two in
    sym (take_at c d (length c) refl) ∙ ap (take (length c)) (sym k.parts ∙ h.parts) ∙ take_at a b (length c) (sym long)
  where
    equal : (n : ℕ) → missing ≡ n → length cs ≡ length a + length b → length cs ≡ length c + length d → length c ≡ length a
    equal zero e one two = omega (arith, e, one, two, h.long, k.long)
    equal (suc n) e one two =
        let none : c ≡ [] = k.all (let some : 0 < missing = omega (arith, e) in some) in
        let empty : length c ≡ 0 = ap length none in
        omega (arith, e, one, two, h.long, k.long, empty)

-- a text that is cut where its last characters begin
pub cut_here : (bs leading rest back : List ℕ) (count missing : ℕ) → IsUtf8 leading → bs ≡ leading ++ rest → chars bs ≡ chars leading ++ back
    → length back + missing ≡ count → missing ≡ 0 → IsCut (chars bs) count (chars leading) (chars rest) missing
cut_here bs leading rest back count missing u e known long none =
    let parts : chars bs ≡ chars leading ++ chars rest = ap chars e ∙ chars-append leading rest u in
    let same : chars rest ≡ back = append_cancel_left (chars leading) (chars rest) back (sym parts ∙ known) in
    record {
      parts = parts;
      long = ap (λ (xs : List ℕ). length xs + missing) same ∙ long;
      all = λ some. absurd (let never : ⊥ = omega (arith, none, some) in never);
    }

-- of nothing, nothing is cut
pub cut_nothing : (n : ℕ) → without_letters n [] ≡ []
cut_nothing zero = refl
cut_nothing (suc n) = refl

-- no character is cut
pub cut_none : (n : ℕ) (ts : List Token) → n ≡ 0 → without_letters n ts ≡ ts
cut_none n ts e = ap (λ k. without_letters k ts) e

none_either : (b : Bool) (ts : List Token) → (if b then without_letters 0 ts else ts) ≡ ts
none_either true ts = refl
none_either false ts = refl

-- an end without characters cuts nothing
pub no_end : (end : List ℕ) (ts : List Token) → is_filled end ≡ false → ts ≡ without_end end ts
no_end [] ts e = sym (none_either (ends_in [] (last_text ts)) ts)
no_end (c ∷ cs) ts e = absurd (true≢false e)

-- before no character, none is put
pub before_none : (n c : ℕ) (ts : List Token) → n ≡ 0 → with_letter_before n c ts ≡ ts
before_none n c [] e = refl
before_none n c (t ∷ ts) e = ap (λ k. with_letter_before k c (t ∷ ts)) e
