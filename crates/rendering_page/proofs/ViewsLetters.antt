-- Characters at the end of a page.
use Rattle.std.proofs.Common.{◌≡◌, ℕ, true, false, true≢false, List, [], ◌∷◌, ◌++◌, reverse, append_assoc, refl, sym, ap, ◌∙◌, Option, Some, None}
use Rattle.std.specs.Prelude.{if◌then◌else◌}
use Rattle.std.proofs.lemmas.Bool.{not-true, not-false}
use Rattle.std.proofs.lemmas.List.{reverse-append}
use Rattle.laws.specs.Text.{is_filled}
use Rattle.rendering_taxonomy.specs.Formats.{looks_like}
use Rattle.rendering_taxonomy.specs.declared.formatting.Formatting.{Formatting}
use Rattle.rendering_taxonomy.proofs.Indices.{Decides-looks_like}
use Rattle.rendering_tree.specs.Tokens.{Token, letter, with_letters, alike_from, last_backwards}
use Rattle.rendering_page.specs.Cursors.{backwards_from, parts}

-- the last character of a list is the first from its end
pub reverse_onto : (c : ℕ) (cs ds : List ℕ) → reverse cs ++ c ∷ ds ≡ reverse (c ∷ cs) ++ ds
reverse_onto c cs ds = sym (append_assoc (reverse cs) (c ∷ []) ds) ∙ ap (λ xs. xs ++ ds) (sym (reverse-append (c ∷ []) cs))

pub like_itself : (f : Formatting) → looks_like f f ≡ true
like_itself f = (Decides-looks_like f f).1 refl

met : (f : Formatting) (c : ℕ) (ts : List Token) → alike_from f (letter f c ∷ ts) ≡ c ∷ alike_from f ts
met f c ts = ap (λ b. if b then c ∷ alike_from f ts else []) (like_itself f)

letters_alike : (f : Formatting) (cs : List ℕ) (ts : List Token) → alike_from f (with_letters f cs ts) ≡ reverse cs ++ alike_from f ts
letters_alike f [] ts = refl
letters_alike f (c ∷ cs) ts = letters_alike f cs (letter f c ∷ ts) ∙ ap (λ xs. reverse cs ++ xs) (met f c ts) ∙ reverse_onto c cs (alike_from f ts)

letters_last : (f : Formatting) (c : ℕ) (cs : List ℕ) (ts : List Token) → last_backwards (with_letters f (c ∷ cs) ts) ≡ reverse (c ∷ cs) ++ alike_from f ts
letters_last f c [] ts = refl
letters_last f c (d ∷ cs) ts = letters_last f d cs (letter f c ∷ ts) ∙ ap (λ xs. reverse (d ∷ cs) ++ xs) (met f c ts) ∙ reverse_onto c (d ∷ cs) (alike_from f ts)

letters_apart : (g f : Formatting) (c : ℕ) (cs : List ℕ) (ts : List Token) → looks_like g f ≡ false → alike_from g (with_letters f (c ∷ cs) ts) ≡ []
letters_apart g f c [] ts e = ap (λ b. if b then c ∷ alike_from g ts else []) e
letters_apart g f c (d ∷ cs) ts e = letters_apart g f d cs (letter f c ∷ ts) e

-- a text that goes on with the last one
pub backwards_text : (o : Option Formatting) (f : Formatting) (cs : List ℕ) (ts : List Token) → is_filled cs ≡ true → parts o f ≡ false
    → backwards_from o (with_letters f cs ts) ≡ reverse cs ++ backwards_from (Some f) ts
backwards_text o f [] ts i e = absurd (true≢false (sym i))
backwards_text None f (c ∷ cs) ts i e = letters_last f c cs ts
backwards_text (Some g) f (c ∷ cs) ts i e =
    let same : g ≡ f = (Decides-looks_like g f).0 (not-false (looks_like g f) e) in
    ap (λ h. alike_from h (with_letters f (c ∷ cs) ts)) same ∙ letters_alike f (c ∷ cs) ts

-- a text that stands apart from it
pub backwards_apart : (o : Option Formatting) (f : Formatting) (cs : List ℕ) (ts : List Token) → is_filled cs ≡ true → parts o f ≡ true
    → backwards_from o (with_letters f cs ts) ≡ []
backwards_apart o f [] ts i e = absurd (true≢false (sym i))
backwards_apart None f (c ∷ cs) ts i e = absurd (true≢false (sym e))
backwards_apart (Some g) f (c ∷ cs) ts i e = letters_apart g f c cs ts (not-true (looks_like g f) e)
