-- What reading a page from its end on makes.
use Rattle.std.proofs.Common.{◌≡◌, ◌<◌, ℕ, Bool, true, false, true≢false, List, [], ◌∷◌, ◌++◌, length, reverse, refl, sym, ap, ◌∙◌, arith, Bor}
use Rattle.std.specs.Prelude.{if◌then◌else◌}
use Rattle.std.specs.List.{fold, flat_map}
use Rattle.std.specs.Str.{chars}
use Rattle.std.proofs.lemmas.List.{reverse-append}
use Rattle.laws.specs.Text.{is_filled}
use Rattle.rendering_taxonomy.specs.Formats.{looks_like}
use Rattle.rendering_taxonomy.specs.declared.formatting.Formatting.{Formatting}
use Rattle.rendering_tree.specs.Tokens.{Token, letter, with_letters}
use Rattle.rendering_tree.specs.Trees.{Child, Children, Text, Elem, Markup, Link, Transparent, nothing, before, Nest, before_text, take_token}
use Rattle.rendering_tree.specs.Views.{child_view, children_view}
use Rattle.rendering_tree.specs.declared.element.ElemChild.{ElemChild}
use Rattle.rendering_building.specs.Building.{backwards, joined, joins, text_before, text_on}
use Rattle.rendering_page.specs.Views.{words_view}
use Rattle.rendering_page.specs.declared.piece.Words.{Words}
use Rattle.rendering_page.proofs.ViewsLetters.{like_itself}

-- a text is read
pub read_text : (f : Formatting) (cs : List ℕ) (ts : List Token) (n : Nest) → fold take_token n (with_letters f cs ts) ≡ fold take_token (record n { inside = text_before f cs n.inside }) ts
read_text f [] ts n = refl
read_text f (c ∷ cs) ts n = read_text f cs (letter f c ∷ ts) n

-- two texts that look alike
pub text_before-append : (f : Formatting) (cs ds : List ℕ) (xs : Children) → text_before f (cs ++ ds) xs ≡ text_before f cs (text_before f ds xs)
text_before-append f [] ds xs = refl
text_before-append f (c ∷ cs) ds xs = ap (before_text f c) (text_before-append f cs ds xs)

-- a part more of a text
pub joined_push : (ps : List Words) (w : Words) → joined (ps ++ w ∷ []) ≡ words_view w ++ joined ps
joined_push ps w = ap (flat_map words_view) (reverse-append ps (w ∷ []))

-- a child more
pub backwards_push : (xs : List ElemChild) (x : ElemChild) → backwards (xs ++ x ∷ []) ≡ before (child_view x) (backwards xs)
backwards_push xs x = ap children_view (reverse-append xs (x ∷ []))

joins_itself : (f : Formatting) (c : ℕ) (cs : List ℕ) (xs : Children) → before_text f c (before (Text f cs) xs) ≡ before (Text f (c ∷ cs)) xs
joins_itself f c cs xs = ap (λ b. if b then before (Text f (c ∷ cs)) xs else before (Text f (c ∷ [])) (before (Text f cs) xs)) (like_itself f)

-- a text by itself, where its last character joins nothing
stands : (f : Formatting) (c : ℕ) (cs : List ℕ) (xs : Children) → ((d : ℕ) → before_text f d xs ≡ before (Text f (d ∷ [])) xs) → text_before f (c ∷ cs) xs ≡ before (Text f (c ∷ cs)) xs
stands f c [] xs e = e c
stands f c (d ∷ cs) xs e = ap (before_text f c) (stands f d cs xs e) ∙ joins_itself f c (d ∷ cs) xs

alike : (f g : Formatting) (cs ds : List ℕ) (xs : Children) → looks_like f g ≡ true → text_before f cs (before (Text g ds) xs) ≡ before (Text g (cs ++ ds)) xs
alike f g [] ds xs e = refl
alike f g (c ∷ cs) ds xs e =
    ap (before_text f c) (alike f g cs ds xs e) ∙ ap (λ b. if b then before (Text g (c ∷ cs ++ ds)) xs else before (Text f (c ∷ [])) (before (Text g (cs ++ ds)) xs)) e

by_look : (f g : Formatting) (c : ℕ) (cs ds : List ℕ) (xs : Children) (b : Bool) → looks_like f g ≡ b
    → text_before f (c ∷ cs) (before (Text g ds) xs) ≡ (if b then before (Text g (c ∷ cs ++ ds)) xs else before (Text f (c ∷ cs)) (before (Text g ds) xs))
by_look f g c cs ds xs true e = alike f g (c ∷ cs) ds xs e
by_look f g c cs ds xs false e =
    stands f c cs (before (Text g ds) xs) (λ d. ap (λ b. if b then before (Text g (d ∷ ds)) xs else before (Text f (d ∷ [])) (before (Text g ds) xs)) e)

-- a text before a child
pub text_before_child : (f : Formatting) (cs : List ℕ) (x : Child) (xs : Children) → is_filled cs ≡ true → text_before f cs (before x xs) ≡ text_on f cs x xs
text_before_child f [] x xs e = absurd (true≢false (sym e))
text_before_child f (c ∷ cs) (Text g ds) xs e = by_look f g c cs ds xs (looks_like f g) refl
text_before_child f (c ∷ cs) (Elem d m ys) xs e = stands f c cs (before (Elem d m ys) xs) (λ d. refl)
text_before_child f (c ∷ cs) (Markup ds) xs e = stands f c cs (before (Markup ds) xs) (λ d. refl)
text_before_child f (c ∷ cs) (Link g ds url) xs e = stands f c cs (before (Link g ds url) xs) (λ d. refl)
text_before_child f (c ∷ cs) (Transparent g n) xs e = stands f c cs (before (Transparent g n) xs) (λ d. refl)

-- a text before children that it does not join
pub unjoined : (f : Formatting) (cs : List ℕ) (xs : Children) → is_filled cs ≡ true → joins f xs ≡ false → text_before f cs xs ≡ before (Text f cs) xs
unjoined f [] xs i e = absurd (true≢false (sym i))
unjoined f (c ∷ cs) nothing i e = stands f c cs nothing (λ d. refl)
unjoined f (c ∷ cs) (before (Text g ds) xs) i e = by_look f g c cs ds xs false e
unjoined f (c ∷ cs) (before (Elem d m ys) xs) i e = stands f c cs (before (Elem d m ys) xs) (λ d. refl)
unjoined f (c ∷ cs) (before (Markup ds) xs) i e = stands f c cs (before (Markup ds) xs) (λ d. refl)
unjoined f (c ∷ cs) (before (Link g ds url) xs) i e = stands f c cs (before (Link g ds url) xs) (λ d. refl)
unjoined f (c ∷ cs) (before (Transparent g n) xs) i e = stands f c cs (before (Transparent g n) xs) (λ d. refl)

-- what was read of an element and around it
abbrev pub nest : Children → List Children → Nest
nest xs around = record { inside = xs; around = around }

-- a part more of the text that is being read
pub words_taken : (f g : Formatting) (cs ds es : List ℕ) (xs : Children) (around : List Children) (n : Nest) → f ≡ g → es ≡ ds ++ cs → nest (text_before f cs xs) around ≡ n
    → nest (text_before f es xs) around ≡ record n { inside = text_before g ds n.inside }
words_taken f g cs ds es xs around n look e is =
    ap (λ bs. nest (text_before f bs xs) around) e
    ∙ ap (λ ys. nest ys around) (text_before-append f ds cs xs)
    ∙ ap (λ h. nest (text_before h ds (text_before f cs xs)) around) look
    ∙ ap (λ (m : Nest). nest (text_before g ds m.inside) m.around) is

-- no text
nothing_of : (cs : List ℕ) → is_filled cs ≡ false → cs ≡ []
nothing_of [] e = refl
nothing_of (c ∷ cs) e = absurd (true≢false e)

-- a part more, after which those stand that were read
pub part_more : (w old u v : Words) (ps qs : List Words) → v ≡ w → u ≡ old → qs ≡ ps ++ u ∷ [] → words_view v ++ joined qs ≡ words_view w ++ (words_view old ++ joined ps)
part_more w old u v ps qs is was e =
    ap (λ x. words_view x ++ joined qs) is ∙ ap (λ cs. words_view w ++ cs) (ap joined e ∙ joined_push ps u ∙ ap (λ x. words_view x ++ joined ps) was)

-- where none was read last
pub part_none : (w old u v : Words) (ps : List Words) (s : Bor (List ℕ)) → v ≡ w → u ≡ old → chars s.now ≡ words_view u → is_filled (chars s.now) ≡ false → words_view v ++ joined ps ≡ words_view w ++ (words_view old ++ joined ps)
part_none w old u v ps s is was same none =
    ap (λ x. words_view x ++ joined ps) is
    ∙ ap (λ cs. words_view w ++ cs) (sym (ap (λ cs. cs ++ joined ps) (ap words_view (sym was) ∙ sym same ∙ nothing_of (chars s.now) none)))

-- fewer than two children stand in order
pub short_reversed : (xs : List ElemChild) → length xs < 2 → xs ≡ reverse xs
short_reversed [] low = refl
short_reversed (x ∷ []) low = refl
short_reversed (x ∷ y ∷ zs) low = absurd (omega (arith, low))
