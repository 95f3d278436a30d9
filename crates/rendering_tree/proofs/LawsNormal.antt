-- Trees in their normal form.
use Rattle.std.proofs.Common.{◌≡◌, ℕ, Bool, true, false, not, ◌&&◌, true≢false, List, [], ◌∷◌, refl, sym, ap, ◌∙◌, Option, Some, None}
use Rattle.std.specs.Prelude.{if◌then◌else◌}
use Rattle.std.specs.List.{fold}
use Rattle.std.proofs.lemmas.Bool.{and_parts, and_from}
use Rattle.rendering_taxonomy.specs.Formats.{looks_like}
use Rattle.rendering_taxonomy.specs.declared.formatting.Display.{Display}
use Rattle.rendering_taxonomy.specs.declared.formatting.Formatting.{Formatting}
use Rattle.rendering_taxonomy.proofs.Indices.{Decides-looks_like}
use Rattle.rendering_tree.specs.Laws.{says_something, begins_alike, joins, is_normal_child, is_normal, Bracket, of_mark, of_element, are_nested, SimplifiedIsNormal, TreeOfNestedIsNormal, NormalTreesAreOne}
use Rattle.rendering_tree.specs.Metas.{Meta}
use Rattle.rendering_tree.specs.Tokens.{Token, letter, formula, link, transparent, opening, closing, mark, unmark}
use Rattle.rendering_tree.specs.Trees.{Child, Children, Text, Elem, Markup, Link, Transparent, nothing, before, flat, Nest, before_text, element_read, take_token, tree_of, simplified}
use Rattle.rendering_tree.proofs.TreesReading.{letters_before, child_before, all_before, simplified_is, keeps_tokens}

-- what the normal form of a list says of its first and of the others
pub record Normals (x : Child) (xs : Children) : Type 0 where
  pub first : is_normal_child x ≡ true
  pub apart : not (joins x xs) ≡ true
  pub others : is_normal xs ≡ true

pub normals : (x : Child) (xs : Children) → is_normal (before x xs) ≡ true → Normals x xs
normals x xs h =
    let p = and_parts (is_normal_child x && not (joins x xs)) (is_normal xs) h in
    let q = and_parts (is_normal_child x) (not (joins x xs)) p.0 in
    record { first = q.0; apart = q.1; others = p.1 }

pub normal_from : (x : Child) (xs : Children) → is_normal_child x ≡ true → not (joins x xs) ≡ true → is_normal xs ≡ true → is_normal (before x xs) ≡ true
normal_from x xs a b c = and_from (is_normal_child x && not (joins x xs)) (is_normal xs) (and_from (is_normal_child x) (not (joins x xs)) a b) c

normal-joined : (f g : Formatting) (c : ℕ) (cs : List ℕ) (xs : Children) (b : Bool) → looks_like f g ≡ b → is_normal (before (Text g cs) xs) ≡ true
    → is_normal (if b then before (Text g (c ∷ cs)) xs else before (Text f (c ∷ [])) (before (Text g cs) xs)) ≡ true
normal-joined f g c cs xs true e h = let p = normals (Text g cs) xs h in normal_from (Text g (c ∷ cs)) xs refl p.apart p.others
normal-joined f g c cs xs false e h = normal_from (Text f (c ∷ [])) (before (Text g cs) xs) refl (ap not e) h

normal-before_text : (f : Formatting) (c : ℕ) (ys : Children) → is_normal ys ≡ true → is_normal (before_text f c ys) ≡ true
normal-before_text f c nothing h = refl
normal-before_text f c (before (Text g cs) xs) h = normal-joined f g c cs xs (looks_like f g) refl h
normal-before_text f c (before (Elem d m zs) xs) h = normal_from (Text f (c ∷ [])) (before (Elem d m zs) xs) refl refl h
normal-before_text f c (before (Markup cs) xs) h = normal_from (Text f (c ∷ [])) (before (Markup cs) xs) refl refl h
normal-before_text f c (before (Link g cs url) xs) h = normal_from (Text f (c ∷ [])) (before (Link g cs url) xs) refl refl h
normal-before_text f c (before (Transparent g n) xs) h = normal_from (Text f (c ∷ [])) (before (Transparent g n) xs) refl refl h

normal-letters_before : (f : Formatting) (cs : List ℕ) (ys : Children) → is_normal ys ≡ true → is_normal (letters_before f cs ys) ≡ true
normal-letters_before f [] ys h = h
normal-letters_before f (c ∷ cs) ys h = normal-before_text f c (letters_before f cs ys) (normal-letters_before f cs ys h)

mutual
  normal-child_before : (x : Child) (ys : Children) → is_normal ys ≡ true → is_normal (child_before x ys) ≡ true
  normal-child_before (Text f cs) ys h = normal-letters_before f cs ys h
  normal-child_before (Elem None None xs) ys h = normal-all_before xs ys h
  normal-child_before (Elem None (Some m) xs) ys h = normal_from (Elem None (Some m) (all_before xs nothing)) ys (normal-all_before xs nothing refl) refl h
  normal-child_before (Elem (Some d) None xs) ys h = normal_from (Elem (Some d) None (all_before xs nothing)) ys (normal-all_before xs nothing refl) refl h
  normal-child_before (Elem (Some d) (Some m) xs) ys h = normal_from (Elem (Some d) (Some m) (all_before xs nothing)) ys (normal-all_before xs nothing refl) refl h
  normal-child_before (Markup cs) ys h = normal_from (Markup cs) ys refl refl h
  normal-child_before (Link f cs url) ys h = normal_from (Link f cs url) ys refl refl h
  normal-child_before (Transparent f n) ys h = normal_from (Transparent f n) ys refl refl h

  normal-all_before : (xs ys : Children) → is_normal ys ≡ true → is_normal (all_before xs ys) ≡ true
  normal-all_before nothing ys h = h
  normal-all_before (before x xs) ys h = normal-child_before x (all_before xs ys) (normal-all_before xs ys h)

pub simplified_normal : SimplifiedIsNormal
simplified_normal xs = ap is_normal (simplified_is xs) ∙ normal-all_before xs nothing refl

-- what was read around an element
abbrev AreNormal : List Children → Type 0
AreNormal [] = Unit {0}
AreNormal (ys ∷ yss) = (is_normal ys ≡ true) × AreNormal yss

record NormalNest (n : Nest) : Type 0 where
  inside : is_normal n.inside ≡ true
  around : AreNormal n.around

normal-element_read : (d : Option Display) (m : Option Meta) (xs : Children) (around : List Children) → says_something d m ≡ true → is_normal xs ≡ true → AreNormal around
    → NormalNest (element_read d m xs around)
normal-element_read d m xs [] s h a = record { inside = normal_from (Elem d m xs) nothing (and_from (says_something d m) (is_normal xs) s h) refl refl; around = tt }
normal-element_read d m xs (ys ∷ yss) s h a = record { inside = normal_from (Elem d m xs) ys (and_from (says_something d m) (is_normal xs) s h) refl a.0; around = a.1 }

normal-read : (ts : List Token) (bs : List Bracket) (n : Nest) → are_nested ts bs ≡ true → NormalNest n → NormalNest (fold take_token n ts)
normal-read [] bs n e h = h
normal-read (letter f c ∷ ts) bs n e h = normal-read ts bs (take_token n (letter f c)) e (record { inside = normal-before_text f c n.inside h.inside; around = h.around })
normal-read (formula cs ∷ ts) bs n e h = normal-read ts bs (take_token n (formula cs)) e (record { inside = normal_from (Markup cs) n.inside refl refl h.inside; around = h.around })
normal-read (link f cs url ∷ ts) bs n e h =
    normal-read ts bs (take_token n (link f cs url)) e (record { inside = normal_from (Link f cs url) n.inside refl refl h.inside; around = h.around })
normal-read (transparent f k ∷ ts) bs n e h =
    normal-read ts bs (take_token n (transparent f k)) e (record { inside = normal_from (Transparent f k) n.inside refl refl h.inside; around = h.around })
normal-read (closing ∷ ts) bs n e h = normal-read ts (of_element ∷ bs) (take_token n closing) e (record { inside = refl; around = (h.inside, h.around) })
normal-read (unmark ∷ ts) bs n e h = normal-read ts (of_mark ∷ bs) n e h
normal-read (opening d m ∷ ts) [] n e h = absurd (true≢false (sym ((and_parts (says_something d m) false e).1)))
normal-read (opening d m ∷ ts) (of_mark ∷ bs) n e h = absurd (true≢false (sym ((and_parts (says_something d m) false e).1)))
normal-read (opening d m ∷ ts) (of_element ∷ bs) n e h =
    let p = and_parts (says_something d m) (are_nested ts bs) e in
    normal-read ts bs (take_token n (opening d m)) p.1 (normal-element_read d m n.inside n.around p.0 h.inside h.around)
normal-read (mark ∷ ts) [] n e h = absurd (true≢false (sym e))
normal-read (mark ∷ ts) (of_mark ∷ bs) n e h = normal-read ts bs n e h
normal-read (mark ∷ ts) (of_element ∷ bs) n e h = absurd (true≢false (sym e))

pub handed_out : TreeOfNestedIsNormal
handed_out ts e = (normal-read ts [] (record { inside = nothing; around = [] }) e (record { inside = refl; around = tt })).inside

one_before : (f : Formatting) (c : ℕ) (ys : Children) → begins_alike f ys ≡ false → before_text f c ys ≡ before (Text f (c ∷ [])) ys
one_before f c nothing e = refl
one_before f c (before (Text g ds) ys) e = ap (λ b. if b then before (Text g (c ∷ ds)) ys else before (Text f (c ∷ [])) (before (Text g ds) ys)) e
one_before f c (before (Elem d m zs) ys) e = refl
one_before f c (before (Markup cs) ys) e = refl
one_before f c (before (Link g cs url) ys) e = refl
one_before f c (before (Transparent g n) ys) e = refl

-- a text that looks otherwise than what comes after it stays by itself
text_before : (f : Formatting) (c : ℕ) (cs : List ℕ) (ys : Children) → begins_alike f ys ≡ false → letters_before f (c ∷ cs) ys ≡ before (Text f (c ∷ cs)) ys
text_before f c [] ys e = one_before f c ys e
text_before f c (d ∷ cs) ys e =
    ap (before_text f c) (text_before f d cs ys e)
    ∙ ap (λ b. if b then before (Text f (c ∷ d ∷ cs)) ys else before (Text f (c ∷ [])) (before (Text f (d ∷ cs)) ys)) ((Decides-looks_like f f).1 refl)

not_true : (b : Bool) → not b ≡ true → b ≡ false
not_true true e = sym e
not_true false e = refl

mutual
  same_child : (x : Child) (ys : Children) → is_normal_child x ≡ true → not (joins x ys) ≡ true → child_before x ys ≡ before x ys
  same_child (Text f []) ys h a = absurd (true≢false (sym h))
  same_child (Text f (c ∷ cs)) ys h a = text_before f c cs ys (not_true (begins_alike f ys) a)
  same_child (Elem None None xs) ys h a = absurd (true≢false (sym h))
  same_child (Elem None (Some m) xs) ys h a = ap (λ zs. before (Elem None (Some m) zs) ys) (same_all xs h)
  same_child (Elem (Some d) None xs) ys h a = ap (λ zs. before (Elem (Some d) None zs) ys) (same_all xs h)
  same_child (Elem (Some d) (Some m) xs) ys h a = ap (λ zs. before (Elem (Some d) (Some m) zs) ys) (same_all xs h)
  same_child (Markup cs) ys h a = refl
  same_child (Link f cs url) ys h a = refl
  same_child (Transparent f n) ys h a = refl

  same_all : (xs : Children) → is_normal xs ≡ true → all_before xs nothing ≡ xs
  same_all nothing h = refl
  same_all (before x xs) h = let p = normals x xs h in ap (child_before x) (same_all xs p.others) ∙ same_child x xs p.first p.apart

pub one_tree : NormalTreesAreOne
one_tree xs ys h k e = sym (same_all xs h) ∙ sym (simplified_is xs) ∙ ap tree_of e ∙ simplified_is ys ∙ same_all ys k

-- a tree in its normal form with the tokens of another one is that one, simplified
pub is_simplified : (xs ys : Children) → is_normal xs ≡ true → flat xs ≡ flat ys → xs ≡ simplified ys
is_simplified xs ys h e = one_tree xs (simplified ys) h (simplified_normal ys) (e ∙ sym (keeps_tokens ys))

-- a tree in its normal form is what it is simplified to
pub stays : (xs : Children) → is_normal xs ≡ true → xs ≡ simplified xs
stays xs h = is_simplified xs xs h refl
