-- Trees are spelled by other pieces that give the same text.
use Rattle.std.proofs.Common.{◌≡◌, ◌⊎◌, inl, inr, ⊎_elim, ℕ, List, [], ◌∷◌, ◌++◌, length, Ok, Result, refl, sym, ap, ◌∙◌, subst, arith, append_assoc, length-append}
use Rattle.xml_text.specs.Tokens.{At, Token, Start, End, Characters, Refers, Section, Nothing}
use Rattle.xml_text.specs.Values.{character_of}
use Rattle.xml_tree.specs.Trees.{Element, Tagged, Content, Last, Next}
use Rattle.xml_tree.specs.Scope.{Scope, unbound, over}
use Rattle.xml_tree.specs.Grammar.{IsTextOf, AreTextOf, IsText, IsElement, IsContent, AreOutside, IsDocument}

abbrev Tokens : Type 0
Tokens = List (At Token)

-- ---- lists that are put together in two ways

pub parted : {A : Type 0} (run a p s : List A) → run ++ a ≡ p ++ s
    → ((m : List A) × (run ≡ p ++ m) × (s ≡ m ++ a)) ⊎ ((x : A) × (m : List A) × (p ≡ run ++ (x ∷ m)) × (a ≡ x ∷ m ++ s))
parted run a [] s e = inl (run, refl, sym e)
parted [] a (x ∷ p) s e = inr (x, p, refl, e)
parted {A} (r ∷ run) a (x ∷ p) s e =
    let heads : r ≡ x = cc in
    let tails : run ++ a ≡ p ++ s = cc in
    ⊎_elim
    (λ (k : (m : List A) × (run ≡ p ++ m) × (s ≡ m ++ a)). inl (k.0, (λ j. heads j ∷ k.1 j), k.2))
    (λ (k : (y : A) × (m : List A) × (p ≡ run ++ (y ∷ m)) × (a ≡ y ∷ m ++ s)). inr (k.0, k.1, (λ j. sym heads j ∷ k.2 j), k.3))
    (parted run a p s tails)

-- ---- texts

abbrev IsTag : Token → Type 0
IsTag (Start tag) = Unit {0}
IsTag (End name) = Unit {0}
IsTag (Characters cs) = ⊥
IsTag (Refers r) = ⊥
IsTag (Section cs) = ⊥
IsTag Nothing = ⊥

no_text : (k : Token) (t : List ℕ) → IsTag k → IsTextOf k t → ⊥
no_text (Start tag) t is text = text
no_text (End name) t is text = text
no_text (Characters cs) t is text = is
no_text (Refers r) t is text = is
no_text (Section cs) t is text = is
no_text Nothing t is text = is

one_character : {F : Type 0} (r : Result ℕ F) (c d : ℕ) → r ≡ Ok c → r ≡ Ok d → c ≡ d
one_character r c d e f = cc

one_piece : (k : Token) (t u : List ℕ) → IsTextOf k t → IsTextOf k u → t ≡ u
one_piece (Start tag) t u a b = absurd a
one_piece (End name) t u a b = absurd a
one_piece (Characters cs) t u a b = a ∙ sym b
one_piece (Refers r) t u (c, is, a) (d, too, b) = a ∙ (ap (λ (k : ℕ). k ∷ []) (one_character (character_of r) c d is too) ∙ sym b)
one_piece (Section cs) t u a b = a ∙ sym b
one_piece Nothing t u a b = a ∙ sym b

one_text : (xs : Tokens) (t u : List ℕ) → AreTextOf xs t → AreTextOf xs u → t ≡ u
one_text [] t u a b = a ∙ sym b
one_text (x ∷ xs) t u (a, b, p, q, e) (c, d, r, s, f) = e ∙ ((λ j. one_piece x.v a c p r j ++ one_text xs b d q s j) ∙ sym f)

text_parts : (xs ys : Tokens) (t : List ℕ) → AreTextOf (xs ++ ys) t → (a : List ℕ) × (b : List ℕ) × AreTextOf xs a × AreTextOf ys b × (t ≡ a ++ b)
text_parts [] ys t all = ([], t, refl, all, refl)
text_parts (x ∷ xs) ys t (a, b, p, q, e) =
    let k : (c : List ℕ) × (d : List ℕ) × AreTextOf xs c × AreTextOf ys d × (b ≡ c ++ d) = text_parts xs ys b q in
    (a ++ k.0, k.1, (a, k.0, p, k.2, refl), k.3, e ∙ (ap (λ (u : List ℕ). a ++ u) k.4 ∙ sym (append_assoc a k.0 k.1)))

text_joined : (xs ys : Tokens) (a b : List ℕ) → AreTextOf xs a → AreTextOf ys b → AreTextOf (xs ++ ys) (a ++ b)
text_joined [] ys a b p q = subst (AreTextOf ys) (ap (λ (u : List ℕ). u ++ b) (sym p)) q
text_joined (x ∷ xs) ys a b (c, d, p, q, e) r = (c, d ++ b, p, text_joined xs ys d b q r, ap (λ (u : List ℕ). u ++ b) e ∙ append_assoc c d b)

-- no tag is among pieces of a text
among_text : (xs : Tokens) (x : At Token) (ys : Tokens) (t : List ℕ) → IsTag x.v → AreTextOf (xs ++ (x ∷ ys)) t → ⊥
among_text [] x ys t is (a, b, p, q, e) = no_text x.v a is p
among_text (y ∷ xs) x ys t is (a, b, p, q, e) = among_text xs x ys b is q

begins_element : (scope : Scope) (ts : Tokens) (e : Element) (rest : Tokens) → IsElement scope ts e rest → (x : At Token) × (more : Tokens) × (ts ≡ x ∷ more) × IsTag x.v
begins_element scope ts (Tagged left name attributes content) rest (tag, x, inside, is, says, names, all, others) = (record { v = Start tag; left = left }, inside, is, tt)

-- ---- pieces in place of others, with these tokens behind them
module _ (old new s : Tokens) (t : List ℕ) (o : AreTextOf old t) (n : AreTextOf new t) where
  replaced : (p m : Tokens) (u : List ℕ) → AreTextOf (p ++ (old ++ m)) u → AreTextOf (p ++ (new ++ m)) u
  replaced p m u all =
      let k : (a : List ℕ) × (b : List ℕ) × AreTextOf p a × AreTextOf (old ++ m) b × (u ≡ a ++ b) = text_parts p (old ++ m) u all in
      let l : (c : List ℕ) × (d : List ℕ) × AreTextOf old c × AreTextOf m d × (k.1 ≡ c ++ d) = text_parts old m k.1 k.3 in
      let same : t ++ l.1 ≡ k.1 = ap (λ (v : List ℕ). v ++ l.1) (one_text old t l.0 o l.2) ∙ sym l.4 in
      subst (AreTextOf (p ++ (new ++ m))) (ap (λ (v : List ℕ). k.0 ++ v) same ∙ sym k.4) (text_joined p (new ++ m) k.0 (t ++ l.1) k.2 (text_joined new m t l.1 n l.3))

  -- a text that ends before a tag: the pieces are in it, or behind that tag
  text_either : (ts : Tokens) (u : List ℕ) (a : Tokens) (x : At Token) (more : Tokens) → IsText ts u a → a ≡ x ∷ more → IsTag x.v → (p : Tokens) → ts ≡ p ++ (old ++ s)
      → IsText (p ++ (new ++ s)) u a ⊎ ((m : Tokens) × (more ≡ m ++ (old ++ s)) × IsText (p ++ (new ++ s)) u (x ∷ m ++ (new ++ s)))
  text_either ts u a x more (run, split, are) begins tag p is =
      ⊎_elim
      (λ (k : (m : Tokens) × (run ≡ p ++ m) × (old ++ s ≡ m ++ a)). ⊎_elim (within k) (beside k) (parted k.0 a old s (sym k.2)))
      (λ (k : (y : At Token) × (m : Tokens) × (p ≡ run ++ (y ∷ m)) × (a ≡ y ∷ m ++ (old ++ s))). inr (behind k))
      (parted run a p (old ++ s) (sym split ∙ is))
    where
      within : (k : (m : Tokens) × (run ≡ p ++ m) × (old ++ s ≡ m ++ a)) → (l : Tokens) × (k.0 ≡ old ++ l) × (s ≡ l ++ a)
          → IsText (p ++ (new ++ s)) u a ⊎ ((m : Tokens) × (more ≡ m ++ (old ++ s)) × IsText (p ++ (new ++ s)) u (x ∷ m ++ (new ++ s)))
      within k (l, e, f) =
          let whole : run ≡ p ++ (old ++ l) = k.1 ∙ ap (λ (z : Tokens). p ++ z) e in
          let text : AreTextOf (p ++ (new ++ l)) u = replaced p l u (subst (λ (z : Tokens). AreTextOf z u) whole are) in
          let same : p ++ (new ++ s) ≡ (p ++ (new ++ l)) ++ a =
          ap (λ (z : Tokens). p ++ (new ++ z)) f ∙ (ap (λ (z : Tokens). p ++ z) (sym (append_assoc new l a)) ∙ sym (append_assoc p (new ++ l) a)) in
          inl (p ++ (new ++ l), same, text)

      beside : (k : (m : Tokens) × (run ≡ p ++ m) × (old ++ s ≡ m ++ a)) → (y : At Token) × (l : Tokens) × (old ≡ k.0 ++ (y ∷ l)) × (a ≡ y ∷ l ++ s)
          → IsText (p ++ (new ++ s)) u a ⊎ ((m : Tokens) × (more ≡ m ++ (old ++ s)) × IsText (p ++ (new ++ s)) u (x ∷ m ++ (new ++ s)))
      beside k (y, l, e, f) =
          let heads : x ∷ more ≡ y ∷ l ++ s = sym begins ∙ f in
          let same : x ≡ y = cc in
          absurd (among_text k.0 y l t (subst (λ (z : At Token). IsTag z.v) same tag) (subst (λ (z : Tokens). AreTextOf z t) e o))

      behind : (y : At Token) × (m : Tokens) × (p ≡ run ++ (y ∷ m)) × (a ≡ y ∷ m ++ (old ++ s)) → (m : Tokens) × (more ≡ m ++ (old ++ s)) × IsText (p ++ (new ++ s)) u (x ∷ m ++ (new ++ s))
      behind (y, m, e, f) =
          let heads : x ∷ more ≡ y ∷ m ++ (old ++ s) = sym begins ∙ f in
          let same : y ≡ x = cc in
          let rest : more ≡ m ++ (old ++ s) = cc in
          let whole : p ++ (new ++ s) ≡ run ++ (x ∷ m ++ (new ++ s)) =
          ap (λ (z : Tokens). z ++ (new ++ s)) e ∙ (append_assoc run (y ∷ m) (new ++ s) ∙ ap (λ (z : At Token). run ++ (z ∷ m ++ (new ++ s))) same) in
          (m, rest, (run, whole, are))

  mutual
    element_either : (scope : Scope) (ts : Tokens) (e : Element) (rest : Tokens) → IsElement scope ts e rest → (x : At Token) (p : Tokens) → ts ≡ x ∷ p ++ (old ++ s)
        → IsElement scope (x ∷ p ++ (new ++ s)) e rest ⊎ ((m : Tokens) × (rest ≡ m ++ (old ++ s)) × IsElement scope (x ∷ p ++ (new ++ s)) e (m ++ (new ++ s)))
    element_either scope ts (Tagged left name attributes content) rest (tag, y, inside, is, says, names, all, inl (empty, none, ends)) x p at =
        let heads : x ∷ p ++ (old ++ s) ≡ record { v = Start tag; left = left } ∷ inside = sym at ∙ is in
        let same : x ≡ record { v = Start tag; left = left } = cc in
        let rests : inside ≡ p ++ (old ++ s) = cc in
        inr (p, sym ends ∙ rests, (tag, y, p ++ (new ++ s), ap (λ (z : At Token). z ∷ p ++ (new ++ s)) same, says, names, all, inl (empty, none, refl)))
    element_either scope ts (Tagged left name attributes content) rest (tag, y, inside, is, says, names, all, inr (filled, (place, end, content_is, closes))) x p at =
        let heads : x ∷ p ++ (old ++ s) ≡ record { v = Start tag; left = left } ∷ inside = sym at ∙ is in
        let same : x ≡ record { v = Start tag; left = left } = cc in
        let rests : inside ≡ p ++ (old ++ s) = cc in
        let begins : x ∷ p ++ (new ++ s) ≡ record { v = Start tag; left = left } ∷ p ++ (new ++ s) = ap (λ (z : At Token). z ∷ p ++ (new ++ s)) same in
        ⊎_elim
        (λ k. inl (tag, y, p ++ (new ++ s), begins, says, names, all, inr (filled, (place, end, k, closes))))
        (λ k. inr (k.0, k.1, (tag, y, p ++ (new ++ s), begins, says, names, all, inr (filled, (place, end, k.2, closes)))))
        (content_either (over y.own scope) inside content (record { v = End end; left = place }) rest content_is tt p rests)

    content_either : (scope : Scope) (ts : Tokens) (c : Content) (y : At Token) (rest : Tokens) → IsContent scope ts c (y ∷ rest) → IsTag y.v → (p : Tokens) → ts ≡ p ++ (old ++ s)
        → IsContent scope (p ++ (new ++ s)) c (y ∷ rest) ⊎ ((m : Tokens) × (rest ≡ m ++ (old ++ s)) × IsContent scope (p ++ (new ++ s)) c (y ∷ m ++ (new ++ s)))
    content_either scope ts (Last u) y rest is tag p at = text_either ts u (y ∷ rest) y rest is refl tag p at
    content_either scope ts (Next u e c) y rest (a, b, text, element, more) tag p at =
        let k : (x : At Token) × (l : Tokens) × (a ≡ x ∷ l) × IsTag x.v = begins_element scope a e b element in
        ⊎_elim
        (λ first. inl (a, b, first, element, more))
        (λ first. ⊎_elim
        (λ second. inl (k.0 ∷ first.0 ++ (new ++ s), b, first.2, second, more))
        (λ second. ⊎_elim
        (λ third. inl (k.0 ∷ first.0 ++ (new ++ s), second.0 ++ (new ++ s), first.2, second.2, third))
        (λ third. inr (third.0, third.1, (k.0 ∷ first.0 ++ (new ++ s), second.0 ++ (new ++ s), first.2, second.2, third.2)))
        (content_either scope b c y rest more tag second.0 second.1))
        (element_either scope a e b element k.0 first.0 (k.2 ∙ ap (λ (z : Tokens). k.0 ∷ z) first.1)))
        (text_either ts u a k.0 k.1 text k.2 k.3 p at)

-- a list is no part of itself with more around it
too_long : (m old after : Tokens) (end : At Token) (rest : Tokens) → rest ≡ m ++ (old ++ (after ++ (end ∷ rest))) → ⊥
too_long m old after end rest e =
    let a = length-append m (old ++ (after ++ (end ∷ rest))) in
    let b = length-append old (after ++ (end ∷ rest)) in
    let c = length-append after (end ∷ rest) in
    let d : length rest ≡ length (m ++ (old ++ (after ++ (end ∷ rest)))) = ap length e in
    absurd (omega arith)

pub pieces_same : (scope : Scope) (e : Element) (start end : At Token) (before old new after rest : Tokens) (t : List ℕ) → AreTextOf old t → AreTextOf new t
    → IsElement scope (start ∷ before ++ (old ++ (after ++ end ∷ rest))) e rest → IsElement scope (start ∷ before ++ (new ++ (after ++ end ∷ rest))) e rest
pieces_same scope e start end before old new after rest t o n is =
    ⊎_elim
    (λ k. k)
    (λ k. absurd (too_long k.0 old after end rest k.1))
    (element_either old new (after ++ (end ∷ rest)) t o n scope (start ∷ before ++ (old ++ (after ++ end ∷ rest))) e rest is start before refl)

-- ---- comments

outside_more : (p s : Tokens) (left : ℕ) → AreOutside (p ++ s) → AreOutside (p ++ record { v = Nothing; left = left } ∷ s)
outside_more [] s left all = (tt, all)
outside_more (x ∷ p) s left (first, all) = (first, outside_more p s left all)

pub comments_nothing : (e : Element) (p s : Tokens) (left : ℕ) → IsDocument (p ++ s) e → IsDocument (p ++ record { v = Nothing; left = left } ∷ s) e
comments_nothing e p s left (before, root, behind, is, out, element, later) =
    ⊎_elim
    (λ (k : (m : Tokens) × (before ≡ p ++ m) × (s ≡ m ++ root)).
    (p ++ x ∷ k.0, root, behind, ap (λ (z : Tokens). p ++ x ∷ z) k.2 ∙ sym (append_assoc p (x ∷ k.0) root), outside_more p k.0 left (subst AreOutside k.1 out), element, later))
    (λ (k : (y : At Token) × (m : Tokens) × (p ≡ before ++ (y ∷ m)) × (root ≡ y ∷ m ++ s)). ⊎_elim
    (λ first. (before, k.0 ∷ k.1 ++ x ∷ s, behind, whole k, out, first, later))
    (λ first. (before, k.0 ∷ k.1 ++ x ∷ s, first.0 ++ x ∷ s, whole k, out, first.2, outside_more first.0 s left (subst AreOutside first.1 later)))
    (element_either [] (x ∷ []) s [] refl ([], [], refl, refl, refl) unbound root e behind element k.0 k.1 k.3))
    (parted before root p s (sym is))
  where
    x : At Token
    x = record { v = Nothing; left = left }

    whole : (k : (y : At Token) × (m : Tokens) × (p ≡ before ++ (y ∷ m)) × (root ≡ y ∷ m ++ s)) → p ++ x ∷ s ≡ before ++ (k.0 ∷ k.1 ++ x ∷ s)
    whole k = ap (λ (z : Tokens). z ++ x ∷ s) k.2 ∙ append_assoc before (k.0 ∷ k.1) (x ∷ s)
