-- A space after the last text.
use Rattle.std.proofs.Common.{◌≡◌, ℕ, ◌+◌, ◌-◌, ◌<◌, ◌≤◌, Bool, true, false, ◌||◌, true≢false, List, [], ◌∷◌, ◌++◌, length, take, drop, get_or, set, append-nil, append_assoc, refl, sym, ap, subst, ◌∙◌, arith, Option, Some, None}
use Rattle.std.proofs.lemmas.List.{drop_more, drop_all, drop-set, take-set, take-append-drop, get_or-set_other}
use Rattle.laws.specs.Characters.{space}
use Rattle.rendering_taxonomy.specs.declared.formatting.Display.{Display}
use Rattle.rendering_taxonomy.specs.declared.formatting.Formatting.{Formatting}
use Rattle.rendering_tree.specs.Metas.{Meta}
use Rattle.rendering_tree.specs.Tokens.{Token, letter, formula, link, transparent, opening, closing, mark, unmark, with_letters, with_letter_after}
use Rattle.rendering_tree.specs.Trees.{Children, Elem, flat, flat_child}
use Rattle.rendering_tree.specs.Views.{child_view, children_view}
use Rattle.rendering_tree.specs.declared.element.ElemChild.{ElemChild}
use Rattle.rendering_tree.proofs.TreesReading.{with_letters-both}
use Rattle.laws.specs.Text.{is_filled}
use Rattle.rendering.specs.Ends.{has_end}

-- where something is printed last the space stands after that
pub after_end : (c : ℕ) (ts us : List Token) → has_end ts ≡ true → with_letter_after c (ts ++ us) ≡ with_letter_after c ts ++ us
after_end c [] us e = absurd (true≢false (sym e))
after_end c (letter f d ∷ ts) us e = refl
after_end c (formula cs ∷ ts) us e = refl
after_end c (link f cs url ∷ ts) us e = refl
after_end c (transparent f n ∷ ts) us e = refl
after_end c (opening d m ∷ ts) us e = ap (λ vs. opening d m ∷ vs) (after_end c ts us e)
after_end c (closing ∷ ts) us e = ap (λ vs. closing ∷ vs) (after_end c ts us e)
after_end c (mark ∷ ts) us e = ap (λ vs. mark ∷ vs) (after_end c ts us e)
after_end c (unmark ∷ ts) us e = ap (λ vs. unmark ∷ vs) (after_end c ts us e)

-- where nothing is it stands after what comes before
pub before_none : (c : ℕ) (ts us : List Token) → has_end ts ≡ false → with_letter_after c (ts ++ us) ≡ ts ++ with_letter_after c us
before_none c [] us e = refl
before_none c (letter f d ∷ ts) us e = absurd (true≢false e)
before_none c (formula cs ∷ ts) us e = absurd (true≢false e)
before_none c (link f cs url ∷ ts) us e = absurd (true≢false e)
before_none c (transparent f n ∷ ts) us e = absurd (true≢false e)
before_none c (opening d m ∷ ts) us e = ap (λ vs. opening d m ∷ vs) (before_none c ts us e)
before_none c (closing ∷ ts) us e = ap (λ vs. closing ∷ vs) (before_none c ts us e)
before_none c (mark ∷ ts) us e = ap (λ vs. mark ∷ vs) (before_none c ts us e)
before_none c (unmark ∷ ts) us e = ap (λ vs. unmark ∷ vs) (before_none c ts us e)

pub none_same : (c : ℕ) (ts : List Token) → has_end ts ≡ false → with_letter_after c ts ≡ ts
none_same c ts e = ap (with_letter_after c) (sym (append-nil ts)) ∙ before_none c ts [] e ∙ append-nil ts

pub has_end-append : (ts us : List Token) → has_end (ts ++ us) ≡ has_end ts || has_end us
has_end-append [] us = refl
has_end-append (letter f d ∷ ts) us = refl
has_end-append (formula cs ∷ ts) us = refl
has_end-append (link f cs url ∷ ts) us = refl
has_end-append (transparent f n ∷ ts) us = refl
has_end-append (opening d m ∷ ts) us = has_end-append ts us
has_end-append (closing ∷ ts) us = has_end-append ts us
has_end-append (mark ∷ ts) us = has_end-append ts us
has_end-append (unmark ∷ ts) us = has_end-append ts us

-- the start of an element stays where it is
after_opening : (c : ℕ) (d : Option Display) (m : Option Meta) (ts : List Token) → with_letter_after c (ts ++ opening d m ∷ []) ≡ with_letter_after c ts ++ opening d m ∷ []
after_opening c d m [] = refl
after_opening c d m (letter f e ∷ ts) = refl
after_opening c d m (formula cs ∷ ts) = refl
after_opening c d m (link f cs url ∷ ts) = refl
after_opening c d m (transparent f n ∷ ts) = refl
after_opening c d m (opening e n ∷ ts) = ap (λ vs. opening e n ∷ vs) (after_opening c d m ts)
after_opening c d m (closing ∷ ts) = ap (λ vs. closing ∷ vs) (after_opening c d m ts)
after_opening c d m (mark ∷ ts) = ap (λ vs. mark ∷ vs) (after_opening c d m ts)
after_opening c d m (unmark ∷ ts) = ap (λ vs. unmark ∷ vs) (after_opening c d m ts)

pub or_false : (b : Bool) → b || false ≡ b
or_false true = refl
or_false false = refl

around : (d : Option Display) (m : Option Meta) (ts us : List Token) → us ≡ with_letter_after space ts → closing ∷ us ++ opening d m ∷ [] ≡ with_letter_after space (closing ∷ ts ++ opening d m ∷ [])
around d m ts us e = ap (λ vs. closing ∷ vs ++ opening d m ∷ []) e ∙ ap (λ vs. closing ∷ vs) (sym (after_opening space d m ts))

-- in an element
pub element_spaced : (d : Option Display) (m : Option Meta) (xs ys : Children) → flat ys ≡ with_letter_after space (flat xs) → flat_child (Elem d m ys) ≡ with_letter_after space (flat_child (Elem d m xs))
element_spaced None None xs ys e = e
element_spaced None (Some m) xs ys e = around None (Some m) (flat xs) (flat ys) e
element_spaced (Some d) None xs ys e = around (Some d) None (flat xs) (flat ys) e
element_spaced (Some d) (Some m) xs ys e = around (Some d) (Some m) (flat xs) (flat ys) e

-- the same where what the element says of itself is as it was
pub element_as : (d e : Option Display) (m n : Option Meta) (xs ys : Children) → e ≡ d → n ≡ m → flat ys ≡ with_letter_after space (flat xs)
    → flat_child (Elem e n ys) ≡ with_letter_after space (flat_child (Elem d m xs))
element_as d e m n xs ys f g h = (λ i. flat_child (Elem (f i) (g i) ys)) ∙ element_spaced d m xs ys h

pub element_end : (d : Option Display) (m : Option Meta) (xs : Children) → has_end (flat_child (Elem d m xs)) ≡ has_end (flat xs)
element_end None None xs = refl
element_end None (Some m) xs = has_end-append (flat xs) (opening None (Some m) ∷ []) ∙ or_false (has_end (flat xs))
element_end (Some d) None xs = has_end-append (flat xs) (opening (Some d) None ∷ []) ∙ or_false (has_end (flat xs))
element_end (Some d) (Some m) xs = has_end-append (flat xs) (opening (Some d) (Some m) ∷ []) ∙ or_false (has_end (flat xs))

-- after a text
letter_last : (f : Formatting) (c : ℕ) (cs : List ℕ) (ts : List Token) → with_letter_after space (with_letters f cs (letter f c ∷ ts)) ≡ letter f space ∷ with_letters f cs (letter f c ∷ ts)
letter_last f c [] ts = refl
letter_last f c (d ∷ cs) ts = letter_last f d cs (letter f c ∷ ts)

letter_end : (f : Formatting) (c : ℕ) (cs : List ℕ) (ts : List Token) → has_end (with_letters f cs (letter f c ∷ ts)) ≡ true
letter_end f c [] ts = refl
letter_end f c (d ∷ cs) ts = letter_end f d cs (letter f c ∷ ts)

pub text_spaced : (f : Formatting) (cs ds : List ℕ) → is_filled cs ≡ true → ds ≡ cs ++ space ∷ [] → with_letters f ds [] ≡ with_letter_after space (with_letters f cs [])
text_spaced f [] ds e h = absurd (true≢false (sym e))
text_spaced f (c ∷ cs) ds e h = ap (λ bs. with_letters f bs []) h ∙ with_letters-both f (c ∷ cs) (space ∷ []) ∙ sym (letter_last f c cs [])

pub text_end : (f : Formatting) (cs : List ℕ) → has_end (with_letters f cs []) ≡ is_filled cs
text_end f [] = refl
text_end f (c ∷ cs) = letter_end f c cs []

-- children
pub flat-append : (xs ys : List ElemChild) → flat (children_view (xs ++ ys)) ≡ flat (children_view ys) ++ flat (children_view xs)
flat-append [] ys = sym (append-nil (flat (children_view ys)))
flat-append (x ∷ xs) ys = ap (λ ts. ts ++ flat_child (child_view x)) (flat-append xs ys) ∙ append_assoc (flat (children_view ys)) (flat (children_view xs)) (flat_child (child_view x))

pub parts : (xs : List ElemChild) (i : ℕ) → flat (children_view xs) ≡ flat (children_view (drop i xs)) ++ flat (children_view (take i xs))
parts xs i = ap (λ ys. flat (children_view ys)) (sym (take-append-drop i xs)) ∙ flat-append (take i xs) (drop i xs)

-- Nothing is printed by the children from an index on; the others are as they were, or print the same.
pub record Spacing (old xs : List ElemChild) (i : ℕ) : Type 0 where
  pub same : flat (children_view xs) ≡ flat (children_view old)
  pub passed : has_end (flat (children_view (drop i xs))) ≡ false

-- at first
pub spacing_begins : (xs : List ElemChild) (i : ℕ) → length xs ≤ i → Spacing xs xs i
spacing_begins xs i all = record { same = refl; passed = ap (λ ys. has_end (flat (children_view ys))) (drop_all i xs all) }

-- after all children
pub spacing_ends : (old xs : List ElemChild) → Spacing old xs 0 → (false ≡ has_end (flat (children_view old))) × (flat (children_view xs) ≡ with_letter_after space (flat (children_view old)))
spacing_ends old xs s =
    let none : has_end (flat (children_view old)) ≡ false = ap has_end (sym s.same) ∙ s.passed in
    (sym none, s.same ∙ sym (none_same space (flat (children_view old)) none))

-- the same where the index of the first child is reached
pub spacing_at_end : (old xs : List ElemChild) (i : ℕ) → Spacing old xs i → i ≡ 0 → (false ≡ has_end (flat (children_view old))) × (flat (children_view xs) ≡ with_letter_after space (flat (children_view old)))
spacing_at_end old xs i s none = spacing_ends old xs (subst (λ (k : ℕ). Spacing old xs k) none s)

module _ (old xs : List ElemChild) (i : ℕ) (x y : ElemChild) (spacing : Spacing old xs (i + 1)) (less : i < length xs) (is : x ≡ get_or xs i x)
    (spaced : flat_child (child_view y) ≡ with_letter_after space (flat_child (child_view x))) where
  from : flat (children_view (drop i xs)) ≡ flat (children_view (drop (i + 1) xs)) ++ flat_child (child_view x)
  from = ap (λ ys. flat (children_view ys)) (drop_more xs i x less) ∙ ap (λ z. flat (children_view (drop (i + 1) xs)) ++ flat_child (child_view z)) (sym is)

  whole : flat (children_view old) ≡ (flat (children_view (drop (i + 1) xs)) ++ flat_child (child_view x)) ++ flat (children_view (take i xs))
  whole = sym spacing.same ∙ parts xs i ∙ ap (λ ts. ts ++ flat (children_view (take i xs))) from

  changed_from : flat (children_view (drop i (set xs i y))) ≡ flat (children_view (drop (i + 1) xs)) ++ flat_child (child_view y)
  changed_from = ap (λ ys. flat (children_view ys)) (drop-set xs i y less)

  changed : flat (children_view (set xs i y)) ≡ (flat (children_view (drop (i + 1) xs)) ++ flat_child (child_view y)) ++ flat (children_view (take i xs))
  changed = parts (set xs i y) i ∙ ap (λ ts. ts ++ flat (children_view (take i (set xs i y)))) changed_from
      ∙ ap (λ ys. (flat (children_view (drop (i + 1) xs)) ++ flat_child (child_view y)) ++ flat (children_view ys)) (take-set xs i y)

  end_here : (b : Bool) → has_end (flat_child (child_view x)) ≡ b → has_end (flat (children_view (drop (i + 1) xs)) ++ flat_child (child_view x)) ≡ b
  end_here b e = has_end-append (flat (children_view (drop (i + 1) xs))) (flat_child (child_view x)) ∙ ap (λ c. c || has_end (flat_child (child_view x))) spacing.passed ∙ e

  -- a child that prints something has the space
  pub found : has_end (flat_child (child_view x)) ≡ true → (true ≡ has_end (flat (children_view old))) × (flat (children_view (set xs i y)) ≡ with_letter_after space (flat (children_view old)))
  found e =
      let a = flat (children_view (drop (i + 1) xs)) in
      let b = flat (children_view (take i xs)) in (
        sym (ap has_end whole ∙ has_end-append (a ++ flat_child (child_view x)) b ∙ ap (λ c. c || has_end b) (end_here true e)),
        changed
            ∙ ap (λ ts. (a ++ ts) ++ b) spaced
            ∙ ap (λ ts. ts ++ b) (sym (before_none space a (flat_child (child_view x)) spacing.passed))
            ∙ sym (after_end space (a ++ flat_child (child_view x)) b (end_here true e))
            ∙ ap (with_letter_after space) (sym whole),
      )

  -- where a child prints nothing, those before it are asked
  pub passed_on : has_end (flat_child (child_view x)) ≡ false → Spacing old (set xs i y) i
  passed_on e =
      let a = flat (children_view (drop (i + 1) xs)) in
      let b = flat (children_view (take i xs)) in
      let same : flat_child (child_view y) ≡ flat_child (child_view x) = spaced ∙ none_same space (flat_child (child_view x)) e in
      record {
        same = changed ∙ ap (λ ts. (a ++ ts) ++ b) same ∙ sym whole;
        passed = ap has_end (changed_from ∙ ap (λ ts. a ++ ts) same) ∙ end_here false e;
      }

-- the same, of the child before an index
spacing_at : (old xs : List ElemChild) (i : ℕ) → Spacing old xs i → 0 < i → Spacing old xs (i - 1 + 1)
spacing_at old xs i s some =
    let same : i ≡ i - 1 + 1 = omega arith in
    subst (λ (k : ℕ). Spacing old xs k) same s

pub found_before : (old xs : List ElemChild) (i : ℕ) (x y : ElemChild) → Spacing old xs i → 0 < i → i ≤ length xs → x ≡ get_or xs (i - 1) x
    → flat_child (child_view y) ≡ with_letter_after space (flat_child (child_view x)) → has_end (flat_child (child_view x)) ≡ true
    → (true ≡ has_end (flat (children_view old))) × (flat (children_view (set xs (i - 1) y)) ≡ with_letter_after space (flat (children_view old)))
found_before old xs i x y s some below is spaced e = found old xs (i - 1) x y (spacing_at old xs i s some) (omega arith) is spaced e

pub passed_before : (old xs : List ElemChild) (i : ℕ) (x y : ElemChild) → Spacing old xs i → 0 < i → i ≤ length xs → x ≡ get_or xs (i - 1) x
    → flat_child (child_view y) ≡ with_letter_after space (flat_child (child_view x)) → has_end (flat_child (child_view x)) ≡ false
    → Spacing old (set xs (i - 1) y) (i - 1)
passed_before old xs i x y s some below is spaced e = passed_on old xs (i - 1) x y (spacing_at old xs i s some) (omega arith) is spaced e

-- the children before it are as they were
pub others_before : (old xs : List ElemChild) (i : ℕ) (y : ElemChild) → 0 < i → ((k : ℕ) (d : ElemChild) → k < i → get_or xs k d ≡ get_or old k d)
    → (k : ℕ) (d : ElemChild) → k < i - 1 → get_or (set xs (i - 1) y) k d ≡ get_or old k d
others_before old xs i y some h k d less = get_or-set_other xs (i - 1) k y d (λ same. omega (arith, same, less)) ∙ h k d (omega (arith, less))
