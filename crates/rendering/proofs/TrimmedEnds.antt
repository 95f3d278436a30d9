-- Trees without the white space at their ends.
use Rattle.std.proofs.Common.{◌≡◌, ℕ, ◌+◌, ◌-◌, ◌<◌, ◌≤◌, Bool, true, false, ◌||◌, true≢false, List, [], ◌∷◌, ◌++◌, length, take, drop, get_or, set, append-nil, append_assoc, refl, sym, ap, subst, ◌∙◌, arith, Option, Some, None}
use Rattle.std.specs.Prelude.{if◌then◌else◌}
use Rattle.std.specs.Char.{is_whitespace}
use Rattle.std.specs.Str.{drop_trailing_whitespace}
use Rattle.std.proofs.lemmas.List.{drop_all, drop-set, take_all, take_more, take-set}
use Rattle.laws.specs.Text.{is_filled}
use Rattle.rendering_taxonomy.specs.declared.formatting.Display.{Display}
use Rattle.rendering_taxonomy.specs.declared.formatting.Formatting.{Formatting}
use Rattle.rendering_tree.specs.Metas.{Meta}
use Rattle.rendering_tree.specs.Tokens.{Token, letter, formula, link, transparent, opening, closing, mark, unmark, with_letters}
use Rattle.rendering_tree.specs.Trees.{Children, Elem, flat, flat_child}
use Rattle.rendering_tree.specs.Views.{child_view, children_view}
use Rattle.rendering_tree.specs.declared.element.ElemChild.{ElemChild}
use Rattle.rendering_page.proofs.CursorsTrimming.{one_more, more_blank, more_letter, more_filled}
use Rattle.rendering.specs.Ends.{has_end, trimmed}
use Rattle.rendering.proofs.Spacing.{flat-append, has_end-append, or_false, parts, text_end}

-- a character at the end, be it white space or not, of what is trimmed so that something is left
letter_stops : (b : Bool) (f : Formatting) (c : ℕ) (ts us : List Token) → has_end (if b then trimmed ts else letter f c ∷ ts) ≡ true → (has_end (trimmed ts) ≡ true → trimmed (ts ++ us) ≡ trimmed ts ++ us)
    → (if b then trimmed (ts ++ us) else letter f c ∷ (ts ++ us)) ≡ (if b then trimmed ts else letter f c ∷ ts) ++ us
letter_stops true f c ts us e rest = rest e
letter_stops false f c ts us e rest = refl

-- where something is left what comes before stays as it is
pub stops : (ts us : List Token) → has_end (trimmed ts) ≡ true → trimmed (ts ++ us) ≡ trimmed ts ++ us
stops [] us e = absurd (true≢false (sym e))
stops (letter f c ∷ ts) us e = letter_stops (is_whitespace c) f c ts us e (λ h. stops ts us h)
stops (formula cs ∷ ts) us e = refl
stops (link f cs url ∷ ts) us e = refl
stops (transparent f n ∷ ts) us e = refl
stops (opening d m ∷ ts) us e = ap (λ vs. opening d m ∷ vs) (stops ts us e)
stops (closing ∷ ts) us e = ap (λ vs. closing ∷ vs) (stops ts us e)
stops (mark ∷ ts) us e = ap (λ vs. mark ∷ vs) (stops ts us e)
stops (unmark ∷ ts) us e = ap (λ vs. unmark ∷ vs) (stops ts us e)

-- the same of what is trimmed so that nothing is left
letter_passes : (b : Bool) (f : Formatting) (c : ℕ) (ts us : List Token) → has_end (if b then trimmed ts else letter f c ∷ ts) ≡ false → (has_end (trimmed ts) ≡ false → trimmed (ts ++ us) ≡ trimmed ts ++ trimmed us)
    → (if b then trimmed (ts ++ us) else letter f c ∷ (ts ++ us)) ≡ (if b then trimmed ts else letter f c ∷ ts) ++ trimmed us
letter_passes true f c ts us e rest = rest e
letter_passes false f c ts us e rest = absurd (true≢false e)

-- where nothing is left what comes before is trimmed too
pub passes : (ts us : List Token) → has_end (trimmed ts) ≡ false → trimmed (ts ++ us) ≡ trimmed ts ++ trimmed us
passes [] us e = refl
passes (letter f c ∷ ts) us e = letter_passes (is_whitespace c) f c ts us e (λ h. passes ts us h)
passes (formula cs ∷ ts) us e = absurd (true≢false e)
passes (link f cs url ∷ ts) us e = absurd (true≢false e)
passes (transparent f n ∷ ts) us e = absurd (true≢false e)
passes (opening d m ∷ ts) us e = ap (λ vs. opening d m ∷ vs) (passes ts us e)
passes (closing ∷ ts) us e = ap (λ vs. closing ∷ vs) (passes ts us e)
passes (mark ∷ ts) us e = ap (λ vs. mark ∷ vs) (passes ts us e)
passes (unmark ∷ ts) us e = ap (λ vs. unmark ∷ vs) (passes ts us e)

-- the start of an element stays where it is
opening_if : (d : Option Display) (m : Option Meta) (ts : List Token) (b : Bool) → has_end (trimmed ts) ≡ b → trimmed (ts ++ opening d m ∷ []) ≡ trimmed ts ++ opening d m ∷ []
opening_if d m ts true e = stops ts (opening d m ∷ []) e
opening_if d m ts false e = passes ts (opening d m ∷ []) e

after_opening : (d : Option Display) (m : Option Meta) (ts : List Token) → trimmed (ts ++ opening d m ∷ []) ≡ trimmed ts ++ opening d m ∷ []
after_opening d m ts = opening_if d m ts (has_end (trimmed ts)) refl

around : (d : Option Display) (m : Option Meta) (ts us : List Token) → us ≡ trimmed ts → closing ∷ us ++ opening d m ∷ [] ≡ trimmed (closing ∷ ts ++ opening d m ∷ [])
around d m ts us e = ap (λ vs. closing ∷ vs ++ opening d m ∷ []) e ∙ ap (λ vs. closing ∷ vs) (sym (after_opening d m ts))

-- in an element
element_trimmed : (d : Option Display) (m : Option Meta) (xs ys : Children) → flat ys ≡ trimmed (flat xs) → flat_child (Elem d m ys) ≡ trimmed (flat_child (Elem d m xs))
element_trimmed None None xs ys e = e
element_trimmed None (Some m) xs ys e = around None (Some m) (flat xs) (flat ys) e
element_trimmed (Some d) None xs ys e = around (Some d) None (flat xs) (flat ys) e
element_trimmed (Some d) (Some m) xs ys e = around (Some d) (Some m) (flat xs) (flat ys) e

-- the same where what the element says of itself is as it was
pub element_as : (d e : Option Display) (m n : Option Meta) (xs ys : Children) → e ≡ d → n ≡ m → flat ys ≡ trimmed (flat xs) → flat_child (Elem e n ys) ≡ trimmed (flat_child (Elem d m xs))
element_as d e m n xs ys f g h = (λ i. flat_child (Elem (f i) (g i) ys)) ∙ element_trimmed d m xs ys h

left_around : (d : Option Display) (m : Option Meta) (ts : List Token) → has_end (trimmed (closing ∷ ts ++ opening d m ∷ [])) ≡ has_end (trimmed ts)
left_around d m ts = ap has_end (after_opening d m ts) ∙ has_end-append (trimmed ts) (opening d m ∷ []) ∙ or_false (has_end (trimmed ts))

pub element_left : (d : Option Display) (m : Option Meta) (xs : Children) → has_end (trimmed (flat_child (Elem d m xs))) ≡ has_end (trimmed (flat xs))
element_left None None xs = refl
element_left None (Some m) xs = left_around None (Some m) (flat xs)
element_left (Some d) None xs = left_around (Some d) None (flat xs)
element_left (Some d) (Some m) xs = left_around (Some d) (Some m) (flat xs)

-- a text of which so much is left, after what stands before it
abbrev rest_of : Formatting → List ℕ → List Token → List Token
rest_of f ds ts = if is_filled ds then with_letters f ds ts else trimmed ts

rest_more : (f : Formatting) (c : ℕ) (ds : List ℕ) (w : Bool) (ts : List Token) → is_whitespace c ≡ w → rest_of f ds (letter f c ∷ ts) ≡ rest_of f (one_more c ds) ts
rest_more f c [] true ts e = ap (λ b. if b then trimmed ts else letter f c ∷ ts) e ∙ ap (λ ds. rest_of f ds ts) (sym (more_blank c e))
rest_more f c [] false ts e = ap (λ b. if b then trimmed ts else letter f c ∷ ts) e ∙ ap (λ ds. rest_of f ds ts) (sym (more_letter c e))
rest_more f c (d ∷ ds) w ts e = ap (λ es. rest_of f es ts) (sym (more_filled c d ds))

letters_trimmed : (f : Formatting) (cs : List ℕ) (ts : List Token) → trimmed (with_letters f cs ts) ≡ rest_of f (drop_trailing_whitespace cs) ts
letters_trimmed f [] ts = refl
letters_trimmed f (c ∷ cs) ts = letters_trimmed f cs (letter f c ∷ ts) ∙ rest_more f c (drop_trailing_whitespace cs) (is_whitespace c) ts refl

rest_alone : (f : Formatting) (ds : List ℕ) → with_letters f ds [] ≡ rest_of f ds []
rest_alone f [] = refl
rest_alone f (d ∷ ds) = refl

-- of a text
pub text_trimmed : (f : Formatting) (cs ds : List ℕ) → ds ≡ drop_trailing_whitespace cs → with_letters f ds [] ≡ trimmed (with_letters f cs [])
text_trimmed f cs ds e = ap (λ es. with_letters f es []) e ∙ rest_alone f (drop_trailing_whitespace cs) ∙ sym (letters_trimmed f cs [])

pub text_left : (f : Formatting) (cs ds : List ℕ) → ds ≡ drop_trailing_whitespace cs → has_end (trimmed (with_letters f cs [])) ≡ is_filled ds
text_left f cs ds e = ap has_end (sym (text_trimmed f cs ds e)) ∙ text_end f ds

-- Of the children from an index on nothing is left; with those before them, once these are trimmed, they are what is left of all.
pub record Trimming (old xs : List ElemChild) (i : ℕ) : Type 0 where
  pub same : flat (children_view (drop i xs)) ++ trimmed (flat (children_view (take i xs))) ≡ trimmed (flat (children_view old))
  pub passed : has_end (flat (children_view (drop i xs))) ≡ false

-- at first
pub trimming_begins : (xs : List ElemChild) (i : ℕ) → length xs ≤ i → Trimming xs xs i
trimming_begins xs i all = record {
  same = λ k. flat (children_view (drop_all i xs all k)) ++ trimmed (flat (children_view (take_all i xs all k)));
  passed = ap (λ ys. has_end (flat (children_view ys))) (drop_all i xs all);
}

-- after all children
trimming_ends : (old xs : List ElemChild) → Trimming old xs 0 → (false ≡ has_end (trimmed (flat (children_view old)))) × (flat (children_view xs) ≡ trimmed (flat (children_view old)))
trimming_ends old xs t =
    let whole : flat (children_view xs) ≡ trimmed (flat (children_view old)) = sym (append-nil (flat (children_view xs))) ∙ t.same in
    (sym (ap has_end (sym whole) ∙ t.passed), whole)

-- the same where the index of the first child is reached
pub trimming_at_end : (old xs : List ElemChild) (i : ℕ) → Trimming old xs i → i ≡ 0 → (false ≡ has_end (trimmed (flat (children_view old)))) × (flat (children_view xs) ≡ trimmed (flat (children_view old)))
trimming_at_end old xs i t none = trimming_ends old xs (subst (λ (k : ℕ). Trimming old xs k) none t)

module _ (old xs : List ElemChild) (i : ℕ) (x y : ElemChild) (trimming : Trimming old xs (i + 1)) (less : i < length xs) (is : x ≡ get_or xs i x)
    (cut : flat_child (child_view y) ≡ trimmed (flat_child (child_view x))) where
  -- the children up to this one
  leading : flat (children_view (take (i + 1) xs)) ≡ flat_child (child_view x) ++ flat (children_view (take i xs))
  leading = ap (λ ys. flat (children_view ys)) (take_more xs i x less ∙ ap (λ z. take i xs ++ z ∷ []) (sym is)) ∙ flat-append (take i xs) (x ∷ [])

  whole : flat (children_view (drop (i + 1) xs)) ++ trimmed (flat_child (child_view x) ++ flat (children_view (take i xs))) ≡ trimmed (flat (children_view old))
  whole = ap (λ ts. flat (children_view (drop (i + 1) xs)) ++ trimmed ts) (sym leading) ∙ trimming.same

  changed_from : flat (children_view (drop i (set xs i y))) ≡ flat (children_view (drop (i + 1) xs)) ++ flat_child (child_view y)
  changed_from = ap (λ ys. flat (children_view ys)) (drop-set xs i y less)

  changed : flat (children_view (set xs i y)) ≡ (flat (children_view (drop (i + 1) xs)) ++ flat_child (child_view y)) ++ flat (children_view (take i xs))
  changed = parts (set xs i y) i ∙ ap (λ ts. ts ++ flat (children_view (take i (set xs i y)))) changed_from
      ∙ ap (λ ys. (flat (children_view (drop (i + 1) xs)) ++ flat_child (child_view y)) ++ flat (children_view ys)) (take-set xs i y)

  end_here : (b : Bool) → has_end (trimmed (flat_child (child_view x))) ≡ b → has_end (flat (children_view (drop (i + 1) xs)) ++ flat_child (child_view y)) ≡ b
  end_here b e =
      has_end-append (flat (children_view (drop (i + 1) xs))) (flat_child (child_view y))
      ∙ ap (λ c. c || has_end (flat_child (child_view y))) trimming.passed
      ∙ ap has_end cut
      ∙ e

  -- a child of which something is left is the last one that is trimmed
  pub found : has_end (trimmed (flat_child (child_view x))) ≡ true → (true ≡ has_end (trimmed (flat (children_view old)))) × (flat (children_view (set xs i y)) ≡ trimmed (flat (children_view old)))
  found e =
      let a = flat (children_view (drop (i + 1) xs)) in
      let b = flat (children_view (take i xs)) in
      let all : flat (children_view (set xs i y)) ≡ trimmed (flat (children_view old)) =
      changed
      ∙ append_assoc a (flat_child (child_view y)) b
      ∙ ap (λ ts. a ++ (ts ++ b)) cut
      ∙ ap (λ ts. a ++ ts) (sym (stops (flat_child (child_view x)) b e))
      ∙ whole in
      let some : has_end (flat (children_view (set xs i y))) ≡ true =
      ap has_end changed ∙ has_end-append (a ++ flat_child (child_view y)) b ∙ ap (λ c. c || has_end b) (end_here true e) in
      (sym (ap has_end (sym all) ∙ some), all)

  -- where nothing is left of a child, the one before it is trimmed
  pub passed_on : has_end (trimmed (flat_child (child_view x))) ≡ false → Trimming old (set xs i y) i
  passed_on e =
      let a = flat (children_view (drop (i + 1) xs)) in
      let b = flat (children_view (take i xs)) in
      record {
        same = (λ k. changed_from k ++ trimmed (flat (children_view (take-set xs i y k))))
            ∙ append_assoc a (flat_child (child_view y)) (trimmed b)
            ∙ ap (λ ts. a ++ (ts ++ trimmed b)) cut
            ∙ ap (λ ts. a ++ ts) (sym (passes (flat_child (child_view x)) b e))
            ∙ whole;
        passed = ap has_end changed_from ∙ end_here false e;
      }

-- the same, of the child before an index
trimming_at : (old xs : List ElemChild) (i : ℕ) → Trimming old xs i → 0 < i → Trimming old xs (i - 1 + 1)
trimming_at old xs i t some =
    let same : i ≡ i - 1 + 1 = omega arith in
    subst (λ (k : ℕ). Trimming old xs k) same t

pub found_before : (old xs : List ElemChild) (i : ℕ) (x y : ElemChild) → Trimming old xs i → 0 < i → i ≤ length xs → x ≡ get_or xs (i - 1) x
    → flat_child (child_view y) ≡ trimmed (flat_child (child_view x)) → has_end (trimmed (flat_child (child_view x))) ≡ true
    → (true ≡ has_end (trimmed (flat (children_view old)))) × (flat (children_view (set xs (i - 1) y)) ≡ trimmed (flat (children_view old)))
found_before old xs i x y t some below is cut e = found old xs (i - 1) x y (trimming_at old xs i t some) (omega arith) is cut e

pub passed_before : (old xs : List ElemChild) (i : ℕ) (x y : ElemChild) → Trimming old xs i → 0 < i → i ≤ length xs → x ≡ get_or xs (i - 1) x
    → flat_child (child_view y) ≡ trimmed (flat_child (child_view x)) → has_end (trimmed (flat_child (child_view x))) ≡ false
    → Trimming old (set xs (i - 1) y) (i - 1)
passed_before old xs i x y t some below is cut e = passed_on old xs (i - 1) x y (trimming_at old xs i t some) (omega arith) is cut e
