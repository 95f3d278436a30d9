-- Taking elements out of a list of children.
use Rattle.std.proofs.Common.{◌≡◌, ℕ, ◌+◌, ◌<◌, ◌≤◌, true, false, true≢false, List, [], ◌∷◌, ◌++◌, length, take, drop, get_or, set, refl, sym, ap, ◌∙◌, arith, Option, Some, None, is_some}
use Rattle.std.specs.Option.{option_map}
use Rattle.std.proofs.lemmas.List.{drop_more, drop_all, drop-set, take-set, take_more_set, drop-set-lt, take-append-drop, get_or-set_other}
use Rattle.rendering_taxonomy.specs.declared.formatting.Display.{Display}
use Rattle.rendering_tree.specs.Metas.{Meta}
use Rattle.rendering_tree.specs.Parting.{has_meta, element_of, taken, left}
use Rattle.rendering_tree.specs.Trees.{Child, Children, Text, Elem, Markup, Link, Transparent, nothing, before, followed_by, Parted, rest_inside, rest_before, parted, parted_in}
use Rattle.rendering_tree.specs.Views.{child_view, element_view, children_view}
use Rattle.rendering_tree.specs.declared.element.Elem as code
use Rattle.rendering_tree.specs.declared.element.ElemChild.{ElemChild}
use Rattle.rendering_tree.proofs.SimplifySteps.{children-append, followed_by-assoc}

-- what is taken out of a list that stands after another one
abbrev pub after : Children → Parted → Parted
after zs p = option_map (λ q. (q.0, followed_by zs q.1)) p

pub after-nothing : (p : Parted) → after nothing p ≡ p
after-nothing None = refl
after-nothing (Some q) = refl

after-both : (zs : Children) (x : Child) (p : Parted) → after zs (option_map (λ q. (q.0, before x q.1)) p) ≡ after (followed_by zs (before x nothing)) p
after-both zs x None = refl
after-both zs x (Some q) = ap (λ ys. Some (q.0, ys)) (sym (followed_by-assoc zs (before x nothing) q.1))

-- where nothing is taken out of a child, the others are asked
after-none : (zs : Children) (x : Child) (xs : Children) → parted_in x ≡ None → after zs (parted (before x xs)) ≡ after (followed_by zs (before x nothing)) (parted xs)
after-none zs x xs e = ap (λ p. after zs (rest_before x xs p (parted xs))) e ∙ after-both zs x (parted xs)

-- where nothing was taken, there was nothing to take
taken-none : (p : Parted) → None ≡ taken p → p ≡ None
taken-none None e = refl
taken-none (Some q) e = absurd (true≢false (ap is_some (sym e)))

none_taken : (o : Option code.Elem) (p : Parted) → is_some o ≡ false → option_map (λ e. element_view e) o ≡ taken p → p ≡ None
none_taken None p h e = taken-none p e
none_taken (Some x) p h e = absurd (true≢false h)

-- Nothing was taken out of the children before an index.
pub record Passing (old xs : List ElemChild) (i : ℕ) : Type 0 where
  pub same : children_view xs ≡ children_view old
  pub others : parted (children_view old) ≡ after (children_view (take i xs)) (parted (children_view (drop i xs)))

-- a child and those around it
around : (xs : List ElemChild) (i : ℕ) → children_view xs ≡ followed_by (children_view (take i xs)) (children_view (drop i xs))
around xs i = ap children_view (sym (take-append-drop i xs)) ∙ children-append (take i xs) (drop i xs)

from : (xs : List ElemChild) (i : ℕ) (x : ElemChild) → i < length xs → x ≡ get_or xs i x → children_view (drop i xs) ≡ before (child_view x) (children_view (drop (i + 1) xs))
from xs i x less is = ap children_view (drop_more xs i x less) ∙ ap (λ y. before (child_view y) (children_view (drop (i + 1) xs))) (sym is)

-- the same with another one instead
pub children-set : (xs ys : List ElemChild) (i : ℕ) (y : ElemChild) → i < length xs → ys ≡ set xs i y → children_view ys ≡ followed_by (children_view (take i xs)) (followed_by (before (child_view y) nothing) (children_view (drop (i + 1) xs)))
children-set xs ys i y less e =
    ap children_view e
    ∙ around (set xs i y) i
    ∙ ap (λ zs. followed_by (children_view zs) (children_view (drop i (set xs i y)))) (take-set xs i y)
    ∙ ap (λ zs. followed_by (children_view (take i xs)) (children_view zs)) (drop-set xs i y less)

-- an element that stands for something is taken out whole
own-taken : (x : Child) → has_meta x ≡ true → (element_of x ≡ taken (parted_in x)) × (nothing ≡ left (parted_in x) (before x nothing))
own-taken (Elem d (Some m) xs) h = (refl, refl)
own-taken (Elem d None xs) h = absurd (true≢false (sym h))
own-taken (Text f cs) h = absurd (true≢false (sym h))
own-taken (Markup cs) h = absurd (true≢false (sym h))
own-taken (Link f cs url) h = absurd (true≢false (sym h))
own-taken (Transparent f n) h = absurd (true≢false (sym h))

some_own : (o : Option code.Elem) (x : Child) → has_meta x ≡ true → option_map (λ e. element_view e) o ≡ element_of x → is_some o ≡ true
some_own (Some v) x h e = refl
some_own None (Elem d m xs) h e = ap is_some e
some_own None (Text f cs) h e = absurd (true≢false (sym h))
some_own None (Markup cs) h e = absurd (true≢false (sym h))
some_own None (Link f cs url) h e = absurd (true≢false (sym h))
some_own None (Transparent f n) h e = absurd (true≢false (sym h))

module _ (old xs : List ElemChild) (i : ℕ) (x : ElemChild) (passing : Passing old xs i) (less : i < length xs) (is : x ≡ get_or xs i x) where
  here : parted (children_view old) ≡ after (children_view (take i xs)) (parted (before (child_view x) (children_view (drop (i + 1) xs))))
  here = passing.others ∙ ap (λ ys. after (children_view (take i xs)) (parted ys)) (from xs i x less is)

  found_as : (p : Parted) (y zs : Children) (o : Option code.Elem) → is_some o ≡ true → option_map (λ e. element_view e) o ≡ taken p → y ≡ left p (before (child_view x) nothing)
      → zs ≡ followed_by (children_view (take i xs)) (followed_by y (children_view (drop (i + 1) xs)))
      → parted (children_view old) ≡ after (children_view (take i xs)) (rest_before (child_view x) (children_view (drop (i + 1) xs)) p (parted (children_view (drop (i + 1) xs))))
      → (option_map (λ e. element_view e) o ≡ taken (parted (children_view old))) × (zs ≡ left (parted (children_view old)) (children_view old))
  found_as None y zs None some t l r e = absurd (true≢false (sym some))
  found_as None y zs (Some v) some t l r e = absurd (true≢false (ap is_some t))
  found_as (Some q) y zs o some t l r e = (
    t ∙ sym (ap taken e),
    r ∙ ap (λ w. followed_by (children_view (take i xs)) (followed_by w (children_view (drop (i + 1) xs)))) l ∙ sym (ap (λ p. left p (children_view old)) e),
  )

  -- what is taken out of a child is taken out of the list
  found : (y zs : Children) (o : Option code.Elem) → is_some o ≡ true → option_map (λ e. element_view e) o ≡ taken (parted_in (child_view x)) → y ≡ left (parted_in (child_view x)) (before (child_view x) nothing)
      → zs ≡ followed_by (children_view (take i xs)) (followed_by y (children_view (drop (i + 1) xs)))
      → (option_map (λ e. element_view e) o ≡ taken (parted (children_view old))) × (zs ≡ left (parted (children_view old)) (children_view old))
  found y zs o some t l r = found_as (parted_in (child_view x)) y zs o some t l r here

  -- a child is taken out whole
  pub found_whole : (zs : List ElemChild) (o : Option code.Elem) → has_meta (child_view x) ≡ true → option_map (λ e. element_view e) o ≡ element_of (child_view x) → zs ≡ take i xs ++ drop (i + 1) xs
      → (option_map (λ e. element_view e) o ≡ taken (parted (children_view old))) × (children_view zs ≡ left (parted (children_view old)) (children_view old))
  found_whole zs o h t e =
      let own = own-taken (child_view x) h in
      found nothing (children_view zs) o (some_own o (child_view x) h t) (t ∙ own.0) own.1 (ap children_view e ∙ children-append (take i xs) (drop (i + 1) xs))

  -- an element is taken out of a child
  pub found_within : (zs : List ElemChild) (y : ElemChild) (o : Option code.Elem) → zs ≡ set xs i y → is_some o ≡ true → option_map (λ e. element_view e) o ≡ taken (parted_in (child_view x))
      → before (child_view y) nothing ≡ left (parted_in (child_view x)) (before (child_view x) nothing) → (option_map (λ e. element_view e) o ≡ taken (parted (children_view old))) × (children_view zs ≡ left (parted (children_view old)) (children_view old))
  found_within zs y o e some t l = found (before (child_view y) nothing) (children_view zs) o some t l (children-set xs zs i y less e)

  -- where nothing is taken out of it, the list is as it was, and the others are asked
  pub passed : (ys : List ElemChild) (y : ElemChild) (o : Option code.Elem) → ys ≡ set xs i y → is_some o ≡ false → option_map (λ e. element_view e) o ≡ taken (parted_in (child_view x))
      → before (child_view y) nothing ≡ left (parted_in (child_view x)) (before (child_view x) nothing)
      → Passing old ys (i + 1)
  passed ys y o e without t l =
      let none : parted_in (child_view x) ≡ None = none_taken o (parted_in (child_view x)) without t in
      let same : before (child_view y) nothing ≡ before (child_view x) nothing = l ∙ ap (λ p. left p (before (child_view x) nothing)) none in
      let zs = children_view (take i xs) in
      let rest = children_view (drop (i + 1) xs) in
      let leading : children_view (take (i + 1) ys) ≡ followed_by zs (before (child_view x) nothing) =
      ap (λ vs. children_view (take (i + 1) vs)) e ∙ ap children_view (take_more_set xs i y less) ∙ children-append (take i xs) (y ∷ []) ∙ ap (followed_by zs) same in
      let others : drop (i + 1) ys ≡ drop (i + 1) xs = ap (drop (i + 1)) e ∙ drop-set-lt (i + 1) xs i y (omega arith) in
      record {
        same = children-set xs ys i y less e
            ∙ ap (λ w. followed_by zs (followed_by w rest)) same
            ∙ ap (followed_by zs) (sym (from xs i x less is))
            ∙ sym (around xs i)
            ∙ passing.same;
        others = here ∙ after-none zs (child_view x) rest none ∙ (λ k. after (sym leading k) (parted (children_view (sym others k))));
      }

-- at first
pub passing_begins : (xs : List ElemChild) → Passing xs xs 0
passing_begins xs = record { same = refl; others = sym (after-nothing (parted (children_view xs))) }

nothing_taken : (old new : Children) → parted old ≡ None → new ≡ old → (None ≡ taken (parted old)) × (new ≡ left (parted old) old)
nothing_taken old new none same = (sym (ap taken none), same ∙ sym (ap (λ p. left p old) none))

-- after all children, nothing is taken out
pub passing_ends : (old xs : List ElemChild) (i : ℕ) → Passing old xs i → length xs ≤ i → (None ≡ taken (parted (children_view old))) × (children_view xs ≡ left (parted (children_view old)) (children_view old))
passing_ends old xs i p all = nothing_taken (children_view old) (children_view xs) (p.others ∙ ap (λ ys. after (children_view (take i xs)) (parted (children_view ys))) (drop_all i xs all)) p.same

-- the children after an index are as they were
pub unvisited_on : (old xs ys : List ElemChild) (i : ℕ) (y : ElemChild) → ys ≡ set xs i y → ((k : ℕ) (d : ElemChild) → i ≤ k → get_or xs k d ≡ get_or old k d)
    → (k : ℕ) (d : ElemChild) → i + 1 ≤ k → get_or ys k d ≡ get_or old k d
unvisited_on old xs ys i y e h k d le = ap (λ zs. get_or zs k d) e ∙ get_or-set_other xs i k y d (λ same. omega (arith, same, le)) ∙ h k d (omega (arith, le))

inside-taken : (d : Option Display) (p : Parted) (xs ys : Children) → ys ≡ left p xs
    → (taken p ≡ taken (rest_inside d p)) × (before (Elem d None ys) nothing ≡ left (rest_inside d p) (before (Elem d None xs) nothing))
inside-taken d None xs ys e = (refl, ap (λ zs. before (Elem d None zs) nothing) e)
inside-taken d (Some q) xs ys e = (refl, ap (λ zs. before (Elem d None zs) nothing) e)

-- what is taken out of an element that stands for nothing
pub within-taken : (d : Option Display) (m : Option Meta) (xs ys : Children) → has_meta (Elem d m xs) ≡ false → ys ≡ left (parted xs) xs
    → (taken (parted xs) ≡ taken (parted_in (Elem d m xs))) × (before (Elem d m ys) nothing ≡ left (parted_in (Elem d m xs)) (before (Elem d m xs) nothing))
within-taken d None xs ys h e = inside-taken d (parted xs) xs ys e
within-taken d (Some m) xs ys h e = absurd (true≢false h)
