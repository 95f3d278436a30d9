-- A text instead of the first single names in a list of children.
use Rattle.std.proofs.Common.{◌≡◌, ℕ, ◌+◌, ◌<◌, ◌≤◌, List, [], ◌∷◌, length, take, drop, get_or, set, refl, sym, ap, ◌∙◌, arith, suc, zero, false, ◌≢◌, Option, Result, Ok, Err}
use Rattle.std.specs.Prelude.{IfOk, if◌then◌else◌}
use Rattle.std.proofs.lemmas.List.{drop_more, drop_all, take_all, drop-set-lt, take_more_set}
use Rattle.rendering_taxonomy.specs.declared.formatting.Display.{Display}
use Rattle.rendering_tree.specs.Metas.{Meta}
use Rattle.rendering_tree.specs.Trees.{Child, Children, Elem, nothing, before, followed_by}
use Rattle.rendering_tree.specs.Views.{child_view, children_view}
use Rattle.rendering_tree.specs.declared.element.ElemChild.{ElemChild}
use Rattle.rendering_tree.proofs.SimplifySteps.{children-append, followed_by-assoc, followed_by-nothing}
use Rattle.driver_bibliography.specs.Substitution.{names_replaced, names_replaced_in, then_others, is_some_name, name_replaced_or_inside}

-- what is made of a list that stands after another one
abbrev pub after : Children → Children × ℕ → Children × ℕ
after zs p = (followed_by zs p.0, p.1)

after-before : (zs : Children) (x : Child) (p : Children × ℕ) → after zs (before x p.0, p.1) ≡ after (followed_by zs (before x nothing)) p
after-before zs x p = ap (λ ys. (ys, p.1)) (sym (followed_by-assoc zs (before x nothing) p.0))

-- what is left to be made of the children makes of them what is made of all
pub Naming : Children → List ElemChild → ℕ → List ElemChild → ℕ → ℕ → Type 0
Naming text old wanted xs i left = names_replaced text (children_view old) wanted ≡ after (children_view (take i xs)) (names_replaced text (children_view (drop i xs)) left)

pub naming_begins : (text : Children) (xs : List ElemChild) (wanted : ℕ) → Naming text xs wanted xs 0 wanted
unfolding Naming
naming_begins text xs wanted = refl

pub naming_ends : (text : Children) (old : List ElemChild) (wanted : ℕ) (xs : List ElemChild) (i left : ℕ) → Naming text old wanted xs i left → length xs ≤ i → (children_view xs, left) ≡ names_replaced text (children_view old) wanted
unfolding Naming
naming_ends text old wanted xs i left h all =
    sym (h ∙ (λ k. after (children_view (take_all i xs all k)) (names_replaced text (children_view (drop_all i xs all k)) left)) ∙ ap (λ ys. (ys, left)) (followed_by-nothing (children_view xs)))

pub naming_goes_on : (text : Children) (old : List ElemChild) (wanted : ℕ) (xs : List ElemChild) (i left : ℕ) (x d y : ElemChild) (m : ℕ) → Naming text old wanted xs i left → i < length xs
    → x ≡ get_or xs i d → (child_view y, m) ≡ names_replaced_in text (child_view x) left → Naming text old wanted (set xs i y) (i + 1) m
unfolding Naming
naming_goes_on text old wanted xs i left x d y m h less is e =
    let zs = children_view (take i xs) in
    let rest = children_view (drop (i + 1) xs) in
    let from : children_view (drop i xs) ≡ before (child_view x) (children_view (drop (i + 1) xs)) = ap children_view (drop_more xs i d less) ∙ ap (λ z. before (child_view z) (children_view (drop (i + 1) xs))) (sym is) in
    let leading : children_view (take (i + 1) (set xs i y)) ≡ followed_by zs (before (child_view y) nothing) = ap children_view (take_more_set xs i y less) ∙ children-append (take i xs) (y ∷ []) in
    let others : drop (i + 1) (set xs i y) ≡ drop (i + 1) xs = drop-set-lt (i + 1) xs i y (omega arith) in
    h
    ∙ ap (λ ys. after zs (names_replaced text ys left)) from
    ∙ ap (λ p. after zs (then_others p (λ k. names_replaced text rest k))) (sym e)
    ∙ after-before zs (child_view y) (names_replaced text rest m)
    ∙ (λ k. after (sym leading k) (names_replaced text (children_view (sym others k)) m))

-- what was made of a child that is viewed in another way
pub single_in : {E : Type 0} (text : Children) (wanted : ℕ) (r : Result ℕ E) {new now old first : Child} → new ≡ now → old ≡ first → IfOk r (λ left. (now, left) ≡ names_replaced_in text old wanted)
    → IfOk r (λ left. (new, left) ≡ names_replaced_in text first wanted)
single_in text wanted (Ok left) g o p = (λ k. (g k, left)) ∙ p ∙ ap (λ z. names_replaced_in text z wanted) o
single_in text wanted (Err e) g o p = tt

-- what was made of an element that stands for no single name
pub single_inside : {E : Type 0} (text : Children) (d : Option Display) (m : Option Meta) (xs : Children) (wanted : ℕ) (r : Result ℕ E) {new : Child} (now others : Children) → (wanted ≢ 0) → is_some_name m ≡ false
    → new ≡ Elem d m others → now ≡ xs → IfOk r (λ left. (others, left) ≡ names_replaced text now wanted) → IfOk r (λ left. (new, left) ≡ name_replaced_or_inside text d m xs (names_replaced text xs wanted) wanted)
single_inside text d m xs wanted (Err e) now others some none g same p = tt
single_inside text d m xs zero (Ok left) now others some none g same p = absurd (some refl)
single_inside text d m xs (suc n) (Ok left) now others some none g same p =
    (λ k. (g k, left))
    ∙ (λ k. (Elem d m ((p ∙ ap (λ ys. names_replaced text ys (suc n)) same) k).0, ((p ∙ ap (λ ys. names_replaced text ys (suc n)) same) k).1))
    ∙ sym (ap (λ b. if b then (Elem d m text, n) else (Elem d m (names_replaced text xs (suc n)).0, (names_replaced text xs (suc n)).1)) none)
