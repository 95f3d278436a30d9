-- A text instead of lists of single names.
use Rattle.std.proofs.Common.{◌≡◌, ℕ, zero, suc, ◌+◌, ◌-◌, ◌<◌, ◌≤◌, Bool, true, false, true≢false, ◌||◌, List, [], ◌∷◌, ◌++◌, length, take, drop, get_or, set, refl, sym, ap, ◌∙◌, arith, Option, Result}
use Rattle.std.specs.Prelude.{if◌then◌else◌, OnOk}
use Rattle.std.proofs.lemmas.List.{drop_all, drop_more, drop-set-lt, take_all, take_more_set}
use Rattle.std.proofs.lemmas.Result.{on_ok_weaker}
use Rattle.rendering_taxonomy.specs.declared.formatting.Display.{Display}
use Rattle.rendering_tree.specs.Metas.{Meta}
use Rattle.rendering_tree.specs.Trees.{Child, Children, Elem, nothing, before, followed_by}
use Rattle.rendering_tree.specs.Views.{child_view, children_view}
use Rattle.rendering_tree.specs.declared.element.ElemChild.{ElemChild}
use Rattle.rendering_tree.proofs.SimplifySteps.{children-append, followed_by-assoc, followed_by-nothing}
use Rattle.driver_bibliography.specs.Substitution.{after_names, before_names, has_single_names, is_single_name, list_replaced, lists_replaced, lists_replaced_in}

-- the first child that is left
from : (xs : List ElemChild) (i : ℕ) (x : ElemChild) → i < length xs → x ≡ get_or xs i x → children_view (drop i xs) ≡ before (child_view x) (children_view (drop (i + 1) xs))
from xs i x less is = ap children_view (drop_more xs i x less) ∙ ap (λ z. before (child_view z) (children_view (drop (i + 1) xs))) (sym is)

-- whether there are single names among what is left
pub found_single : (xs : List ElemChild) (i : ℕ) (x : ElemChild) (all : Bool) → i < length xs → x ≡ get_or xs i x → is_single_name (child_view x) ≡ true → has_single_names (children_view (drop i xs)) ≡ all → true ≡ all
found_single xs i x all less is single h = sym (ap has_single_names (from xs i x less is) ∙ ap (λ b. b || has_single_names (children_view (drop (i + 1) xs))) single) ∙ h

pub passed_single : (xs : List ElemChild) (i : ℕ) (x : ElemChild) (all : Bool) → i < length xs → x ≡ get_or xs i x → is_single_name (child_view x) ≡ false → has_single_names (children_view (drop i xs)) ≡ all
    → has_single_names (children_view (drop (i + 1) xs)) ≡ all
passed_single xs i x all less is other h = sym (ap has_single_names (from xs i x less is) ∙ ap (λ b. b || has_single_names (children_view (drop (i + 1) xs))) other) ∙ h

pub no_single : (xs : List ElemChild) (i : ℕ) (all : Bool) → length xs ≤ i → has_single_names (children_view (drop i xs)) ≡ all → false ≡ all
no_single xs i all past h = sym (ap (λ ys. has_single_names (children_view ys)) (drop_all i xs past)) ∙ h

-- What stands before an index has no single names.
abbrev pub Leading : List ElemChild → ℕ → Type 0
Leading xs i = before_names (children_view xs) ≡ followed_by (children_view (take i xs)) (before_names (children_view (drop i xs)))

pub leading_begins : (xs : List ElemChild) → Leading xs 0
leading_begins xs = refl

one_more : (xs : List ElemChild) (i : ℕ) (x : ElemChild) → i < length xs → x ≡ get_or xs i x → children_view (take (i + 1) xs) ≡ followed_by (children_view (take i xs)) (before (child_view x) nothing)
one_more [] i x less is = absurd (let never : ⊥ = omega (arith, less) in never)
one_more (y ∷ ys) zero x less is = ap (λ z. before (child_view z) nothing) (sym is)
one_more (y ∷ ys) (suc i) x less is =
    let on : suc i + 1 ≡ suc (i + 1) = omega arith in
    let below : i < length ys = omega (arith, less) in
    ap (λ n. children_view (take n (y ∷ ys))) on ∙ ap (before (child_view y)) (one_more ys i x below is)

pub leading_goes_on : (xs : List ElemChild) (i : ℕ) (x : ElemChild) → i < length xs → x ≡ get_or xs i x → is_single_name (child_view x) ≡ false → Leading xs i → Leading xs (i + 1)
leading_goes_on xs i x less is other h =
    let rest = children_view (drop (i + 1) xs) in
    h
    ∙ ap (λ ys. followed_by (children_view (take i xs)) (before_names ys)) (from xs i x less is)
    ∙ ap (λ b. followed_by (children_view (take i xs)) (if b then nothing else before (child_view x) (before_names rest))) other
    ∙ sym (followed_by-assoc (children_view (take i xs)) (before (child_view x) nothing) (before_names rest))
    ∙ ap (λ ys. followed_by ys (before_names rest)) (sym (one_more xs i x less is))

pub leading_stops : (xs : List ElemChild) (i : ℕ) (x : ElemChild) → i < length xs → x ≡ get_or xs i x → is_single_name (child_view x) ≡ true → Leading xs i → children_view (take i xs) ≡ before_names (children_view xs)
leading_stops xs i x less is single h =
    let rest = children_view (drop (i + 1) xs) in
    sym (h
    ∙ ap (λ ys. followed_by (children_view (take i xs)) (before_names ys)) (from xs i x less is)
    ∙ ap (λ b. followed_by (children_view (take i xs)) (if b then nothing else before (child_view x) (before_names rest))) single
    ∙ followed_by-nothing (children_view (take i xs)))

pub leading_ends : (xs : List ElemChild) (i : ℕ) → length xs ≤ i → Leading xs i → children_view (take i xs) ≡ before_names (children_view xs)
leading_ends xs i past h =
    sym (h ∙ ap (λ ys. followed_by (children_view (take i xs)) (before_names (children_view ys))) (drop_all i xs past) ∙ followed_by-nothing (children_view (take i xs)))

-- what stands after single names of a list without some at its end
after_last : (xs : List ElemChild) (i : ℕ) (x : ElemChild) → i < length xs → x ≡ get_or xs i x → is_single_name (child_view x) ≡ true → has_single_names (children_view (drop (i + 1) xs)) ≡ false
    → after_names (children_view xs) ≡ children_view (drop (i + 1) xs)
after_last [] i x less is single none = absurd (let never : ⊥ = omega (arith, less) in never)
after_last (y ∷ ys) zero x less is single none = ap (λ b. if b then after_names (children_view ys) else children_view ys) none
after_last (y ∷ ys) (suc i) x less is single none =
    let below : i < length ys = omega (arith, less) in
    let on : suc i + 1 ≡ suc (i + 1) = omega arith in
    let none_there : has_single_names (children_view (drop (i + 1) ys)) ≡ false = ap (λ n. has_single_names (children_view (drop n (y ∷ ys)))) (sym on) ∙ none in
    ap (λ b. if b then after_names (children_view ys) else children_view ys) (some_from ys i x below is single)
    ∙ after_last ys i x below is single none_there
    ∙ ap (λ n. children_view (drop n (y ∷ ys))) (sym on)
  where
    true_either : (b : Bool) → b || true ≡ true
    true_either true = refl
    true_either false = refl

    some_from : (zs : List ElemChild) (k : ℕ) (z : ElemChild) → k < length zs → z ≡ get_or zs k z → is_single_name (child_view z) ≡ true → has_single_names (children_view zs) ≡ true
    some_from [] k z less is single = absurd (let never : ⊥ = omega (arith, less) in never)
    some_from (w ∷ ws) zero z less is single = ap (λ v. is_single_name (child_view v) || has_single_names (children_view ws)) (sym is) ∙ ap (λ b. b || has_single_names (children_view ws)) single
    some_from (w ∷ ws) (suc k) z less is single =
        let below : k < length ws = omega (arith, less) in
        ap (λ b. is_single_name (child_view w) || b) (some_from ws k z below is single) ∙ true_either (is_single_name (child_view w))

-- No single name stands from an index on.
abbrev pub Trailing : List ElemChild → ℕ → Type 0
Trailing xs i = has_single_names (children_view (drop i xs)) ≡ false

pub trailing_begins : (xs : List ElemChild) (i : ℕ) → length xs ≤ i → Trailing xs i
trailing_begins xs i past = ap (λ ys. has_single_names (children_view ys)) (drop_all i xs past)

pub trailing_stops : (xs : List ElemChild) (i : ℕ) (x : ElemChild) → 0 < i → i ≤ length xs → x ≡ get_or xs (i - 1) x → is_single_name (child_view x) ≡ true → Trailing xs i → children_view (drop i xs) ≡ after_names (children_view xs)
trailing_stops xs i x some low is single h =
    let next : i - 1 + 1 ≡ i = omega (arith, some) in
    let less : i - 1 < length xs = omega (arith, some, low) in
    sym (after_last xs (i - 1) x less is single (ap (λ n. has_single_names (children_view (drop n xs))) next ∙ h) ∙ ap (λ n. children_view (drop n xs)) next)

pub trailing_goes_on : (xs : List ElemChild) (i : ℕ) (x : ElemChild) → 0 < i → i ≤ length xs → x ≡ get_or xs (i - 1) x → is_single_name (child_view x) ≡ false → Trailing xs i → Trailing xs (i - 1)
trailing_goes_on xs i x some low is other h =
    let next : i - 1 + 1 ≡ i = omega (arith, some) in
    let less : i - 1 < length xs = omega (arith, some, low) in
    ap has_single_names (from xs (i - 1) x less is)
    ∙ ap (λ b. b || has_single_names (children_view (drop (i - 1 + 1) xs))) other
    ∙ ap (λ n. has_single_names (children_view (drop n xs))) next
    ∙ h

pub trailing_ends : (xs : List ElemChild) (i : ℕ) → i ≡ 0 → Trailing xs i → has_single_names (children_view xs) ≡ true → children_view (drop i xs) ≡ after_names (children_view xs)
trailing_ends xs i none h some = absurd (true≢false (sym some ∙ ap (λ n. has_single_names (children_view (drop n xs))) (sym none) ∙ h))

-- what stands after the last single name stands after it among those from an index on
some_there : (i : ℕ) (xs : List ElemChild) → has_single_names (children_view (drop i xs)) ≡ true → has_single_names (children_view xs) ≡ true
some_there zero xs h = h
some_there (suc i) [] h = h
some_there (suc i) (y ∷ ys) h = ap (λ b. is_single_name (child_view y) || b) (some_there i ys h) ∙ or_true (is_single_name (child_view y))
  where
    or_true : (b : Bool) → b || true ≡ true
    or_true true = refl
    or_true false = refl

pub after_front : (i : ℕ) (xs : List ElemChild) → has_single_names (children_view (drop i xs)) ≡ true → after_names (children_view (drop i xs)) ≡ after_names (children_view xs)
after_front zero xs h = refl
after_front (suc i) [] h = absurd (true≢false (sym h))
after_front (suc i) (y ∷ ys) h = after_front i ys h ∙ sym (ap (λ b. if b then after_names (children_view ys) else children_view ys) (some_there i ys h))

-- the text between what stands before and after
pub replaced : (text : Children) (xs whole start after : List ElemChild) (own : List ElemChild) → children_view start ≡ before_names (children_view xs) → children_view own ≡ text → children_view after ≡ after_names (children_view xs)
    → whole ≡ (start ++ own) ++ after → children_view whole ≡ list_replaced text (children_view xs)
replaced text xs whole start after own b t a e =
    ap children_view e
    ∙ children-append (start ++ own) after
    ∙ ap (λ ys. followed_by ys (children_view after)) (children-append start own)
    ∙ followed_by-assoc (children_view start) (children_view own) (children_view after)
    ∙ (λ i. followed_by (b i) (followed_by (t i) (a i)))

-- What is left to be replaced makes of the children what is made of all.
abbrev pub Replacing : Children → List ElemChild → List ElemChild → ℕ → Type 0
Replacing text old xs i = lists_replaced text (children_view old) ≡ followed_by (children_view (take i xs)) (lists_replaced text (children_view (drop i xs)))

pub replacing_begins : (text : Children) (xs : List ElemChild) → Replacing text xs xs 0
replacing_begins text xs = refl

pub replacing_ends : (text : Children) (old xs : List ElemChild) (i : ℕ) → Replacing text old xs i → length xs ≤ i → children_view xs ≡ lists_replaced text (children_view old)
replacing_ends text old xs i h all =
    sym (h ∙ (λ k. followed_by (children_view (take_all i xs all k)) (lists_replaced text (children_view (drop_all i xs all k)))) ∙ followed_by-nothing (children_view xs))

pub replacing_goes_on : (text : Children) (old xs : List ElemChild) (i : ℕ) (x d y : ElemChild) → Replacing text old xs i → i < length xs → x ≡ get_or xs i d
    → child_view y ≡ lists_replaced_in text (child_view x) → Replacing text old (set xs i y) (i + 1)
replacing_goes_on text old xs i x d y h less is e =
    let zs = children_view (take i xs) in
    let rest = children_view (drop (i + 1) xs) in
    let here : children_view (drop i xs) ≡ before (child_view x) rest = ap children_view (drop_more xs i d less) ∙ ap (λ z. before (child_view z) (children_view (drop (i + 1) xs))) (sym is) in
    let leading : children_view (take (i + 1) (set xs i y)) ≡ followed_by zs (before (child_view y) nothing) = ap children_view (take_more_set xs i y less) ∙ children-append (take i xs) (y ∷ []) in
    let others : drop (i + 1) (set xs i y) ≡ drop (i + 1) xs = drop-set-lt (i + 1) xs i y (omega arith) in
    h
    ∙ ap (λ ys. followed_by zs (lists_replaced text ys)) here
    ∙ ap (λ z. followed_by zs (before z (lists_replaced text rest))) (sym e)
    ∙ sym (followed_by-assoc zs (before (child_view y) nothing) (lists_replaced text rest))
    ∙ (λ k. followed_by (sym leading k) (lists_replaced text (children_view (sym others k))))

-- what was made of a child that is viewed in another way
pub lists_in : {A E : Type 0} (text : Children) (r : Result A E) {new now old first : Child} → new ≡ now → old ≡ first → OnOk r (now ≡ lists_replaced_in text old) → OnOk r (new ≡ lists_replaced_in text first)
lists_in text r g o p = on_ok_weaker r (λ e. g ∙ e ∙ ap (lists_replaced_in text) o) p

-- what was made of an element that contains single names, and of another one
pub list_inside : {A E : Type 0} (text : Children) (d : Option Display) (m : Option Meta) (xs : Children) (r : Result A E) {new : Child} (now left : Children) → has_single_names xs ≡ true → new ≡ Elem d m left → now ≡ xs
    → OnOk r (left ≡ list_replaced text now) → OnOk r (new ≡ lists_replaced_in text (Elem d m xs))
list_inside text d m xs r now left some g same p =
    on_ok_weaker r (λ e. g ∙ ap (Elem d m) (e ∙ ap (list_replaced text) same) ∙ ap (λ b. Elem d m (if b then list_replaced text xs else lists_replaced text xs)) (sym some)) p

pub lists_inside : {A E : Type 0} (text : Children) (d : Option Display) (m : Option Meta) (xs : Children) (r : Result A E) {new : Child} (now left : Children) → has_single_names xs ≡ false → new ≡ Elem d m left → now ≡ xs
    → OnOk r (left ≡ lists_replaced text now) → OnOk r (new ≡ lists_replaced_in text (Elem d m xs))
lists_inside text d m xs r now left none g same p =
    on_ok_weaker r (λ e. g ∙ ap (Elem d m) (e ∙ ap (lists_replaced text) same) ∙ ap (λ b. Elem d m (if b then list_replaced text xs else lists_replaced text xs)) (sym none)) p
