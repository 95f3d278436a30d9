-- Texts after the last block of an item.
use Rattle.std.proofs.Common.{◌≡◌, ℕ, ◌+◌, ◌-◌, ◌<◌, ◌≤◌, List, [], ◌∷◌, ◌++◌, length, take, get_or, set, refl, sym, ap, ◌∙◌, arith, Option}
use Rattle.std.proofs.lemmas.List.{length-set, take_all, take_more, take_more_set}
use Rattle.rendering_taxonomy.specs.declared.formatting.Display.{Display}
use Rattle.rendering_tree.specs.Metas.{Meta}
use Rattle.rendering_tree.specs.Trees.{Child, Children, Elem, nothing, before, followed_by}
use Rattle.rendering_tree.specs.Views.{child_view, children_view}
use Rattle.rendering_tree.specs.declared.element.ElemChild.{ElemChild}
use Rattle.rendering_tree.proofs.SimplifySteps.{children-append}
use Rattle.rendering.specs.Blocks.{all_but_last, block_ended, blocks_ended, by_display, child_ends_in_block, ends_in_block, last_child, text_in_block, then_child}

-- all but the last one, and the last one
pub last_apart : (xs : List ElemChild) (x : ElemChild) → 0 < length xs → x ≡ get_or xs (length xs - 1) x → xs ≡ take (length xs - 1) xs ++ x ∷ []
last_apart xs x some is =
    let n = length xs - 1 in
    let less : n < length xs = omega (arith, some) in
    let all : length xs ≤ n + 1 = omega (arith, some) in
    sym (take_all (n + 1) xs all) ∙ take_more xs n x less ∙ ap (λ y. take n xs ++ y ∷ []) (sym is)

-- the last one is another child
pub last_set : (xs : List ElemChild) (y : ElemChild) → 0 < length xs → set xs (length xs - 1) y ≡ take (length xs - 1) xs ++ y ∷ []
last_set xs y some =
    let n = length xs - 1 in
    let less : n < length xs = omega (arith, some) in
    let all : length (set xs n y) ≤ n + 1 = omega (arith, some, length-set xs n y) in
    sym (take_all (n + 1) (set xs n y) all) ∙ take_more_set xs n y less

-- children end in a block where the last one does
after_others : (zs : Children) (y : Child) → ends_in_block (followed_by zs (before y nothing)) ≡ child_ends_in_block y
after_others nothing y = refl
after_others (before z nothing) y = refl
after_others (before z (before w ws)) y = after_others (before w ws) y

pub block_last : (xs : List ElemChild) (x : ElemChild) → 0 < length xs → x ≡ get_or xs (length xs - 1) x → child_ends_in_block (child_view x) ≡ ends_in_block (children_view xs)
block_last xs x some is =
    let front = take (length xs - 1) xs in
    sym (ap (λ ys. ends_in_block (children_view ys)) (last_apart xs x some is) ∙ ap ends_in_block (children-append front (x ∷ [])) ∙ after_others (children_view front) (child_view x))

-- the last one has the text
ended_others : (t : Child) (zs : Children) (y : Child) → blocks_ended t (followed_by zs (before y nothing)) ≡ followed_by zs (before (block_ended t y) nothing)
ended_others t nothing y = refl
ended_others t (before z nothing) y = refl
ended_others t (before z (before w ws)) y = ap (before z) (ended_others t (before w ws) y)

ended_last : (t : Child) (xs : List ElemChild) (x y : ElemChild) → 0 < length xs → x ≡ get_or xs (length xs - 1) x → child_view y ≡ block_ended t (child_view x)
    → children_view (set xs (length xs - 1) y) ≡ blocks_ended t (children_view xs)
ended_last t xs x y some is e =
    let front = take (length xs - 1) xs in
    ap children_view (last_set xs y some)
    ∙ children-append front (y ∷ [])
    ∙ ap (λ z. followed_by (children_view front) (before z nothing)) e
    ∙ sym (ended_others t (children_view front) (child_view x))
    ∙ ap (blocks_ended t) (sym (children-append front (x ∷ [])))
    ∙ ap (λ ys. blocks_ended t (children_view ys)) (sym (last_apart xs x some is))

pub ends_last : (t : Child) (xs : List ElemChild) (i : ℕ) (x y : ElemChild) → i ≡ length xs → 0 < i → x ≡ get_or xs (i - 1) x → child_view y ≡ block_ended t (child_view x)
    → children_view (set xs (i - 1) y) ≡ blocks_ended t (children_view xs)
ends_last t xs i x y all some is e =
    let filled : 0 < length xs = omega (arith, all, some) in
    let last : x ≡ get_or xs (length xs - 1) x = is ∙ ap (λ n. get_or xs (n - 1) x) all in
    ap (λ n. children_view (set xs (n - 1) y)) all ∙ ended_last t xs x y filled last e

-- there is no last one
pub none_ended : (t : Child) (xs : List ElemChild) → length xs ≡ 0 → children_view xs ≡ blocks_ended t (children_view xs)
none_ended t [] e = refl
none_ended t (x ∷ xs) e = absurd (let never : ⊥ = omega (arith, e) in never)

-- what an element contains has the text
pub element_ended : (t : Child) (d e : Option Display) (m n : Option Meta) (xs ys : Children) → e ≡ d → n ≡ m → ys ≡ by_display d (followed_by xs (before t nothing)) (blocks_ended t xs)
    → Elem e n ys ≡ block_ended t (Elem d m xs)
element_ended t d e m n xs ys f g h = λ i. Elem (f i) (g i) (h i)

-- all children but the last one, and the last one
front_is : (z : Child) (zs : Children) (y : Child) → all_but_last z (followed_by zs (before y nothing)) ≡ before z zs
front_is z nothing y = refl
front_is z (before w ws) y = ap (before z) (front_is w ws y)

last_is : (z : Child) (zs : Children) (y : Child) → last_child z (followed_by zs (before y nothing)) ≡ y
last_is z nothing y = refl
last_is z (before w ws) y = last_is w ws y

then_last : (zs : Children) (y : Child) → text_in_block (followed_by zs (before y nothing)) ≡ then_child zs y
then_last nothing y = refl
then_last (before z zs) y = λ i. then_child (front_is z zs y i) (last_is z zs y i)

-- the last one is taken off and put after the others
pub last_put : (whole front : List ElemChild) (x : ElemChild) → whole ≡ front ++ x ∷ [] → then_child (children_view front) (child_view x) ≡ text_in_block (children_view whole)
last_put whole front x e =
    sym (ap (λ ys. text_in_block (children_view ys)) e ∙ ap text_in_block (children-append front (x ∷ [])) ∙ then_last (children_view front) (child_view x))

-- there are no children
pub none_put : (whole rest : List ElemChild) → whole ≡ rest ++ [] → length rest ≡ 0 → children_view rest ≡ text_in_block (children_view whole)
none_put whole [] e none = sym (ap (λ ys. text_in_block (children_view ys)) e)
none_put whole (x ∷ xs) e none = absurd (let never : ⊥ = omega (arith, none) in never)
