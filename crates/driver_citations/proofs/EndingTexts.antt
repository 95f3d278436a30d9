-- Ends of texts and trees.
use Rattle.std.proofs.Common.{◌≡◌, ℕ, ◌+◌, ◌-◌, ◌<◌, List, [], ◌∷◌, drop, take, get_or, set, length, refl, sym, ap, ◌∙◌, arith, bytes_eq}
use Rattle.std.proofs.lemmas.List.{drop-drop}
use Rattle.std.specs.Str.{chars, IsUtf8}
use Rattle.std.specs.Cmp.Lexicographic.{bytes_decides}
use Rattle.std.proofs.lemmas.Bool.Decides.{same_from_decides, Decides-like}
use Rattle.laws.specs.Text.{text}
use Rattle.laws.proofs.Text.{text_of_chars}
use Rattle.rendering_tree.specs.Trees.{Child, Children, nothing, before, followed_by}
use Rattle.rendering_tree.specs.Views.{child_view, children_view}
use Rattle.rendering_tree.specs.declared.element.ElemChild.{ElemChild}
use Rattle.rendering_tree.proofs.SimplifySteps.{children-append}
use Rattle.rendering.proofs.LastBlocks.{last_apart, last_set}
use Rattle.driver_citations.specs.Ends.{end_of, end_of_child, ended, ended_child, start_of, start_of_child}

-- texts are one where their characters are
pub same_characters : (a b : List ℕ) → IsUtf8 a → IsUtf8 b → bytes_eq a b ≡ bytes_eq (chars a) (chars b)
same_characters a b u v =
    same_from_decides (bytes_eq a b) (bytes_eq (chars a) (chars b)) (bytes_decides a b)
    (Decides-like (bytes_eq (chars a) (chars b)) (λ e. sym (text_of_chars a u) ∙ ap text e ∙ text_of_chars b v) (ap chars) (bytes_decides (chars a) (chars b)))

-- one character less
pub one_less : {X : Type 0} (i : ℕ) (xs ys zs : List X) → ys ≡ drop i xs → zs ≡ drop 1 ys → zs ≡ drop (i + 1) xs
one_less i xs ys zs h e = e ∙ ap (drop 1) h ∙ drop-drop 1 i xs

-- a list ends as its last child does
after_others : (zs : Children) (y : Child) → end_of (followed_by zs (before y nothing)) ≡ end_of_child y
after_others nothing y = refl
after_others (before z nothing) y = refl
after_others (before z (before w ws)) y = after_others (before w ws) y

pub end_last : (xs : List ElemChild) (x : ElemChild) → 0 < length xs → x ≡ get_or xs (length xs - 1) x → end_of_child (child_view x) ≡ end_of (children_view xs)
end_last xs x some is =
    let n = length xs - 1 in
    sym (ap (λ ys. end_of (children_view ys)) (last_apart xs x some is) ∙ ap end_of (children-append (take n xs) (x ∷ [])) ∙ after_others (children_view (take n xs)) (child_view x))

-- a list begins as its first child does
pub start_first : (xs : List ElemChild) (x : ElemChild) → 0 < length xs → x ≡ get_or xs 0 x → start_of_child (child_view x) ≡ start_of (children_view xs)
start_first [] x some is = absurd (let never : ⊥ = omega (arith, some) in never)
start_first (y ∷ ys) x some is = ap (λ z. start_of_child (child_view z)) is

-- a list of which the last child ends in another text
ended_others : (end : List ℕ) (zs : Children) (y : Child) → ended end (followed_by zs (before y nothing)) ≡ followed_by zs (before (ended_child end y) nothing)
ended_others end nothing y = refl
ended_others end (before z nothing) y = refl
ended_others end (before z (before w ws)) y = ap (before z) (ended_others end (before w ws) y)

pub ended_last : (end : List ℕ) (xs : List ElemChild) (x y : ElemChild) → 0 < length xs → x ≡ get_or xs (length xs - 1) x → child_view y ≡ ended_child end (child_view x)
    → children_view (set xs (length xs - 1) y) ≡ ended end (children_view xs)
ended_last end xs x y some is e =
    let front = take (length xs - 1) xs in
    ap children_view (last_set xs y some)
    ∙ children-append front (y ∷ [])
    ∙ ap (λ z. followed_by (children_view front) (before z nothing)) e
    ∙ sym (ended_others end (children_view front) (child_view x))
    ∙ ap (ended end) (sym (children-append front (x ∷ [])))
    ∙ ap (λ ys. ended end (children_view ys)) (sym (last_apart xs x some is))
