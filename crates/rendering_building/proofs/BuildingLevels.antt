-- The children of elements that are read, one after the other in one list.
use Rattle.std.proofs.Common.{◌≡◌, ◌+◌, ◌<◌, ◌≤◌, ℕ, true, false, List, [], ◌∷◌, ◌++◌, length, take, drop, get_or, sym, ap, ◌∙◌, arith}
use Rattle.std.specs.Prelude.{min, reverse, Option}
use Rattle.std.proofs.Math.Nat.{min-le_right}
use Rattle.std.proofs.lemmas.List.{reverse-append, drop-append-le, take-append-le, take_all, drop_all, take_min, drop_min, take_more, length-append, length-take-le}
use Rattle.laws.specs.Text.{characters, is_filled}
use Rattle.rendering_taxonomy.specs.declared.formatting.Display.{Display}
use Rattle.rendering_taxonomy.specs.declared.formatting.Formatting.{Formatting}
use Rattle.rendering_tree.specs.Metas.{Meta}
use Rattle.rendering_tree.specs.Trees.{Children, Elem, nothing, before, Nest, element_read}
use Rattle.rendering_tree.specs.Views.{child_view}
use Rattle.rendering_tree.specs.declared.element.ElemChild.{ElemChild}
use Rattle.rendering_tree.specs.declared.element.ElemChild.TheVariants as parts
use Rattle.rendering_tree.specs.declared.element.Formatted.{Formatted}
use Rattle.rendering_tree.proofs.ViewsLevels.{child-Text}
use Rattle.rendering_building.specs.Building.{IsJoined, backwards, joins, joins_child, level, levels, next_start, text_before, text_on}
use Rattle.rendering_building.proofs.BuildingReading.{backwards_push, nest, text_before_child, unjoined}

-- a child more
pub level_push : (s : ℕ) (xs : List ElemChild) (x : ElemChild) → s ≤ length xs → level s (xs ++ x ∷ []) ≡ before (child_view x) (level s xs)
level_push s xs x low = ap backwards (drop-append-le s xs (x ∷ []) low) ∙ backwards_push (drop s xs) x

-- no child from the end on
pub level_over : (s : ℕ) (xs : List ElemChild) → length xs ≤ s → level s xs ≡ nothing
level_over s xs high = ap backwards (drop_all s xs high)

longer : (xs : List ElemChild) (x : ElemChild) → length (xs ++ x ∷ []) ≡ length xs + 1
longer xs x = length-append xs (x ∷ [])

-- a child that is put before what was read, where no text is being read
pub pushed : (f : Formatting) (cs : List ℕ) (s : ℕ) (xs ys : List ElemChild) (x : ElemChild) (starts : List ℕ) (n : Nest) → cs ≡ [] → s ≤ length xs → ys ≡ xs ++ x ∷ []
    → nest (text_before f cs (level s xs)) (levels (take s xs) starts) ≡ n → nest (text_before f cs (level s ys)) (levels (take s ys) starts) ≡ record n { inside = before (child_view x) n.inside }
pushed f cs s xs ys x starts n none low e is =
    ap (λ zs. nest (text_before f cs (level s zs)) (levels (take s zs) starts)) e
    ∙ ap (λ bs. nest (text_before f bs (level s (xs ++ x ∷ []))) (levels (take s (xs ++ x ∷ [])) starts)) none
    ∙ (λ k. nest (level_push s xs x low k) (levels (take-append-le s xs (x ∷ []) low k) starts))
    ∙ ap (λ bs. nest (before (child_view x) (text_before f bs (level s xs))) (levels (take s xs) starts)) (sym none)
    ∙ ap (λ (m : Nest). nest (before (child_view x) m.inside) m.around) is

-- the end of an element is read
pub closed : (f : Formatting) (cs : List ℕ) (s t : ℕ) (xs : List ElemChild) (before_it after_it : List ℕ) (n : Nest) → cs ≡ [] → t ≡ length xs → after_it ≡ before_it ++ s ∷ []
    → nest (text_before f cs (level s xs)) (levels (take s xs) (reverse before_it)) ≡ n
    → nest (text_before f cs (level t xs)) (levels (take t xs) (reverse after_it)) ≡ nest nothing (n.inside ∷ n.around)
closed f cs s t xs before_it after_it n none end e is =
    let high : length xs ≤ t = omega (arith, end) in
    ap (λ ds. nest (text_before f ds (level t xs)) (levels (take t xs) (reverse after_it))) none
    ∙ (λ k. nest (level_over t xs high k) (levels (take_all t xs high k) (reverse after_it)))
    ∙ ap (λ ds. nest nothing (levels xs ds)) (ap reverse e ∙ reverse-append before_it (s ∷ []))
    ∙ ap (λ ds. nest nothing (text_before f ds (level s xs) ∷ levels (take s xs) (reverse before_it))) (sym none)
    ∙ ap (λ (m : Nest). nest nothing (m.inside ∷ m.around)) is

-- an element stands before the children around it
pub opened : (d : Option Display) (m : Option Meta) (x : ElemChild) (inside : Children) (xs : List ElemChild) (starts : List ℕ) → child_view x ≡ Elem d m inside
    → nest (level (next_start starts (length xs)) (xs ++ x ∷ [])) (levels (take (next_start starts (length xs)) (xs ++ x ∷ [])) (drop 1 starts)) ≡ element_read d m inside (levels xs starts)
opened d m x inside xs [] e =
    let all : length xs ≤ length xs = omega arith in
    ap (λ ys. nest ys []) (level_push (length xs) xs x all ∙ (λ k. before (e k) (level_over (length xs) xs all k)))
opened d m x inside xs (s ∷ starts) e =
    let low : min s (length xs) ≤ length xs = min-le_right s (length xs) in
    (λ k. nest (level_push (min s (length xs)) xs x low k) (levels (take-append-le (min s (length xs)) xs (x ∷ []) low k) starts))
    ∙ (λ k. nest (before (e k) (backwards (drop_min s xs k))) (levels (take_min s xs k) starts))

-- where the children of the next element begin
pub next_within : (starts : List ℕ) (end : ℕ) → next_start starts end ≤ end
next_within [] end = omega arith
next_within (s ∷ starts) end = min-le_right s end

-- a text before children that it does not join
pub put_after : (t : Formatted) (s : ℕ) (xs ys : List ElemChild) → is_filled (characters t.text) ≡ true → s ≤ length xs → joins t.formatting (level s xs) ≡ false → ys ≡ xs ++ parts.Text t ∷ []
    → IsJoined t.formatting (characters t.text) s xs ys
put_after t s xs ys filled low apart e =
    let x = parts.Text t in
    let size : length ys ≡ length xs + 1 = ap length e ∙ longer xs x in (
      ap (level s) e ∙ level_push s xs x low ∙ ap (λ y. before y (level s xs)) (child-Text t) ∙ sym (unjoined t.formatting (characters t.text) (level s xs) filled apart),
      ap (take s) e ∙ take-append-le s xs (x ∷ []) low,
      omega (arith, size, low),
    )

-- the last child as the first of what was read
pub last_joins : (f : Formatting) (s i : ℕ) (xs : List ElemChild) (x : ElemChild) → i + 1 ≡ length xs → s ≤ i → x ≡ get_or xs i x → joins f (level s xs) ≡ joins_child f (child_view x)
last_joins f s i xs x next low at =
    let inside : i < length xs = omega (arith, next) in
    let high : length xs ≤ i + 1 = omega (arith, next) in
    let size : length (take i xs) ≡ i = length-take-le i xs (omega (arith, next)) in
    let leading = take i xs in
    let parted : xs ≡ leading ++ x ∷ [] = sym (take_all (i + 1) xs high) ∙ take_more xs i x inside ∙ ap (λ y. leading ++ y ∷ []) (sym at) in
    ap (λ ys. joins f (level s ys)) parted ∙ ap (joins f) (level_push s leading x (omega (arith, size, low)))

-- a text joined with the last child
pub joined_at_last : (f : Formatting) (cs : List ℕ) (s : ℕ) (xs ys zs : List ElemChild) (x y : ElemChild) → is_filled cs ≡ true → s < length xs → joins f (level s xs) ≡ true
    → xs ≡ ys ++ x ∷ [] → zs ≡ ys ++ y ∷ [] → (joins_child f (child_view x) ≡ true → (ws : Children) → before (child_view y) ws ≡ text_on f cs (child_view x) ws) → IsJoined f cs s xs zs
joined_at_last f cs s xs ys zs x y filled inside joins_it was is made =
    let size : length xs ≡ length ys + 1 = ap length was ∙ longer ys x in
    let sizes : length zs ≡ length ys + 1 = ap length is ∙ longer ys y in
    let low : s ≤ length ys = omega (arith, size, inside) in
    let before_last : level s xs ≡ before (child_view x) (level s ys) = ap (level s) was ∙ level_push s ys x low in
    let joins_last : joins_child f (child_view x) ≡ true = sym (ap (joins f) before_last) ∙ joins_it in (
      ap (level s) is ∙ level_push s ys y low ∙ made joins_last (level s ys) ∙ sym (text_before_child f cs (child_view x) (level s ys) filled) ∙ ap (text_before f cs) (sym before_last),
      ap (take s) is ∙ take-append-le s ys (y ∷ []) low ∙ sym (ap (take s) was ∙ take-append-le s ys (x ∷ []) low),
      omega (arith, sizes, low),
    )
