-- Texts that meet the one in which a tree ends.
use Rattle.std.proofs.Common.{◌≡◌, ℕ, ◌+◌, ◌-◌, ◌<◌, ◌≤◌, min, Bool, true, false, true≢false, List, [], ◌∷◌, ◌++◌, length, take, get_or, set, refl, sym, ap, ◌∙◌, arith, Option, Some, None}
use Rattle.std.specs.Prelude.{MatchOption, if◌then◌else◌}
use Rattle.std.specs.Option.{option_map_or}
use Rattle.std.proofs.lemmas.List.{length-append, length-take, reverse-append, take-take, take_all, take_at}
use Rattle.laws.specs.Text.{is_filled}
use Rattle.rendering_page.specs.Joints.{first}
use Rattle.rendering_page.specs.Pages.{Quotes}
use Rattle.rendering_taxonomy.specs.declared.formatting.Display.{Display}
use Rattle.rendering_tree.specs.Metas.{Meta}
use Rattle.rendering_tree.specs.Trees.{Children, Elem}
use Rattle.rendering_tree.specs.Views.{child_view, children_view}
use Rattle.rendering_tree.specs.declared.element.ElemChild.{ElemChild}
use Rattle.driver_citations.specs.Ends.{end_of, end_of_child, ended_child}
use Rattle.driver_citations.specs.Meeting.{before_character, before_text, close_quote, gives_way, last_of, left_after, met, met_before, met_child, met_list, without_last}
use Rattle.driver_citations.proofs.EndingTexts.{end_last, ended_last}

-- nothing is cut
pub none_cut : (cs : List ℕ) → cs ≡ without_last 0 cs
none_cut cs = sym (take_all (length cs - 0) cs (omega arith))

-- one more character is cut, if there is one
pub one_cut : (i : ℕ) (old now new : List ℕ) (r : Option ℕ) → now ≡ without_last i old → MatchOption r ((now ≡ []) × (new ≡ [])) (λ c. now ≡ new ++ c ∷ []) → new ≡ without_last (i + 1) old
one_cut i old now new None e h =
    let none : length now ≡ 0 = ap length h.0 in
    let long : length now ≡ min (length old - i) (length old) = ap length e ∙ length-take (length old - i) old in
    let all : length old - (i + 1) ≡ 0 = omega (arith, none, long) in
    h.1 ∙ ap (λ n. take n old) (sym all)
one_cut i old now new (Some c) e h =
    let long : length now ≡ min (length old - i) (length old) = ap length e ∙ length-take (length old - i) old in
    let grown : length now ≡ length new + 1 = ap length h ∙ length-append new (c ∷ []) in
    let less : length new ≤ length old - i = omega (arith, long, grown) in
    let cut : length new ≡ length old - (i + 1) = omega (arith, long, grown) in
    sym (take_at new (c ∷ []) (length new) refl)
    ∙ ap (take (length new)) (sym h ∙ e)
    ∙ take-take (length new) (length old - i) old less
    ∙ ap (λ n. take n old) cut

-- the last character
pub last_is : (cs ds : List ℕ) (c : ℕ) → cs ≡ ds ++ c ∷ [] → Some c ≡ last_of cs
last_is cs ds c e = sym (ap last_of e ∙ ap first (reverse-append ds (c ∷ [])))

pub no_last : (cs : List ℕ) → cs ≡ [] → None ≡ last_of cs
no_last cs e = sym (ap last_of e)

-- a text before a character, without its last one or with it
pub goes_before : (c : ℕ) (cs front new : List ℕ) (last : ℕ) (goes : Bool) → cs ≡ front ++ last ∷ [] → goes ≡ gives_way last c → new ≡ (if goes then front else cs) → new ≡ before_character c cs
goes_before c cs front new last goes e is h =
    h
    ∙ ap (λ xs. if goes then xs else cs) (one_cut 0 cs cs front (Some last) (none_cut cs) e)
    ∙ ap (λ b. if b then without_last 1 cs else cs) is
    ∙ ap (λ o. if option_map_or (λ d. gives_way d c) o false then without_last 1 cs else cs) (last_is cs front last e)

-- nothing goes of the empty text
pub none_before : (c : ℕ) (cs : List ℕ) → cs ≡ [] → cs ≡ before_character c cs
none_before c cs e = ap (λ o. if option_map_or (λ d. gives_way d c) o false then without_last 1 cs else cs) (no_last cs e)

-- one text before another one
pub before_first : (ds cs rest mid new : List ℕ) (c : ℕ) → ds ≡ c ∷ rest → mid ≡ before_character c cs → new ≡ before_character c mid → new ≡ before_text ds cs
before_first ds cs rest mid new c e once again = again ∙ ap (before_character c) once ∙ ap (λ xs. before_text xs cs) (sym e)

pub before_none : (ds cs : List ℕ) → ds ≡ [] → cs ≡ before_text ds cs
before_none ds cs e = ap (λ xs. before_text xs cs) (sym e)

-- nothing meets the empty text
pub met_empty : (quotes : Quotes) (cs ds : List ℕ) → is_filled cs ≡ false → cs ≡ met quotes cs ds
met_empty quotes [] ds e = refl
met_empty quotes (c ∷ cs) ds e = absurd (true≢false e)

pub left_empty : (quotes : Quotes) (cs ds : List ℕ) → is_filled cs ≡ false → ds ≡ left_after quotes cs ds
left_empty quotes [] ds e = refl
left_empty quotes (c ∷ cs) ds e = absurd (true≢false e)

-- the empty text meets nothing
pub met_nothing : (quotes : Quotes) (cs ds : List ℕ) → ds ≡ [] → cs ≡ met quotes cs ds
met_nothing quotes [] ds e = refl
met_nothing quotes (c ∷ cs) ds e = ap (met quotes (c ∷ cs)) (sym e)

pub left_nothing : (quotes : Quotes) (cs ds : List ℕ) → ds ≡ [] → ds ≡ left_after quotes cs ds
left_nothing quotes [] ds e = refl
left_nothing quotes (c ∷ cs) ds e = e ∙ ap (left_after quotes (c ∷ cs)) (sym e)

-- where the first character has met what stands before the close quote
pub met_whole : (quotes : Quotes) (cs ds rest quote now new : List ℕ) (d : ℕ) → is_filled cs ≡ true → ds ≡ d ∷ rest → quote ≡ close_quote quotes cs → now ≡ (met_before quote cs d).text → new ≡ now ++ quote
    → new ≡ met quotes cs ds
met_whole quotes [] ds rest quote now new d some e q h n = absurd (true≢false (sym some))
met_whole quotes (c ∷ cs) ds rest quote now new d some e q h n =
    n ∙ ap (λ xs. xs ++ quote) h ∙ ap (λ xs. (met_before xs (c ∷ cs) d).text ++ xs) q ∙ ap (met quotes (c ∷ cs)) (sym e)

pub left_whole : (quotes : Quotes) (cs ds rest quote new : List ℕ) (d : ℕ) (taken : Bool) → is_filled cs ≡ true → ds ≡ d ∷ rest → quote ≡ close_quote quotes cs → taken ≡ (met_before quote cs d).is_taken
    → new ≡ (if taken then rest else ds) → new ≡ left_after quotes cs ds
left_whole quotes [] ds rest quote new d taken some e q h n = absurd (true≢false (sym some))
left_whole quotes (c ∷ cs) ds rest quote new d taken some e q h n =
    n
    ∙ (λ i. if (h ∙ ap (λ xs. (met_before xs (c ∷ cs) d).is_taken) q) i then rest else e i)
    ∙ ap (left_after quotes (c ∷ cs)) (sym e)

-- nothing meets a list without children
pub met_none : (quotes : Quotes) (ds : List ℕ) (xs : List ElemChild) → length xs ≡ 0 → children_view xs ≡ met_list quotes ds (children_view xs)
met_none quotes ds [] e = refl
met_none quotes ds (x ∷ xs) e = absurd (let never : ⊥ = omega (arith, e) in never)

pub left_none : (quotes : Quotes) (ds : List ℕ) (xs : List ElemChild) → length xs ≡ 0 → ds ≡ left_after quotes (end_of (children_view xs)) ds
left_none quotes ds [] e = refl
left_none quotes ds (x ∷ xs) e = absurd (let never : ⊥ = omega (arith, e) in never)

-- the last child has met the text
pub meets_last : (quotes : Quotes) (ds : List ℕ) (xs : List ElemChild) (i : ℕ) (x y : ElemChild) → i ≡ length xs → 0 < i → x ≡ get_or xs (i - 1) x → child_view y ≡ met_child quotes ds (child_view x)
    → children_view (set xs (i - 1) y) ≡ met_list quotes ds (children_view xs)
meets_last quotes ds xs i x y all some is e =
    let filled : 0 < length xs = omega (arith, all, some) in
    let last : x ≡ get_or xs (length xs - 1) x = is ∙ ap (λ n. get_or xs (n - 1) x) all in
    ap (λ n. children_view (set xs (n - 1) y)) all
    ∙ ended_last (met quotes (end_of (children_view xs)) ds) xs x y filled last
    (e ∙ ap (λ cs. ended_child (met quotes cs ds) (child_view x)) (end_last xs x filled last))

pub left_last : (quotes : Quotes) (ds : List ℕ) (xs : List ElemChild) (i : ℕ) (x : ElemChild) (rest : List ℕ) → i ≡ length xs → 0 < i → x ≡ get_or xs (i - 1) x → rest ≡ left_after quotes (end_of_child (child_view x)) ds
    → rest ≡ left_after quotes (end_of (children_view xs)) ds
left_last quotes ds xs i x rest all some is e =
    let filled : 0 < length xs = omega (arith, all, some) in
    let last : x ≡ get_or xs (length xs - 1) x = is ∙ ap (λ n. get_or xs (n - 1) x) all in
    e ∙ ap (λ cs. left_after quotes cs ds) (end_last xs x filled last)

-- what an element contains has
pub element_meets : (quotes : Quotes) (ds : List ℕ) (d e : Option Display) (m n : Option Meta) (xs ys : Children) → e ≡ d → n ≡ m → ys ≡ met_list quotes ds xs → Elem e n ys ≡ met_child quotes ds (Elem d m xs)
element_meets quotes ds d e m n xs ys f g h = λ i. Elem (f i) (g i) (h i)
