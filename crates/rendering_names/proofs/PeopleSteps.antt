-- The people of several variables, one after the other.
use Rattle.std.proofs.Common.{arith, ◌≡◌, ℕ, zero, suc, ◌+◌, ◌<◌, ◌≤◌, min, List, [], ◌∷◌, ◌++◌, length, take, drop, zip, get_or, refl, sym, ap, ◌∙◌}
use Rattle.std.specs.List.{enumerate_from, flat_map}
use Rattle.std.proofs.lemmas.List.{length-map, length-take-le, take_more, take_all, drop_more, drop-drop, get_or-drop, get_or-map, flat_map_more}
use Rattle.std.proofs.lemmas.List.FromFn.{length-enumerate_from, get_or-enumerate_from}
use Rattle.std.proofs.lemmas.Slice.Zip.{length-zip, get_or-zip}
use Rattle.rendering_page.specs.Pages.{Page, Quotes}
use Rattle.rendering_page.specs.Pieces.{Piece, append_pieces}
use Rattle.rendering_style.specs.Nodes.{NamesNode}
use Rattle.rendering_people.specs.Counts.{cut}
use Rattle.rendering_people.proofs.CountsWhole.{of_count}
use Rattle.rendering_names.specs.Names.{NameStyle, indexed_variable, next_variable}
use Rattle.rendering_people.specs.Properties.{VariableProperties}
use Rattle.rendering_people.specs.Views.{all_lent_answered_view, lent_answered_view}
use Rattle.rendering_people.specs.declared.people.Answered.{Answered}
use Rattle.rendering_people.specs.declared.properties.PeopleCount.{PeopleCount}
use Rattle.rendering_names.proofs.PiecesAppended.{append-both}
use Rattle.rendering_taxonomy.specs.declared.name.DisambiguatedNameForm.{DisambiguatedNameForm}

abbrev Forms : Type 0
Forms = List DisambiguatedNameForm

length-cut : (cs : List PeopleCount) (fs : Forms) → length (cut cs fs) ≡ length cs
length-cut [] fs = refl
length-cut (c ∷ cs) fs = ap suc (length-cut cs (drop c.people fs))

-- what remains from an index on
remains : (cs : List PeopleCount) (fs rest : Forms) (i : ℕ) (d : PeopleCount) → i < length cs → drop i (cut cs fs) ≡ cut (drop i cs) rest
    → drop i (cut cs fs) ≡ of_count (get_or cs i d) (take (get_or cs i d).people rest) ∷ cut (drop (i + 1) cs) (drop (get_or cs i d).people rest)
remains cs fs rest i d low same = same ∙ ap (λ ds. cut ds rest) (drop_more cs i d low)

cut_after : (cs : List PeopleCount) (fs rest : Forms) (i : ℕ) (d : PeopleCount) → i < length cs → drop i (cut cs fs) ≡ cut (drop i cs) rest
    → drop (i + 1) (cut cs fs) ≡ cut (drop (i + 1) cs) (drop (get_or cs i d).people rest)
cut_after cs fs rest i d low same = sym (drop-drop 1 i (cut cs fs)) ∙ ap (drop 1) (remains cs fs rest i d low same)

cut_at : (cs : List PeopleCount) (fs rest : Forms) (i : ℕ) (d : PeopleCount) (q : VariableProperties) → i < length cs → drop i (cut cs fs) ≡ cut (drop i cs) rest
    → get_or (cut cs fs) i q ≡ of_count (get_or cs i d) (take (get_or cs i d).people rest)
cut_at cs fs rest i d q low same =
    sym (get_or-drop i (cut cs fs) 0 q ∙ ap (λ k. get_or (cut cs fs) k q) (add_zero i)) ∙ ap (λ ps. get_or ps 0 q) (remains cs fs rest i d low same)
  where
    add_zero : (n : ℕ) → n + 0 ≡ n
    add_zero n = omega arith

run_at : {A B : Type 0} (xs : List A) (ys : List B) (i : ℕ) (x : A) (y : B) → i < length xs → i < length ys → get_or xs i x ≡ x → get_or ys i y ≡ y
    → get_or (enumerate_from 0 (zip xs ys)) i (0, (x, y)) ≡ (i, (x, y))
run_at xs ys i x y low high is_x is_y =
    let both : i < length (zip xs ys) = omega (arith, length-zip xs ys) in
    get_or-enumerate_from 0 (zip xs ys) i (0, (x, y)) both
    ∙ (λ j. (zero_add i j, get_or-zip xs ys i (x, y) low high j))
    ∙ (λ j. (i, (is_x j, is_y j)))
  where
    zero_add : (n : ℕ) → 0 + n ≡ n
    zero_add n = omega arith

-- one more of two runs is appended
run_more : {A B : Type 0} (quotes : Quotes) (g : ℕ × (A × B) → List Piece) (xs : List A) (ys : List B) (i : ℕ) (x : A) (y : B) (start old new : Page)
    → i < length xs → i < length ys → get_or xs i x ≡ x → get_or ys i y ≡ y
    → old ≡ append_pieces quotes (flat_map g (take i (enumerate_from 0 (zip xs ys)))) start
    → new ≡ append_pieces quotes (g (i, (x, y))) old
    → new ≡ append_pieces quotes (flat_map g (take (i + 1) (enumerate_from 0 (zip xs ys)))) start
run_more quotes g xs ys i x y start old new low high is_x is_y before after =
    let all = enumerate_from 0 (zip xs ys) in
    let there : i < length all = omega (arith, length-enumerate_from 0 (zip xs ys), length-zip xs ys) in
    append-both quotes (flat_map g (take i all)) (g (i, (x, y))) start old new before after
    ∙ ap (λ qs. append_pieces quotes qs start)
    (flat_map_more g [] (take i all) (i, (x, y))
    ∙ ap (flat_map g) (ap (λ q. take i all ++ q ∷ []) (sym (run_at xs ys i x y low high is_x is_y)) ∙ sym (take_more all i (0, (x, y)) there)))

-- people before an index
front_view : (n : ℕ) (people : List Answered) → all_lent_answered_view (take n people) ≡ take n (all_lent_answered_view people)
front_view zero people = refl
front_view (suc n) [] = refl
front_view (suc n) (a ∷ people) = ap (λ xs. lent_answered_view a ∷ xs) (front_view n people)

-- the people of one more variable are appended
pub people-more : (quotes : Quotes) (s : NameStyle) (h : NamesNode) (cs : List PeopleCount) (fs rest : Forms) (people before : List Answered) (i : ℕ) (d : PeopleCount) (a : Answered) (own : Forms)
    (start old new : Page)
    → i < length cs → i < length people → a ≡ get_or people i a → own ≡ take (get_or cs i d).people rest → drop i (cut cs fs) ≡ cut (drop i cs) rest → before ≡ take i people
    → old ≡ append_pieces quotes (flat_map (indexed_variable s h (all_lent_answered_view people)) (take i (enumerate_from 0 (zip (cut cs fs) (all_lent_answered_view people))))) start
    → new ≡ append_pieces quotes (next_variable s h (all_lent_answered_view before) (length before) (of_count (get_or cs i d) own, lent_answered_view a)) old
    → new ≡ append_pieces quotes (flat_map (indexed_variable s h (all_lent_answered_view people)) (take (i + 1) (enumerate_from 0 (zip (cut cs fs) (all_lent_answered_view people))))) start
people-more quotes s h cs fs rest people before i d a own start old new low high is_a is_own same is_before x y =
    let q = of_count (get_or cs i d) own in
    let b = lent_answered_view a in
    let low_cut : i < length (cut cs fs) = omega (arith, length-cut cs fs) in
    let high_view : i < length (all_lent_answered_view people) = omega (arith, length-map people lent_answered_view) in
    let is_q : get_or (cut cs fs) i q ≡ q = cut_at cs fs rest i d q low same ∙ ap (of_count (get_or cs i d)) (sym is_own) in
    let is_b : get_or (all_lent_answered_view people) i b ≡ b = get_or-map lent_answered_view people i a b high ∙ ap lent_answered_view (sym is_a) in
    let front : all_lent_answered_view before ≡ take i (all_lent_answered_view people) = ap all_lent_answered_view is_before ∙ front_view i people in
    let many : length before ≡ i = ap length is_before ∙ length-take-le i people (omega (arith, high)) in
    run_more quotes (indexed_variable s h (all_lent_answered_view people)) (cut cs fs) (all_lent_answered_view people) i q b start old new low_cut high_view is_q is_b x
    (y ∙ (λ j. append_pieces quotes (next_variable s h (front j) (many j) (q, b)) old))

-- and what remains are the others
pub others-remain : (cs : List PeopleCount) (fs rest others : Forms) (i : ℕ) (d : PeopleCount) → i < length cs → others ≡ drop (get_or cs i d).people rest → drop i (cut cs fs) ≡ cut (drop i cs) rest
    → drop (i + 1) (cut cs fs) ≡ cut (drop (i + 1) cs) others
others-remain cs fs rest others i d low is_others same = cut_after cs fs rest i d low same ∙ ap (cut (drop (i + 1) cs)) (sym is_others)

-- all of them
pub people-all : (cs : List PeopleCount) (fs : Forms) (people : List Answered) (n i : ℕ) → n ≡ min (length cs) (length people) → n ≤ i
    → take i (enumerate_from 0 (zip (cut cs fs) (all_lent_answered_view people))) ≡ enumerate_from 0 (zip (cut cs fs) (all_lent_answered_view people))
people-all cs fs people n i is_n past =
    let all = enumerate_from 0 (zip (cut cs fs) (all_lent_answered_view people)) in
    let long : length all ≤ i =
    omega (arith, length-enumerate_from 0 (zip (cut cs fs) (all_lent_answered_view people)), length-zip (cut cs fs) (all_lent_answered_view people), length-cut cs fs, length-map people lent_answered_view) in
    take_all i all long
