-- People with their forms under their indices, one after the other.
use Rattle.std.proofs.Common.{arith, ◌≡◌, ℕ, ◌+◌, ◌-◌, ◌<◌, ◌≤◌, min, List, [], ◌∷◌, ◌++◌, length, take, drop, zip, get_or, sym, ap, ◌∙◌}
use Rattle.std.specs.List.{flat_map}
use Rattle.std.specs.declared.borrow.Cow.{Cow}
use Rattle.std.proofs.lemmas.List.{append-nil, length-map, get_or-map, get_or_default, take_more, take_min, drop_more, drop_all, flat_map_more}
use Rattle.std.proofs.lemmas.List.FromFn.{length-enumerate_from, get_or-enumerate_from}
use Rattle.std.proofs.lemmas.Slice.Zip.{length-zip, get_or-zip}
use Rattle.literature_values.specs.declared.person.Person.{Person}
use Rattle.literature_values.specs.PersonViews.{lent_person_view}
use Rattle.rendering_page.specs.Pages.{Page, Quotes}
use Rattle.rendering_page.specs.Pieces.{Piece, append_pieces}
use Rattle.rendering_names.specs.Names.{NameStyle, IndexedPerson, after_ellipsis, before_name, name_pieces, indexed_pieces, shown_pieces, last_pieces, rest_pieces, list_pieces}
use Rattle.rendering_people.specs.Views.{lent_people_view}
use Rattle.rendering_names.specs.Views.{indexed}
use Rattle.rendering_names.proofs.PiecesAppended.{append-both}
use Rattle.rendering_taxonomy.specs.declared.name.DisambiguatedNameForm.{DisambiguatedNameForm}
use Rattle.rendering_taxonomy.specs.declared.variable.NameVariable.{NameVariable}

-- how many they are
pub length-indexed : (fs : List DisambiguatedNameForm) (ps : List (Cow Person)) → length (indexed fs ps) ≡ min (length fs) (length ps)
length-indexed fs ps = length-enumerate_from 0 (zip fs (lent_people_view ps)) ∙ length-zip fs (lent_people_view ps) ∙ ap (min (length fs)) (length-map ps lent_person_view)

-- the one at an index
pub indexed_at : (fs : List DisambiguatedNameForm) (ps : List (Cow Person)) (i : ℕ) (f : DisambiguatedNameForm) (p : Cow Person)
    → i < length fs → i < length ps → f ≡ get_or fs i f → p ≡ get_or ps i p
    → get_or (indexed fs ps) i (0, (f, lent_person_view p)) ≡ (i, (f, lent_person_view p))
indexed_at fs ps i f p low high is_f is_p =
    let people = lent_people_view ps in
    let there : i < length people = omega (arith, length-map {A = Cow Person} ps lent_person_view) in
    let both : i < length (zip fs people) = omega (arith, length-zip fs people) in
    get_or-enumerate_from 0 (zip fs people) i (0, (f, lent_person_view p)) both
    ∙ (λ j. (zero_add i j, get_or-zip fs people i (f, lent_person_view p) low there j))
    ∙ (λ j. (i, (sym is_f j, (get_or-map lent_person_view ps i p (lent_person_view p) high ∙ ap lent_person_view (sym is_p)) j)))
  where
    zero_add : (n : ℕ) → 0 + n ≡ n
    zero_add n = omega arith

-- one more is appended, after what stands before it
pub shown-more : (quotes : Quotes) (s : NameStyle) (v : NameVariable) (n : ℕ) (fs : List DisambiguatedNameForm) (ps : List (Cow Person)) (i : ℕ) (d : DisambiguatedNameForm) (p : Cow Person)
    (start old before new : Page)
    → i < length fs → i < length ps → p ≡ get_or ps i p
    → old ≡ append_pieces quotes (shown_pieces s v n (take i (indexed fs ps))) start
    → before ≡ append_pieces quotes (before_name s.locales s.manner s.options n i) old
    → new ≡ append_pieces quotes (name_pieces s v i (get_or fs i d) (lent_person_view p)) before
    → new ≡ append_pieces quotes (shown_pieces s v n (take (i + 1) (indexed fs ps))) start
shown-more quotes s v n fs ps i d p start old before new low high is_p a b c =
    let f = get_or fs i d in
    let is_f : f ≡ get_or fs i f = get_or_default fs i d f low in
    let all = indexed fs ps in
    let there : i < length all = omega (arith, length-indexed fs ps) in
    let here : List Piece = before_name s.locales s.manner s.options n i ++ name_pieces s v i f (lent_person_view p) in
    let leading : List Piece = shown_pieces s v n (take i all) in
    append-both quotes leading here start old new a (append-both quotes (before_name s.locales s.manner s.options n i) (name_pieces s v i f (lent_person_view p)) old before new b c)
    ∙ ap (λ qs. append_pieces quotes qs start)
    (flat_map_more (λ (q : IndexedPerson). before_name s.locales s.manner s.options n q.0 ++ indexed_pieces s v q) [] (take i all) (i, (f, lent_person_view p))
    ∙ ap (shown_pieces s v n) (ap (λ q. take i all ++ q ∷ []) (sym (indexed_at fs ps i f p low high is_f is_p)) ∙ sym (take_more all i (0, (f, lent_person_view p)) there)))

-- the last one
last_is : (s : NameStyle) (v : NameVariable) (fs : List DisambiguatedNameForm) (ps : List (Cow Person)) (i : ℕ) (f : DisambiguatedNameForm) (p : Cow Person)
    → i < length fs → i < length ps → f ≡ get_or fs i f → p ≡ get_or ps i p → length (indexed fs ps) ≡ i + 1
    → last_pieces s v (i + 1) (indexed fs ps) ≡ name_pieces s v i f (lent_person_view p)
last_is s v fs ps i f p low high is_f is_p all_are =
    let all = indexed fs ps in
    let there : i < length all = omega arith in
    let none : length all ≤ i + 1 = omega arith in
    ap (λ k. flat_map (indexed_pieces s v) (drop k all)) (before_next i)
    ∙ ap (flat_map (indexed_pieces s v)) (drop_more all i (0, (f, lent_person_view p)) there ∙ (λ j. indexed_at fs ps i f p low high is_f is_p j ∷ drop_all (i + 1) all none j))
    ∙ append-nil (name_pieces s v i f (lent_person_view p))
  where
    before_next : (n : ℕ) → n + 1 - 1 ≡ n
    before_next n = omega arith

-- it is appended after an ellipsis
pub last-append : (quotes : Quotes) (s : NameStyle) (v : NameVariable) (fs : List DisambiguatedNameForm) (ps : List (Cow Person)) (i : ℕ) (d : DisambiguatedNameForm) (p : Cow Person)
    (start before new : Page)
    → i < length fs → i < length ps → p ≡ get_or ps i p → length (indexed fs ps) ≡ i + 1
    → before ≡ append_pieces quotes (after_ellipsis s []) start
    → new ≡ append_pieces quotes (name_pieces s v i (get_or fs i d) (lent_person_view p)) before
    → new ≡ append_pieces quotes (after_ellipsis s (last_pieces s v (i + 1) (indexed fs ps))) start
last-append quotes s v fs ps i d p start before new low high is_p all_are a b =
    let f = get_or fs i d in
    let last = last_is s v fs ps i f p low high (get_or_default fs i d f low) is_p all_are in
    b ∙ (λ k. append_pieces quotes (sym last k) (a k))

-- no more are shown than there are
pub list-cut : (s : NameStyle) (v : NameVariable) (shown count first : ℕ) (all : List IndexedPerson) → count ≡ length all → first ≡ min shown count
    → shown_pieces s v count (take first all) ++ rest_pieces s v count shown all ≡ list_pieces s v shown all
list-cut s v shown count first all is_count is_first =
    ap (λ k. shown_pieces s v count (take k all) ++ rest_pieces s v count shown all) (is_first ∙ ap (min shown) is_count)
    ∙ ap (λ qs. shown_pieces s v count qs ++ rest_pieces s v count shown all) (take_min shown all)
    ∙ ap (λ n. shown_pieces s v n (take shown all) ++ rest_pieces s v n shown all) is_count
