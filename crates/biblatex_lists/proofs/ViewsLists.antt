-- Lists that are borrowed, and lists one longer.
use Rattle.std.proofs.Common.{◌≡◌, ℕ, zero, suc, ◌-◌, ◌<◌, ◌≤◌, true, false, List, [], ◌∷◌, ◌++◌, map, length, take, drop, get_or, flat_map, refl, sym, ap, ◌∙◌, arith}
use Rattle.std.specs.Borrow.{Bor}
use Rattle.std.proofs.Math.Seq.{take-suc}
use Rattle.std.proofs.lemmas.List.{drop-map, take-map, length-map, get_or-map, map-append}
use Rattle.laws.specs.Borrowed.{borrowed}
use Rattle.biblatex_lists.specs.declared.styled_char.StyledChar.{StyledChar}
use Rattle.biblatex_lists.specs.Words.{is_small, lead_count, words}
use Rattle.biblatex_lists.specs.declared.person.Person.{Person}
use Rattle.biblatex_lists.specs.Reading.{person_in, is_others, ends_in_others, without_others, by_parts, with_commas}
use Rattle.biblatex_lists.specs.Views.{named_view}

abbrev its_now : Bor (List StyledChar) → List StyledChar
its_now p = p.now

pub borrowed_take : (n : ℕ) (ps : List (Bor (List StyledChar))) → borrowed (take n ps) ≡ take n (borrowed ps)
borrowed_take n ps = sym (take-map its_now n ps)

pub borrowed_drop : (n : ℕ) (ps : List (Bor (List StyledChar))) → borrowed (drop n ps) ≡ drop n (borrowed ps)
borrowed_drop n ps = sym (drop-map its_now n ps)

pub borrowed_length : (ps : List (Bor (List StyledChar))) → length (borrowed ps) ≡ length ps
borrowed_length ps = length-map ps its_now

-- the last part decides whether the parts end in `others`
pub ends_in_last : (ps : List (List StyledChar)) (p : List StyledChar) → ends_in_others (ps ++ p ∷ []) ≡ is_others p
ends_in_last [] p = refl
ends_in_last (q ∷ []) p = refl
ends_in_last (q ∷ r ∷ ps) p = ends_in_last (r ∷ ps) p

-- words up to the last small one
lead_small : (ws : List (List StyledChar)) (w v : List StyledChar) → is_small w ≡ true → lead_count (ws ++ w ∷ v ∷ []) ≡ suc (length ws)
lead_small [] w v e = rw e refl
lead_small (u ∷ []) w v e = let more = lead_small [] w v e in rw more refl
lead_small (u ∷ t ∷ ws) w v e = let more = lead_small (t ∷ ws) w v e in rw more (omega arith)

lead_large : (ws : List (List StyledChar)) (w v : List StyledChar) → is_small w ≡ false → lead_count (ws ++ w ∷ v ∷ []) ≡ lead_count (ws ++ w ∷ [])
lead_large [] w v e = rw e refl
lead_large (u ∷ []) w v e = let more = lead_large [] w v e in rw more refl
lead_large (u ∷ t ∷ ws) w v e = let more = lead_large (t ∷ ws) w v e in rw more refl

two_more : (ws : List (List StyledChar)) (i : ℕ) → suc i < length ws → take (suc (suc i)) ws ≡ take i ws ++ get_or ws i [] ∷ get_or ws (suc i) [] ∷ []
two_more [] i below = absurd (omega arith)
two_more (w ∷ []) i below = absurd (omega arith)
two_more (w ∷ v ∷ ws) zero below = refl
two_more (w ∷ v ∷ ws) (suc i) below = ap (λ (x : List (List StyledChar)). w ∷ x) (two_more (v ∷ ws) i (omega arith))

one_more : (ws : List (List StyledChar)) (i : ℕ) → i < length ws → take (suc i) ws ≡ take i ws ++ get_or ws i [] ∷ []
one_more ws i below = take-suc ws i [] below

length_leading : (ws : List (List StyledChar)) (i : ℕ) → i < length ws → length (take i ws) ≡ i
length_leading [] i below = absurd (omega arith)
length_leading (w ∷ ws) zero below = refl
length_leading (w ∷ ws) (suc i) below = let more = length_leading ws i (omega arith) in omega arith

-- a small word before the last one of the first part
pub leading_small : (ws : List (List StyledChar)) (i : ℕ) → suc i < length ws → is_small (get_or ws i []) ≡ true → lead_count (take (suc (suc i)) ws) ≡ suc i
leading_small ws i below e =
    let long : length (take i ws) ≡ i = length_leading ws i (omega arith) in
    ap lead_count (two_more ws i below) ∙ (lead_small (take i ws) (get_or ws i []) (get_or ws (suc i) []) e ∙ ap suc long)

-- a word there that is not small
pub leading_large : (ws : List (List StyledChar)) (i : ℕ) → suc i < length ws → is_small (get_or ws i []) ≡ false → lead_count (take (suc (suc i)) ws) ≡ lead_count (take (suc i) ws)
leading_large ws i below e =
    ap lead_count (two_more ws i below) ∙ (lead_large (take i ws) (get_or ws i []) (get_or ws (suc i) []) e ∙ ap lead_count (sym (one_more ws i (omega arith))))

-- the same for what is borrowed, where the index is one below another
pub found_small : (ws : List (Bor (List StyledChar))) (i : ℕ) (d : Bor (List StyledChar)) → 1 < i → i ≤ length ws → is_small ((get_or ws (i - 1 - 1) d).now) ≡ true → lead_count (borrowed (take i ws)) ≡ i - 1
found_small ws i d some below e =
    let long = borrowed_length ws in
    let here : get_or (borrowed ws) (i - 1 - 1) [] ≡ (get_or ws (i - 1 - 1) d).now = get_or-map its_now ws (i - 1 - 1) d [] (omega arith) in
    let same : i ≡ suc (suc (i - 1 - 1)) = omega arith in
    let last : suc (i - 1 - 1) ≡ i - 1 = omega arith in
    ap lead_count (borrowed_take i ws) ∙ (ap (λ (k : ℕ). lead_count (take k (borrowed ws))) same ∙ (leading_small (borrowed ws) (i - 1 - 1) (omega arith) (ap is_small here ∙ e) ∙ last))

pub found_large : (ws : List (Bor (List StyledChar))) (i : ℕ) (d : Bor (List StyledChar)) → 1 < i → i ≤ length ws → is_small ((get_or ws (i - 1 - 1) d).now) ≡ false → lead_count (borrowed (take i ws)) ≡ lead_count (borrowed (take (i - 1) ws))
found_large ws i d some below e =
    let long = borrowed_length ws in
    let here : get_or (borrowed ws) (i - 1 - 1) [] ≡ (get_or ws (i - 1 - 1) d).now = get_or-map its_now ws (i - 1 - 1) d [] (omega arith) in
    let same : i ≡ suc (suc (i - 1 - 1)) = omega arith in
    let last : suc (i - 1 - 1) ≡ i - 1 = omega arith in
    ap lead_count (borrowed_take i ws) ∙ (ap (λ (k : ℕ). lead_count (take k (borrowed ws))) same ∙ (leading_large (borrowed ws) (i - 1 - 1) (omega arith) (ap is_small here ∙ e)
    ∙ (ap (λ (k : ℕ). lead_count (take k (borrowed ws))) last ∙ sym (ap lead_count (borrowed_take (i - 1) ws)))))

-- of three parts or more the first is the name, the second the suffix, and what follows is given
pub by_three_parts : (ps : List (Bor (List StyledChar))) (d : Bor (List StyledChar)) → 3 ≤ length ps → by_parts (borrowed ps) ≡ with_commas (words (get_or ps 0 d).now) (words (get_or ps 1 d).now) (flat_map words (borrowed (drop 2 ps)))
by_three_parts [] d long = absurd (omega arith)
by_three_parts (p ∷ []) d long = absurd (omega arith)
by_three_parts (p ∷ q ∷ []) d long = absurd (omega arith)
by_three_parts (p ∷ q ∷ r ∷ ps) d long = refl

-- one more person is found in one more part
pub people_more : (xs : List Person) (x : Person) (ps : List (List StyledChar)) (p : List StyledChar) → map named_view xs ≡ map person_in ps → named_view x ≡ person_in p → map named_view (xs ++ x ∷ []) ≡ map person_in (ps ++ p ∷ [])
people_more xs x ps p e f = rw (map-append named_view xs (x ∷ []), map-append person_in ps (p ∷ []), e, f) refl

-- without a last `others` the people are those in the other parts
pub without_last : (xs : List Person) (ps : List (List StyledChar)) → map named_view xs ≡ map person_in ps → ends_in_others ps ≡ true → map named_view (take (length xs - 1) xs) ≡ map person_in (without_others ps)
without_last xs ps e ends =
    let long : length xs ≡ length ps = sym (length-map xs named_view) ∙ (ap length e ∙ length-map ps person_in) in
    rw ends (sym (take-map named_view (length xs - 1) xs) ∙ (ap (take (length xs - 1)) e ∙ (take-map person_in (length xs - 1) ps ∙ ap (λ (k : ℕ). map person_in (take (k - 1) ps)) long)))
