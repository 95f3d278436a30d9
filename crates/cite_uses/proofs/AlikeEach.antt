-- The works that names mean in two files, one by one.
use Rattle.std.proofs.Common.{◌≡◌, ◌<◌, ℕ, zero, suc, List, [], ◌∷◌, ◌++◌, drop, get_or, length, map, Option, Some, None, Result, Ok, refl, sym, ap, subst, ◌∙◌, arith}
use Rattle.std.specs.Prelude.{Contains}
use Rattle.std.specs.List.{AllByRecursion, flat_map}
use Rattle.std.proofs.lemmas.List.{map-append}
use Rattle.std.proofs.lemmas.List.Elements.{Contains-append_right}
use Rattle.std.proofs.lemmas.Option.{same_Some}
use Rattle.laws.specs.Results.{◌>>=◌}
use Rattle.laws.specs.Text.{text}
use Rattle.laws.proofs.Results.{bind_ok, ok_is}
use Rattle.literature_entries.specs.EntriesData.{EntryData}
use Rattle.literature.specs.Keys.{with_key}
use Rattle.literature.specs.Trees.{Tree}
use Rattle.interop.specs.Library.{key_of}
use Rattle.rendering_nodes.specs.Named.{Named}
use Rattle.cite_markers.specs.Document.{Piece, Text, Marker}
use Rattle.cite_markers.specs.Marker.{Cite}
use Rattle.cite_requests.specs.Markers.{CitedWork, cited_work, cited_works, markers_of, names_cited, with_work}
use Rattle.cite_requests.specs.Requests.{works_in}
use Rattle.cite_requests.specs.Steps.{all_ok}
use Rattle.cite_requests.specs.Works.{Works, meaning}
use Rattle.cite_requests.proofs.EntriesIndices.{AreListedWorks, IsListed}
use Rattle.cite_uses.specs.Alike.{AreAlikeWorks, MeanAlikeWorks, names_of}

module _ (works : Works) where
  -- each of the names means a work
  abbrev pub AreMeant : List (List ℕ) → Type 0
  AreMeant names = AllByRecursion (λ n. (w : EntryData) × (meaning n works ≡ Some w)) names

  meant_before : (xs ys : List (List ℕ)) → AreMeant (xs ++ ys) → AreMeant xs
  meant_before [] ys h = tt
  meant_before (x ∷ xs) ys h = (h.0, meant_before xs ys h.1)

  meant_after : (xs ys : List (List ℕ)) → AreMeant (xs ++ ys) → AreMeant ys
  meant_after [] ys h = h
  meant_after (x ∷ xs) ys h = meant_after xs ys h.1

  cites_found : (cs : List Cite) → AreMeant (names_of cs) → (found : List CitedWork) × (all_ok (cited_work works) cs ≡ Ok found)
  unfolding all_ok
  cites_found [] h = ([], refl)
  cites_found (c ∷ cs) h =
      let more = cites_found cs h.1 in
      let here : CitedWork = record { cite = c; work = h.0.0 } in (
        here ∷ more.0,
        ap (λ (r : Result CitedWork (List ℕ)). r >>= λ y. all_ok (cited_work works) cs >>= λ ys. Ok (y ∷ ys)) (ap (with_work c) h.0.1)
            ∙ ap (λ (r : Result (List CitedWork) (List ℕ)). r >>= λ ys. Ok (here ∷ ys)) more.1,
      )

  markers_found : (ms : List (List Cite)) → AreMeant (flat_map names_of ms) → (found : List (List CitedWork)) × (all_ok (all_ok (cited_work works)) ms ≡ Ok found)
  unfolding all_ok
  markers_found [] h = ([], refl)
  markers_found (m ∷ ms) h =
      let first = cites_found m (meant_before (names_of m) (flat_map names_of ms) h) in
      let more = markers_found ms (meant_after (names_of m) (flat_map names_of ms) h) in (
        first.0 ∷ more.0,
        ap (λ (r : Result (List CitedWork) (List ℕ)). r >>= λ y. all_ok (all_ok (cited_work works)) ms >>= λ ys. Ok (y ∷ ys)) first.1
            ∙ ap (λ (r : Result (List (List CitedWork)) (List ℕ)). r >>= λ ys. Ok (first.0 ∷ ys)) more.1,
      )

  -- names that mean works are not refused
  pub all_found : (pieces : List Piece) → AreMeant (names_cited pieces) → (found : List (List CitedWork)) × (cited_works works pieces ≡ Ok found)
  all_found pieces h = markers_found (markers_of pieces) h

  found_work : (c : Cite) (found : CitedWork) (o : Option EntryData) → with_work c o ≡ Ok found → o ≡ Some found.work
  found_work c found None is = absurd cc
  found_work c found (Some w) is = ap (λ (f : CitedWork). Some f.work) (ok_is {F = List ℕ} (record { cite = c; work = w }) found is)

  abbrev meanings : List (List ℕ) → List (Option EntryData)
  meanings names = map (λ n. meaning n works) names

  abbrev some_works : List CitedWork → List (Option EntryData)
  some_works found = map (λ w. Some w) (map (λ (c : CitedWork). c.work) found)

  cites_mean : (cs : List Cite) (found : List CitedWork) → all_ok (cited_work works) cs ≡ Ok found → meanings (names_of cs) ≡ some_works found
  unfolding all_ok
  cites_mean [] found is = ap some_works (ok_is {F = List ℕ} [] found is)
  cites_mean (c ∷ cs) found is =
      let first = bind_ok (cited_work works c) _ found is in
      let others = bind_ok (all_ok (cited_work works) cs) _ found first.2 in
      (λ i. found_work c first.0 (meaning (text c.name) works) first.1 i ∷ cites_mean cs others.0 others.1 i) ∙ ap some_works (ok_is {F = List ℕ} (first.0 ∷ others.0) found others.2)

  -- the names of the cites mean the works that are cited
  pub pieces_mean : (ps : List Piece) (ms : List (List CitedWork)) → all_ok (all_ok (cited_work works)) (markers_of ps) ≡ Ok ms → meanings (names_cited ps) ≡ map (λ w. Some w) (works_in ms)
  unfolding all_ok
  pieces_mean [] ms is = ap (λ (ns : List (List CitedWork)). map (λ w. Some w) (works_in ns)) (ok_is {F = List ℕ} [] ms is)
  pieces_mean (Text t ∷ ps) ms is = pieces_mean ps ms is
  pieces_mean (Marker cs ∷ ps) ms is =
      let first = bind_ok (all_ok (cited_work works) cs) _ ms is in
      let others = bind_ok (all_ok (all_ok (cited_work works)) (markers_of ps)) _ ms first.2 in
      map-append (λ n. meaning n works) (names_of cs) (names_cited ps)
      ∙ (λ i. cites_mean cs first.0 first.1 i ++ pieces_mean ps others.0 others.1 i)
      ∙ sym (map-append (λ w. Some w) (map (λ (c : CitedWork). c.work) first.0) (works_in others.0))
      ∙ ap (λ (ns : List (List CitedWork)). map (λ w. Some w) (works_in ns)) (ok_is {F = List ℕ} (first.0 ∷ others.0) ms others.2)

-- what is listed is listed at each index
pub listed_at : (library ws : List EntryData) → AreListedWorks library ws → (x : EntryData) (k : ℕ) → k < length ws → get_or ws k x ≡ x → IsListed library x
listed_at library [] h x k low is = absurd (omega (arith, low))
listed_at library (w ∷ ws) h x zero low is = subst (IsListed library) is h.0
listed_at library (w ∷ ws) h x (suc k) low is = listed_at library ws h.1 x k (omega (arith, low)) is

-- listed works of one key are one
pub one_listed : (library : List EntryData) (v w : EntryData) → IsListed library v → IsListed library w → key_of v ≡ key_of w → v ≡ w
one_listed library v w there there_too same = same_Some v w (sym there ∙ ap (λ (k : List ℕ). with_key key_of k library) same ∙ there_too)

module _ (n : Named) (selectors : List Tree) where
  -- works that are alike, one by one
  abbrev pub AreAlikeEach : List EntryData → List EntryData → Type 0
  AreAlikeEach [] [] = Unit {0}
  AreAlikeEach [] (y ∷ ys) = ⊥
  AreAlikeEach (x ∷ xs) [] = ⊥
  AreAlikeEach (x ∷ xs) (y ∷ ys) = AreAlikeWorks n selectors x y × AreAlikeEach xs ys

  pub keys_one : (xs ys : List EntryData) → AreAlikeEach xs ys → map key_of xs ≡ map key_of ys
  keys_one [] [] h = refl
  keys_one [] (y ∷ ys) h = absurd h
  keys_one (x ∷ xs) [] h = absurd h
  keys_one (x ∷ xs) (y ∷ ys) h = λ i. h.0.key i ∷ keys_one xs ys h.1 i

  -- the work at the index of another
  pub partner : (xs ys : List EntryData) → AreAlikeEach xs ys → (x : EntryData) (k : ℕ) → k < length xs → get_or xs k x ≡ x → (y : EntryData) × Contains ys y × AreAlikeWorks n selectors x y
  partner [] ys h x k low is = absurd (omega (arith, low))
  partner (z ∷ xs) [] h x k low is = absurd h
  partner (z ∷ xs) (y ∷ ys) h x zero low is = (y, (0, omega arith, refl), subst (λ (u : EntryData). AreAlikeWorks n selectors u y) is h.0)
  partner (z ∷ xs) (y ∷ ys) h x (suc k) low is =
      let p = partner xs ys h.1 x k (omega (arith, low)) is in
      (p.0, Contains-append_right (y ∷ []) ys p.0 p.1, p.2)

  module _ (v w : Works) where
    pub meant_first : (names : List (List ℕ)) → MeanAlikeWorks n selectors v w names → AreMeant v names
    meant_first [] h = tt
    meant_first (m ∷ names) h = ((h.0.0, h.0.1), meant_first names h.1)

    pub meant_second : (names : List (List ℕ)) → MeanAlikeWorks n selectors v w names → AreMeant w names
    meant_second [] h = tt
    meant_second (m ∷ names) h = ((h.0.2.0, h.0.2.1), meant_second names h.1)

    pub meant_work : (m : List ℕ) (names : List (List ℕ)) (works : Works) (own x : EntryData) (xs : List EntryData) → meaning m works ≡ Some own
        → map (λ k. meaning k works) (m ∷ names) ≡ map (λ u. Some u) (x ∷ xs) → own ≡ x
    meant_work m names works own x xs is same = same_Some own x (sym is ∙ ap (λ (os : List (Option EntryData)). get_or os 0 None) same)

    -- the works that names mean are alike
    pub each_alike : (names : List (List ℕ)) (xs ys : List EntryData) → MeanAlikeWorks n selectors v w names
        → map (λ m. meaning m v) names ≡ map (λ x. Some x) xs → map (λ m. meaning m w) names ≡ map (λ y. Some y) ys → AreAlikeEach xs ys
    each_alike [] [] [] h first second = tt
    each_alike [] [] (y ∷ ys) h first second = absurd cc
    each_alike [] (x ∷ xs) ys h first second = absurd cc
    each_alike (m ∷ names) [] ys h first second = absurd cc
    each_alike (m ∷ names) (x ∷ xs) [] h first second = absurd cc
    each_alike (m ∷ names) (x ∷ xs) (y ∷ ys) h first second =
        let a : h.0.0 ≡ x = meant_work m names v h.0.0 x xs h.0.1 first in
        let b : h.0.2.0 ≡ y = meant_work m names w h.0.2.0 y ys h.0.2.1 second in (
          subst (λ (u : EntryData). AreAlikeWorks n selectors x u) b (subst (λ (u : EntryData). AreAlikeWorks n selectors u h.0.2.0) a h.0.2.2),
          each_alike names xs ys h.1 (ap (drop 1) first) (ap (drop 1) second),
        )
