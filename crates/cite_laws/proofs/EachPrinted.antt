-- Each cite of a document has a print.
use Rattle.std.proofs.Common.{◌≡◌, ℕ, zero, suc, ◌+◌, ◌<◌, Bool, true, false, true≢false, ◌||◌, ◌==◌, eq-eqb, eqb-true, find, is_some, List, [], ◌∷◌, ◌++◌, length, map, zip, slice_get, Contains, Option, Some, None, refl, sym, ap, subst, ◌∙◌, arith}
use Rattle.std.specs.List.{AllZip, enumerate_from, last_or, list_any}
use Rattle.std.proofs.lemmas.List.{length-map}
use Rattle.std.proofs.lemmas.List.Elements.{All-contains_itself, Contains-append_right, recursion_from_All}
use Rattle.std.proofs.lemmas.Option.{slice_get-get_or}
use Rattle.literature_entries.specs.EntriesData.{EntryData}
use Rattle.rendering_context.specs.Contexts.{StyleContext}
use Rattle.driver_requests.specs.Cites as cites
use Rattle.driver_requests.specs.Cites.{cite_at, cites_after}
use Rattle.driver_requests.specs.Positions.{with_previous}
use Rattle.driver_requests.specs.Requests.{Item, Request}
use Rattle.driver_disambiguation.specs.Rounds.{Disambiguation}
use Rattle.driver_blocks.specs.Blocks.{Gathered}
use Rattle.driver_blocks.specs.Runs.{Arranged}
use Rattle.driver_rounds.specs.Documents.{Document}
use Rattle.driver_rounds.specs.FirstPrints.{FirstPrint, disambiguated_in, first_print, first_prints_in, named_after}
use Rattle.driver.specs.Stages.{Final, arranged_for, cite_of, final, first_print_of, gathered_by, has_purpose}
use Rattle.driver.proofs.ArrangedCount.{arranged_any}
use Rattle.driver.proofs.ItemsOrder.{found_some}
use Rattle.driver.proofs.KeysFinals.{found_all}
use Rattle.driver.proofs.Maps.{any_map, any_same}
use Rattle.cite_markers.specs.Marker.{Cite}
use Rattle.cite_requests.specs.Markers.{CitedWork, cited_works, markers_of}
use Rattle.cite_requests.specs.Requests.{OwnLocator, is_same_own, item_of, request_of, works_in}
use Rattle.cite_requests.specs.Stages.{unknown_name}
use Rattle.cite.specs.Verdict.{Task}
use Rattle.cite.proofs.RequestsAlike.{cites_kept}
use Rattle.cite_requests.proofs.StepsRefused.{given}
use Rattle.cite_laws.specs.Printed.{EachCiteIsPrinted, NoneIsRefused, document_of, prints_by_marker}

-- whether some member passes, where each is made of one with the one before it
any_after : {A B : Type 0} (p : B → Bool) (make : Option A × A → B) (q : A → Bool) → ((last : Option A) (a : A) → p (make (last, a)) ≡ q a) → (last : Option A) (xs : List A)
    → list_any p (map make (zip (last ∷ map (λ x. Some x) xs) xs)) ≡ list_any q xs
any_after p make q same last [] = refl
any_after p make q same last (x ∷ xs) = λ k. same last x k || any_after p make q same (Some x) xs k

-- a member that passes, where there is one
any_there : {A : Type 0} (p : A → Bool) (xs : List A) → list_any p xs ≡ true → (x : A) × Contains xs x × (p x ≡ true)
any_there {A} p xs h = by (find p xs) refl (found_some p xs ∙ h)
  where
    by : (o : Option A) → find p xs ≡ o → is_some o ≡ true → (x : A) × Contains xs x × (p x ≡ true)
    by None e some = absurd (true≢false (sym some))
    by (Some x) e some =
        let one = found_all (Contains xs) p xs x (recursion_from_All (Contains xs) xs (All-contains_itself xs)) e in
        (x, one.0, one.1)

-- lists that are related one by one, and a member of the first
zip_there : {A B : Type 0} (R : A → B → Type 0) (xs : List A) (ys : List B) → AllZip R xs ys → (x : A) → Contains xs x → (y : B) × Contains (zip xs ys) (x, y) × R x y
zip_there R [] ys h x has = absurd (omega (arith, has.1))
zip_there R (z ∷ xs) [] h x has = absurd h
zip_there R (z ∷ xs) (y ∷ ys) h x (zero, below, is) = (y, (zero, omega arith, λ i. (is i, y)), subst (λ w. R w y) is h.0)
zip_there R (z ∷ xs) (y ∷ ys) h x (suc k, below, is) =
    let more = zip_there R xs ys h.1 x (k, omega (arith, below), is) in
    (more.0, Contains-append_right ((z, y) ∷ []) (zip xs ys) (x, more.0) more.1, more.2)

-- an index below the length is the number of a member
number_there : {A : Type 0} (m : ℕ) (xs : List A) (n : ℕ) → n < length xs → list_any (λ (p : ℕ × A). p.0 == m + n) (enumerate_from m xs) ≡ true
number_there m [] n below = absurd (omega (arith, below))
number_there {A} m (x ∷ xs) zero below =
    let first : m ≡ m + 0 = omega arith in
    ap (λ (b : Bool). b || list_any (λ (p : ℕ × A). p.0 == m + 0) (enumerate_from (m + 1) xs)) (eq-eqb m (m + 0) first)
number_there {A} m (x ∷ xs) (suc n) below =
    let next : m + 1 + n ≡ m + suc n = omega arith in
    let others = ap (λ k. list_any (λ (p : ℕ × A). p.0 == k) (enumerate_from (m + 1) xs)) (sym next) ∙ number_there (m + 1) xs n (omega (arith, below)) in
    ap (λ b. (m == m + suc n) || b) others ∙ or_true (m == m + suc n)
  where
    or_true : (b : Bool) → (b || true) ≡ true
    or_true true = refl
    or_true false = refl

module _ {P : Type 0} (same : P → P → Bool) (d : Document P) (t : Disambiguation) (n : ℕ) where
  -- whether a print is of the cite at an index
  abbrev is_at : Final P → Bool
  is_at f = (cite_of f).index == n

  abbrev is_first_at : FirstPrint P → Bool
  is_first_at b = b.numbered.cite.index == n

  -- the prints of a request have the indices of its items
  abbrev HaveIndices : Request P → List (Final P) → Type 0
  HaveIndices r fs = list_any is_at fs ≡ list_any (λ (p : ℕ × Item P). p.0 == n) (enumerate_from 0 r.items)

  firsts_at : (earlier : List (Request P)) (r : Request P) (last : Option (cites.Cite P))
      → list_any is_first_at (map (λ p. first_print (named_after same d p)) (zip (last ∷ map (λ c. Some c) (map (cite_at earlier r) (enumerate_from 0 r.items))) (map (cite_at earlier r) (enumerate_from 0 r.items))))
      ≡ list_any (λ (p : ℕ × Item P). p.0 == n) (enumerate_from 0 r.items)
  firsts_at earlier r last =
      any_after is_first_at (λ p. first_print (named_after same d p)) (λ (c : cites.Cite P). c.index == n) (λ before c. refl) last (map (cite_at earlier r) (enumerate_from 0 r.items))
      ∙ any_map (cite_at earlier r) (λ (c : cites.Cite P). c.index == n) (enumerate_from 0 r.items)
      ∙ any_same (λ p. (cite_at earlier r p).index == n) (λ (p : ℕ × Item P). p.0 == n) at (enumerate_from 0 r.items)
    where
      at : (p : ℕ × Item P) → ((cite_at earlier r p).index == n) ≡ (p.0 == n)
      at (index, i) = refl

  finals_at : (r : Request P) (bs : List (FirstPrint P)) (last : Option (Arranged (FirstPrint P)))
      → list_any is_at (map (final same t) (zip (last ∷ map (λ a. Some a) (arranged_for t (r, bs))) (arranged_for t (r, bs)))) ≡ list_any is_first_at bs
  finals_at r bs last =
      any_after is_at (final same t) (λ (a : Arranged (FirstPrint P)). is_first_at (first_print_of a)) (λ before a. refl) last (arranged_for t (r, bs))
      ∙ arranged_any r.context.style.citation (has_purpose r) (λ (x : Gathered (FirstPrint P)). is_first_at x.cite) (map (gathered_by t) bs)
      ∙ any_map (gathered_by t) (λ (x : Gathered (FirstPrint P)). is_first_at x.cite) bs

  all_at : (earlier : List (Request P)) (before : Option (cites.Cite P)) (last : Option (Arranged (FirstPrint P))) (rs : List (Request P))
      → AllZip HaveIndices rs (map (map (final same t)) (with_previous last (map (arranged_for t) (zip rs (map (map (λ p. first_print (named_after same d p))) (with_previous before (cites_after earlier rs)))))))
  all_at earlier before last [] = tt
  all_at earlier before last (r ∷ rs) =
      let cs = map (cite_at earlier r) (enumerate_from 0 r.items) in
      let bs = map (λ p. first_print (named_after same d p)) (zip (before ∷ map (λ c. Some c) cs) cs) in
      (finals_at r bs last ∙ firsts_at earlier r before, all_at (earlier ++ r ∷ []) (last_or before cs) (last_or last (arranged_for t (r, bs))) rs)

module _ (x : StyleContext) (cited : List EntryData) (n : ℕ) where
  -- the prints of a marker have its index, if it has it
  abbrev HaveIndex : List Cite → List (Final OwnLocator) → Type 0
  HaveIndex marker fs = n < length marker → list_any (λ (f : Final OwnLocator). (cite_of f).index == n) fs ≡ true

  item_there : (m : List CitedWork) → n < length (map (λ c. c.cite) m) → list_any (λ (p : ℕ × Item OwnLocator). p.0 == n) (enumerate_from 0 (map (item_of cited) m)) ≡ true
  item_there m below =
      let within : n < length (map (item_of cited) m) = omega (arith, below, length-map m (λ (c : CitedWork). c.cite), length-map m (item_of cited)) in
      let first : n ≡ 0 + n = omega arith in
      ap (λ k. list_any (λ (p : ℕ × Item OwnLocator). p.0 == k) (enumerate_from 0 (map (item_of cited) m))) first ∙ number_there 0 (map (item_of cited) m) n within

  markers_have : (k : ℕ) (ms : List (List CitedWork)) (fss : List (List (Final OwnLocator)))
      → AllZip (λ (r : Request OwnLocator) (fs : List (Final OwnLocator)). list_any (λ (f : Final OwnLocator). (cite_of f).index == n) fs ≡ list_any (λ (p : ℕ × Item OwnLocator). p.0 == n) (enumerate_from 0 r.items)) (map (request_of x cited) (enumerate_from k ms)) fss
      → AllZip HaveIndex (map (map (λ c. c.cite)) ms) fss
  markers_have k [] [] h = tt
  markers_have k [] (fs ∷ fss) h = absurd h
  markers_have k (m ∷ ms) [] h = absurd h
  markers_have k (m ∷ ms) (fs ∷ fss) h = (λ below. h.0 ∙ item_there m below, markers_have (k + 1) ms fss h.1)

module _ {bib : List ℕ} {task : Task} (read : NoneIsRefused bib task) (n : ℕ) where
  all_have : AllZip (HaveIndex task.context (works_in read.file.markers) n) (markers_of read.asked.pieces) (prints_by_marker read)
  all_have =
      let d = document_of read in
      subst (λ (ms : List (List Cite)). AllZip (HaveIndex task.context (works_in read.file.markers) n) ms (prints_by_marker read))
      (cites_kept read.file.works read.asked.pieces read.file.markers (given unknown_name (cited_works read.file.works read.asked.pieces) read.file.markers read.file.names))
      (markers_have task.context (works_in read.file.markers) n 1 read.file.markers (prints_by_marker read) (all_at is_same_own d (disambiguated_in d (first_prints_in is_same_own d)) n [] None None d.requests))

-- each cite of a document has a print
pub each_printed : EachCiteIsPrinted
each_printed bib task read marker cite has_marker (n, below, is) =
    let beside = zip_there (HaveIndex task.context (works_in read.file.markers) n) (markers_of read.asked.pieces) (prints_by_marker read) (all_have read n) marker has_marker in
    let print = any_there (λ (f : Final OwnLocator). (cite_of f).index == n) beside.0 (beside.2 below) in (
      print.0,
      record {
        marker = marker;
        prints = beside.0;
        beside = beside.1;
        among = print.1;
        stands = ap (slice_get marker) (eqb-true (cite_of print.0).index n print.2) ∙ slice_get-get_or marker n cite below ∙ ap (λ (c : Cite). Some c) is;
      },
    )
