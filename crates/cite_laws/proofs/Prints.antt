-- What holds of each cite of a request, with its request, holds of each of its last prints.
use Rattle.std.proofs.Common.{Bool, List, [], ◌∷◌, ◌++◌, map, Option, Some, None}
use Rattle.std.specs.List.{AllByRecursion, enumerate_from, last_or, zip}
use Rattle.driver_requests.specs.Cites.{Cite, cite_at, cites_after}
use Rattle.driver_requests.specs.Positions.{with_previous}
use Rattle.driver_requests.specs.Requests.{Request}
use Rattle.driver_disambiguation.specs.Rounds.{Disambiguation}
use Rattle.driver_blocks.specs.Blocks.{Gathered}
use Rattle.driver_blocks.specs.Runs.{Arranged}
use Rattle.driver_rounds.specs.Documents.{Document}
use Rattle.driver_rounds.specs.FirstPrints.{FirstPrint, first_print, first_prints_in, named_after}
use Rattle.driver.specs.Stages.{Final, arranged_for, cite_of, final, finals_in, first_print_of, gathered_by, has_purpose}
use Rattle.driver.proofs.ArrangedCites.{IsOne, arranged_all}
use Rattle.driver.proofs.Members.{map_all, weaker_all, zip_all}

module _ {P : Type 0} (same : P → P → Bool) (d : Document P) (t : Disambiguation) (Q : Request P → Cite P → Type 0) (each : (earlier : List (Request P)) (r : Request P) → AllByRecursion (Q r) (map (cite_at earlier r) (enumerate_from 0 r.items))) where
  -- it holds of the cite of a first print
  abbrev OfFirst : Request P → FirstPrint P → Type 0
  OfFirst r b = Q r b.numbered.cite

  -- of a cite that is gathered
  abbrev OfGathered : Request P → Gathered (FirstPrint P) → Type 0
  OfGathered r x = OfFirst r x.cite

  -- of one that is arranged
  abbrev OfArranged : Request P → Arranged (FirstPrint P) → Type 0
  OfArranged r a = OfFirst r (first_print_of a)

  -- of the cite of a last print
  abbrev pub OfFinal : Request P → Final P → Type 0
  OfFinal r f = Q r (cite_of f)

  firsts : (r : Request P) (last : Option (Cite P)) (cs : List (Cite P)) → AllByRecursion (Q r) cs → AllByRecursion (OfFirst r) (map (λ p. first_print (named_after same d p)) (zip (last ∷ map (λ c. Some c) cs) cs))
  firsts r last cs h =
      let pairs = zip (last ∷ map (λ c. Some c) cs) cs in
      map_all (OfFirst r) (λ p. first_print (named_after same d p)) pairs
      (weaker_all (λ (p : Option (Cite P) × Cite P). Q r p.1) (λ p. OfFirst r (first_print (named_after same d p))) at pairs (zip_all (Q r) (last ∷ map (λ c. Some c) cs) cs h))
    where
      at : (p : Option (Cite P) × Cite P) → Q r p.1 → OfFirst r (first_print (named_after same d p))
      at (before, c) g = g

  all_firsts : (earlier : List (Request P)) (last : Option (Cite P)) (rs : List (Request P))
      → AllByRecursion (λ (p : Request P × List (FirstPrint P)). AllByRecursion (OfFirst p.0) p.1) (zip rs (map (map (λ p. first_print (named_after same d p))) (with_previous last (cites_after earlier rs))))
  all_firsts earlier last [] = tt
  all_firsts earlier last (r ∷ rs) =
      let cs = map (cite_at earlier r) (enumerate_from 0 r.items) in
      (firsts r last cs (each earlier r), all_firsts (earlier ++ r ∷ []) (last_or last cs) rs)

  arranged_ones : (r : Request P) (bs : List (FirstPrint P)) → AllByRecursion (OfFirst r) bs → AllByRecursion (OfArranged r) (arranged_for t (r, bs))
  arranged_ones r bs h =
      let c = r.context.style.citation in
      weaker_all (IsOne c (OfGathered r)) (OfArranged r) (λ a g. g.0) (arranged_for t (r, bs))
      (arranged_all c (OfGathered r) (has_purpose r) (map (gathered_by t) bs) (map_all (OfGathered r) (gathered_by t) bs h))

  finals : (r : Request P) (last : Option (Arranged (FirstPrint P))) (xs : List (Arranged (FirstPrint P))) → AllByRecursion (OfArranged r) xs
      → AllByRecursion (OfFinal r) (map (final same t) (zip (last ∷ map (λ a. Some a) xs) xs))
  finals r last xs h =
      let pairs = zip (last ∷ map (λ a. Some a) xs) xs in
      map_all (OfFinal r) (final same t) pairs
      (weaker_all (λ (p : Option (Arranged (FirstPrint P)) × Arranged (FirstPrint P)). OfArranged r p.1) (λ p. OfFinal r (final same t p)) at pairs (zip_all (OfArranged r) (last ∷ map (λ a. Some a) xs) xs h))
    where
      at : (p : Option (Arranged (FirstPrint P)) × Arranged (FirstPrint P)) → OfArranged r p.1 → OfFinal r (final same t p)
      at (before, a) g = g

  all_finals : (last : Option (Arranged (FirstPrint P))) (rs : List (Request P)) (bss : List (List (FirstPrint P))) → AllByRecursion (λ (p : Request P × List (FirstPrint P)). AllByRecursion (OfFirst p.0) p.1) (zip rs bss)
      → AllByRecursion (λ (p : Request P × List (Final P)). AllByRecursion (OfFinal p.0) p.1) (zip rs (map (map (final same t)) (with_previous last (map (arranged_for t) (zip rs bss)))))
  all_finals last [] bss h = tt
  all_finals last (r ∷ rs) [] h = tt
  all_finals last (r ∷ rs) (bs ∷ bss) h =
      let xs = arranged_for t (r, bs) in
      (finals r last xs (arranged_ones r bs h.0), all_finals (last_or last xs) rs bss h.1)

  -- it holds of all last prints, each list of them beside its request
  pub all_printed : AllByRecursion (λ (p : Request P × List (Final P)). AllByRecursion (OfFinal p.0) p.1) (zip d.requests (finals_in same d (first_prints_in same d) t))
  all_printed = all_finals None d.requests (first_prints_in same d) (all_firsts [] None d.requests)
