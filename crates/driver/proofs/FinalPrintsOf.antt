-- What holds of all first prints, and of all cites in their final order, where something holds of all cites.
use Rattle.std.proofs.Common.{Bool, List, map, Option, None}
use Rattle.std.specs.List.{AllByRecursion, zip}
use Rattle.driver_requests.specs.Cites.{Cite, cites_of}
use Rattle.driver_requests.specs.Positions.{with_previous}
use Rattle.driver_requests.specs.Requests.{Request}
use Rattle.driver_disambiguation.specs.Rounds.{Disambiguation}
use Rattle.driver_blocks.specs.Blocks.{Gathered}
use Rattle.driver_blocks.specs.Runs.{Arranged}
use Rattle.driver_rounds.specs.Documents.{Document}
use Rattle.driver.specs.Stages.{Final, arranged_for, final, first_print_of, gathered_by, has_purpose}
use Rattle.driver_rounds.specs.FirstPrints.{FirstPrint, first_print, first_prints_in, named_after}
use Rattle.driver.proofs.ArrangedCites.{IsOne, arranged_all}
use Rattle.driver.proofs.Members.{map_all, previous_all, weaker_all, zip_all}

-- all first prints of a document
pub prints_all : {P : Type 0} (same : P → P → Bool) (d : Document P) (Q : Cite P → Type 0) (R : FirstPrint P → Type 0) → ((p : Option (Cite P) × Cite P) → Q p.1 → R (first_print (named_after same d p))) → AllByRecursion (AllByRecursion Q) (cites_of d.requests)
    → AllByRecursion (AllByRecursion R) (first_prints_in same d)
prints_all {P} same d Q R step h =
    let pairs = with_previous None (cites_of d.requests) in
    let print : Option (Cite P) × Cite P → FirstPrint P = λ p. first_print (named_after same d p) in
    map_all (AllByRecursion R) (map print) pairs
    (weaker_all (AllByRecursion (λ (p : Option (Cite P) × Cite P). Q p.1)) (λ ps. AllByRecursion R (map print ps))
    (λ ps g. map_all R print ps (weaker_all (λ (p : Option (Cite P) × Cite P). Q p.1) (λ p. R (print p)) step ps g)) pairs (previous_all Q None (cites_of d.requests) h))

module _ {P : Type 0} (same : P → P → Bool) (t : Disambiguation) (Q : FirstPrint P → Type 0) where
  -- it holds of a cite that is gathered
  abbrev OfGathered : Gathered (FirstPrint P) → Type 0
  OfGathered x = Q x.cite

  -- of one that is arranged
  abbrev pub OfArranged : Arranged (FirstPrint P) → Type 0
  OfArranged a = Q (first_print_of a)

  run_all : (p : Request P × List (FirstPrint P)) → AllByRecursion Q p.1 → AllByRecursion OfArranged (arranged_for t p)
  run_all (r, bs) h =
      let c = r.context.style.citation in
      weaker_all (IsOne c OfGathered) OfArranged (λ a k. k.0) (arranged_for t (r, bs)) (arranged_all c OfGathered (has_purpose r) (map (gathered_by t) bs) (map_all OfGathered (gathered_by t) bs h))

  runs_all : (ps : List (Request P × List (FirstPrint P))) → AllByRecursion (λ (p : Request P × List (FirstPrint P)). AllByRecursion Q p.1) ps → AllByRecursion (AllByRecursion OfArranged) (map (arranged_for t) ps)
  runs_all ps h =
      map_all (AllByRecursion OfArranged) (arranged_for t) ps (weaker_all (λ (p : Request P × List (FirstPrint P)). AllByRecursion Q p.1) (λ p. AllByRecursion OfArranged (arranged_for t p)) run_all ps h)

  -- a cite that is arranged, after another one
  abbrev pub AfterOther : Option (Arranged (FirstPrint P)) × Arranged (FirstPrint P) → Type 0
  AfterOther p = OfArranged p.1

  -- all cites in their final order
  pub finals_all : (R : Final P → Type 0) → ((p : Option (Arranged (FirstPrint P)) × Arranged (FirstPrint P)) → AfterOther p → R (final same t p)) → (rs : List (Request P)) (bss : List (List (FirstPrint P))) → AllByRecursion (AllByRecursion Q) bss
      → AllByRecursion (AllByRecursion R) (map (map (final same t)) (with_previous None (map (arranged_for t) (zip rs bss))))
  finals_all R step rs bss h =
      let runs = map (arranged_for t) (zip rs bss) in
      let placed = previous_all OfArranged None runs (runs_all (zip rs bss) (zip_all (AllByRecursion Q) rs bss h)) in
      map_all (AllByRecursion R) (map (final same t)) (with_previous None runs)
      (weaker_all (AllByRecursion AfterOther) (λ ps. AllByRecursion R (map (final same t) ps)) (λ ps g. map_all R (final same t) ps (weaker_all AfterOther (λ p. R (final same t p)) step ps g)) (with_previous None runs) placed)
