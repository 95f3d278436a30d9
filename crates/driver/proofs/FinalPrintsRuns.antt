-- Cites that are put one after the other are those in their final order.
use Rattle.std.proofs.Common.{◌≡◌, ℕ, Bool, ◌||◌, List, [], ◌∷◌, ◌++◌, append_assoc, append-nil, map, fold, is_some, Option, Some, None, refl, sym, ap, ◌∙◌}
use Rattle.std.specs.List.{flat_map, last_or, list_any, zip}
use Rattle.std.specs.Option.{option_map}
use Rattle.std.proofs.lemmas.List.{map-append}
use Rattle.std.proofs.lemmas.List.Sums.{fold-append}
use Rattle.rendering_entries.specs.Answers.{Answers}
use Rattle.rendering.specs.Words.{joining_quotes}
use Rattle.driver_requests.specs.Positions.{with_previous}
use Rattle.driver_requests.specs.Requests.{Item, Request}
use Rattle.driver_requests.specs.Views.{item_view, request_view}
use Rattle.driver_requests.specs.declared.item.CitationItem.{CitationItem}
use Rattle.driver_requests.specs.declared.request.CitationRequest.{CitationRequest}
use Rattle.driver_disambiguation.specs.States.{States}
use Rattle.driver_disambiguation.specs.Rounds.{Disambiguation}
use Rattle.driver_blocks.specs.Collapsing.{arranged}
use Rattle.driver_blocks.specs.Runs.{Arranged}
use Rattle.driver_citations.specs.Citations.{citation_of}
use Rattle.driver.specs.FinalPrints.{Cited, Listed, Placed, all_finals, cited_with, final_after, finals_from, last_arranged, listed_as, listed_with, placed_with, finals_after}
use Rattle.driver.specs.Finish.{citation_in, shown}
use Rattle.driver.specs.Stages.{Final, arranged_for, final, gathered_by, place_arranged}
use Rattle.driver_rounds.specs.FirstPrints.{FirstPrint, flattened}

-- whether an item has a purpose
pub purpose_view : {T P : Type 0} (index : T → ℕ) (answers : T → Answers) (is : List (CitationItem T P)) → list_any (λ (i : CitationItem T P). is_some i.purpose) is ≡ list_any (λ (i : Item P). is_some i.purpose) (map (item_view index answers) is)
purpose_view index answers [] = refl
purpose_view index answers (i ∷ is) = ap (λ b. is_some i.purpose || b) (purpose_view index answers is)

module _ {P : Type 0} (same : P → P → Bool) where
  -- what the cites of a request come to
  pub placed_all : (states : States) (p : Placed P) (xs : List (Arranged (FirstPrint P)))
      → fold (placed_with same states) p xs
      ≡ record { shown = p.shown ++ flat_map shown (finals_after same states p.last xs); listed = fold listed_with p.listed (map listed_as (finals_after same states p.last xs)); last = last_arranged p.last xs }
  placed_all states p [] = λ k. record { shown = sym (append-nil p.shown) k; listed = p.listed; last = p.last }
  placed_all states p (a ∷ xs) =
      let f = final_after same states p.last a in
      let fs = finals_after same states (Some (place_arranged a)) xs in
      placed_all states (placed_with same states p a) xs
      ∙ (λ k. record { shown = append_assoc p.shown (shown f) (flat_map shown fs) k; listed = fold listed_with (listed_with p.listed (listed_as f)) (map listed_as fs); last = last_arranged (Some (place_arranged a)) xs })

  run_previous : (t : Disambiguation) (last : Option (Arranged (FirstPrint P))) (xs : List (Arranged (FirstPrint P)))
      → finals_after same t.states (option_map place_arranged last) xs ≡ map (final same t) (zip (last ∷ map (λ a. Some a) xs) xs)
  run_previous t last [] = refl
  run_previous t last (a ∷ xs) = ap (λ fs. final same t (last, a) ∷ fs) (run_previous t (Some a) xs)

  last_item : (last : Option (Arranged (FirstPrint P))) (xs : List (Arranged (FirstPrint P))) → last_arranged (option_map place_arranged last) xs ≡ option_map place_arranged (last_or last xs)
  last_item last [] = refl
  last_item last (a ∷ xs) = last_item (Some a) xs

  all_previous : (t : Disambiguation) (last : Option (Arranged (FirstPrint P))) (xss : List (List (Arranged (FirstPrint P))))
      → all_finals same t.states (option_map place_arranged last) xss ≡ map (map (final same t)) (with_previous last xss)
  all_previous t last [] = refl
  all_previous t last (xs ∷ xss) =
      (λ k. run_previous t last xs k ∷ all_finals same t.states (last_item last xs k) xss) ∙ ap (λ fss. map (final same t) (zip (last ∷ map (λ a. Some a) xs) xs) ∷ fss) (all_previous t (last_or last xs) xss)

  citations_all : (t : Disambiguation) (c : Cited P) (rs : List (Request P)) (bss : List (List (FirstPrint P)))
      → (fold (cited_with same t) c (zip rs bss)).citations ≡ c.citations ++ map citation_in (zip rs (all_finals same t.states c.last (map (arranged_for t) (zip rs bss))))
  citations_all t c [] bss = sym (append-nil c.citations)
  citations_all t c (r ∷ rs) [] = sym (append-nil c.citations)
  citations_all t c (r ∷ rs) (bs ∷ bss) =
      let xs = arranged_for t (r, bs) in
      citations_all t (cited_with same t c (r, bs)) rs bss
      ∙ append_assoc c.citations (citation_in (r, finals_after same t.states c.last xs) ∷ []) (map citation_in (zip rs (all_finals same t.states (last_arranged c.last xs) (map (arranged_for t) (zip rs bss)))))

  listed_one : (ls : List (Option Listed)) (fs gs : List (Final P)) → fold listed_with (fold listed_with ls (map listed_as fs)) (map listed_as gs) ≡ fold listed_with ls (map listed_as (fs ++ gs))
  listed_one ls fs gs = sym (fold-append listed_with ls (map listed_as fs) (map listed_as gs)) ∙ ap (fold listed_with ls) (sym (map-append listed_as fs gs))

  listed_each : (t : Disambiguation) (c : Cited P) (rs : List (Request P)) (bss : List (List (FirstPrint P)))
      → (fold (cited_with same t) c (zip rs bss)).listed ≡ fold listed_with c.listed (map listed_as (flattened (all_finals same t.states c.last (map (arranged_for t) (zip rs bss)))))
  listed_each t c [] bss = refl
  listed_each t c (r ∷ rs) [] = refl
  listed_each t c (r ∷ rs) (bs ∷ bss) =
      let xs = arranged_for t (r, bs) in
      listed_each t (cited_with same t c (r, bs)) rs bss
      ∙ listed_one c.listed (finals_after same t.states c.last xs) (flattened (all_finals same t.states (last_arranged c.last xs) (map (arranged_for t) (zip rs bss))))

  -- what requests come to, from none on
  abbrev pub cited_from_none : Disambiguation → List (Option Listed) → List (Request P) → List (List (FirstPrint P)) → Cited P
  cited_from_none t ls rs bss = fold (cited_with same t) (record { citations = []; listed = ls; last = None }) (zip rs bss)

  citations_none : (t : Disambiguation) (ls : List (Option Listed)) (rs : List (Request P)) (bss : List (List (FirstPrint P)))
      → (cited_from_none t ls rs bss).citations ≡ map citation_in (zip rs (finals_from same t rs bss))
  citations_none t ls rs bss =
      citations_all t (record { citations = []; listed = ls; last = None }) rs bss ∙ ap (λ fss. map citation_in (zip rs fss)) (all_previous t None (map (arranged_for t) (zip rs bss)))

  listed_none : (t : Disambiguation) (ls : List (Option Listed)) (rs : List (Request P)) (bss : List (List (FirstPrint P)))
      → (cited_from_none t ls rs bss).listed ≡ fold listed_with ls (map listed_as (flattened (finals_from same t rs bss)))
  listed_none t ls rs bss =
      listed_each t (record { citations = []; listed = ls; last = None }) rs bss ∙ ap (λ fss. fold listed_with ls (map listed_as (flattened fss))) (all_previous t None (map (arranged_for t) (zip rs bss)))

  module _ {T : Type 0} (answers : T → Answers) (index other : T → ℕ) where
    purpose_alike : (is : List (CitationItem T P)) → list_any (λ (i : Item P). is_some i.purpose) (map (item_view index answers) is) ≡ list_any (λ (i : Item P). is_some i.purpose) (map (item_view other answers) is)
    purpose_alike [] = refl
    purpose_alike (i ∷ is) = ap (λ b. is_some i.purpose || b) (purpose_alike is)

    arranged_alike : (t : Disambiguation) (r : CitationRequest T P) (bs : List (FirstPrint P)) → arranged_for t (request_view index answers r, bs) ≡ arranged_for t (request_view other answers r, bs)
    arranged_alike t r bs = ap (λ b. arranged (request_view index answers r).context.style.citation b (map (gathered_by t) bs)) (purpose_alike r.items.items)

    all_alike : (t : Disambiguation) (rs : List (CitationRequest T P)) (bss : List (List (FirstPrint P)))
        → map (arranged_for t) (zip (map (request_view index answers) rs) bss) ≡ map (arranged_for t) (zip (map (request_view other answers) rs) bss)
    all_alike t [] bss = refl
    all_alike t (r ∷ rs) [] = refl
    all_alike t (r ∷ rs) (bs ∷ bss) = λ k. arranged_alike t r bs k ∷ all_alike t rs bss k

    citation_alike : (r : CitationRequest T P) (fs : List (Final P)) → citation_in (request_view index answers r, fs) ≡ citation_in (request_view other answers r, fs)
    citation_alike r fs =
        ap (λ b. record { note_number = r.note_number; tree = citation_of (joining_quotes (request_view index answers r).context) (request_view index answers r).context.style.citation.layout b (flat_map shown fs) }) (purpose_alike r.items.items)

    each_alike : (rs : List (CitationRequest T P)) (fss : List (List (Final P))) → map citation_in (zip (map (request_view index answers) rs) fss) ≡ map citation_in (zip (map (request_view other answers) rs) fss)
    each_alike [] fss = refl
    each_alike (r ∷ rs) [] = refl
    each_alike (r ∷ rs) (fs ∷ fss) = λ k. citation_alike r fs k ∷ each_alike rs fss k

    finals_alike : (t : Disambiguation) (rs : List (CitationRequest T P)) (bss : List (List (FirstPrint P)))
        → finals_from same t (map (request_view index answers) rs) bss ≡ finals_from same t (map (request_view other answers) rs) bss
    finals_alike t rs bss = ap (λ xss. map (map (final same t)) (with_previous None xss)) (all_alike t rs bss)

    -- citations, however entries are known
    pub citations_are : (t : Disambiguation) (ls : List (Option Listed)) (rs : List (CitationRequest T P)) (bss : List (List (FirstPrint P)))
        → (cited_from_none t ls (map (request_view index answers) rs) bss).citations ≡ map citation_in (zip (map (request_view other answers) rs) (finals_from same t (map (request_view other answers) rs) bss))
    citations_are t ls rs bss =
        citations_none t ls (map (request_view index answers) rs) bss
        ∙ each_alike rs (finals_from same t (map (request_view index answers) rs) bss)
        ∙ ap (λ fss. map citation_in (zip (map (request_view other answers) rs) fss)) (finals_alike t rs bss)

    -- and what is listed
    pub listed_are : (t : Disambiguation) (ls : List (Option Listed)) (rs : List (CitationRequest T P)) (bss : List (List (FirstPrint P)))
        → (cited_from_none t ls (map (request_view index answers) rs) bss).listed ≡ fold listed_with ls (map listed_as (flattened (finals_from same t (map (request_view other answers) rs) bss)))
    listed_are t ls rs bss =
        listed_none t ls (map (request_view index answers) rs) bss ∙ ap (λ fss. fold listed_with ls (map listed_as (flattened fss))) (finals_alike t rs bss)
