-- A request of hidden items alone prints nothing.
use Rattle.std.proofs.Common.{◌≡◌, ℕ, Bool, true, false, true≢false, cond, not, ◌||◌, List, [], ◌∷◌, ◌++◌, map, refl, sym, ap, ◌∙◌, Option, Some, None}
use Rattle.std.specs.List.{AllByRecursion, enumerate_from, flat_map, last_or, list_any, zip}
use Rattle.std.proofs.lemmas.List.Elements.{All-contains, All-from_recursion}
use Rattle.rendering_tree.specs.Trees.{nothing}
use Rattle.rendering.specs.Words.{joining_quotes}
use Rattle.driver_requests.specs.Cites.{Cite, cite_at, cites_after}
use Rattle.driver_requests.specs.Positions.{with_previous}
use Rattle.driver_requests.specs.Requests.{Item, Request}
use Rattle.driver_disambiguation.specs.Rounds.{Disambiguation}
use Rattle.driver_blocks.specs.Blocks.{Gathered}
use Rattle.driver_blocks.specs.Runs.{Arranged}
use Rattle.driver_citations.specs.Citations.{citation_of}
use Rattle.driver_rounds.specs.Documents.{Document}
use Rattle.driver.specs.Finish.{citation_tree, shown, shown_cite}
use Rattle.driver_laws.specs.Laws.{HiddenItemsPrintNothing, is_all_hidden}
use Rattle.driver.specs.Stages.{finals_by_request, Final, arranged_for, final, gathered_by, has_purpose}
use Rattle.driver_rounds.specs.FirstPrints.{FirstPrint, disambiguated_in, first_print, first_prints_in, named_after}
use Rattle.driver.proofs.ArrangedCites.{IsOne, arranged_all}
use Rattle.driver.proofs.Members.{enumerate_all, map_all, weaker_all, zip_all}

-- where no member passes a test, none of the others does
any_none : {A : Type 0} (p : A → Bool) (xs : List A) → not (list_any p xs) ≡ true → AllByRecursion (λ x. p x ≡ false) xs
any_none p [] h = tt
any_none p (x ∷ xs) h = by_value (p x) refl (any_none p xs)
  where
    by_value : (b : Bool) → p x ≡ b → (not (list_any p xs) ≡ true → AllByRecursion (λ y. p y ≡ false) xs) → (p x ≡ false) × AllByRecursion (λ y. p y ≡ false) xs
    by_value true e others = absurd (true≢false (sym h ∙ ap (λ b. not (b || list_any p xs)) e))
    by_value false e others = (e, others (sym (ap (λ b. not (b || list_any p xs)) e) ∙ h))

hidden_by : (b : Bool) → not b ≡ false → b ≡ true
hidden_by true h = refl
hidden_by false h = absurd (true≢false h)

none_shown : {P : Type 0} (fs : List (Final P)) → AllByRecursion (λ (f : Final P). f.arranged.is_shown ≡ false) fs → flat_map shown fs ≡ []
none_shown [] h = refl
none_shown (f ∷ fs) h = (λ k. cond (h.0 k) (shown_cite f ∷ []) [] ++ flat_map shown fs) ∙ none_shown fs h.1

module _ {P : Type 0} (same : P → P → Bool) (d : Document P) (t : Disambiguation) where
  -- a cite is of a hidden item
  abbrev IsHidden : FirstPrint P → Type 0
  IsHidden b = b.numbered.cite.item.is_hidden ≡ true

  -- a request of hidden items has cites of hidden items
  abbrev HidesAll : Request P × List (FirstPrint P) → Type 0
  HidesAll p = is_all_hidden p.0 ≡ true → AllByRecursion IsHidden p.1

  items_hidden : (is : List (Item P)) → not (list_any (λ (i : Item P). not i.is_hidden) is) ≡ true → AllByRecursion (λ (i : Item P). i.is_hidden ≡ true) is
  items_hidden is h = weaker_all (λ (i : Item P). not i.is_hidden ≡ false) (λ (i : Item P). i.is_hidden ≡ true) (λ i g. hidden_by i.is_hidden g) is (any_none (λ (i : Item P). not i.is_hidden) is h)

  cites_hidden : (earlier : List (Request P)) (r : Request P) → is_all_hidden r ≡ true → AllByRecursion (λ (c : Cite P). c.item.is_hidden ≡ true) (map (cite_at earlier r) (enumerate_from 0 r.items))
  cites_hidden earlier r h =
      map_all (λ (c : Cite P). c.item.is_hidden ≡ true) (cite_at earlier r) (enumerate_from 0 r.items)
      (weaker_all (λ (p : ℕ × Item P). p.1.is_hidden ≡ true) (λ p. (cite_at earlier r p).item.is_hidden ≡ true) hidden_at (enumerate_from 0 r.items) (enumerate_all (λ (i : Item P). i.is_hidden ≡ true) 0 r.items (items_hidden r.items h)))
    where
      hidden_at : (p : ℕ × Item P) → p.1.is_hidden ≡ true → (cite_at earlier r p).item.is_hidden ≡ true
      hidden_at (index, i) g = g

  print_hidden : (p : Option (Cite P) × Cite P) → p.1.item.is_hidden ≡ true → IsHidden (first_print (named_after same d p))
  print_hidden (last, c) h = h

  prints_hidden : (last : Option (Cite P)) (cs : List (Cite P)) → AllByRecursion (λ (c : Cite P). c.item.is_hidden ≡ true) cs
      → AllByRecursion IsHidden (map (λ p. first_print (named_after same d p)) (zip (last ∷ map (λ c. Some c) cs) cs))
  prints_hidden last cs h =
      let pairs = zip (last ∷ map (λ c. Some c) cs) cs in
      map_all IsHidden (λ p. first_print (named_after same d p)) pairs
      (weaker_all (λ (p : Option (Cite P) × Cite P). p.1.item.is_hidden ≡ true) (λ p. IsHidden (first_print (named_after same d p))) print_hidden pairs (zip_all (λ (c : Cite P). c.item.is_hidden ≡ true) (last ∷ map (λ c. Some c) cs) cs h))

  first_hidden : (earlier : List (Request P)) (last : Option (Cite P)) (rs : List (Request P)) → AllByRecursion HidesAll (zip rs (map (map (λ p. first_print (named_after same d p))) (with_previous last (cites_after earlier rs))))
  first_hidden earlier last [] = tt
  first_hidden earlier last (r ∷ rs) =
      let cs = map (cite_at earlier r) (enumerate_from 0 r.items) in
      (λ h. prints_hidden last cs (cites_hidden earlier r h), first_hidden (earlier ++ r ∷ []) (last_or last cs) rs)

  -- a cite as it is gathered, of a hidden item
  abbrev IsHiddenCite : Gathered (FirstPrint P) → Type 0
  IsHiddenCite x = x.is_shown ≡ false

  -- a cite that is arranged is not shown
  abbrev IsUnshown : Arranged (FirstPrint P) → Type 0
  IsUnshown a = a.is_shown ≡ false

  run_hidden : (r : Request P) (bs : List (FirstPrint P)) → AllByRecursion IsHidden bs → AllByRecursion IsUnshown (arranged_for t (r, bs))
  run_hidden r bs h =
      let gs = map_all IsHiddenCite (gathered_by t) bs (weaker_all IsHidden (λ b. IsHiddenCite (gathered_by t b)) (λ b g. ap not g) bs h) in
      weaker_all (IsOne r.context.style.citation IsHiddenCite) IsUnshown (λ a g. g.1 g.0) (arranged_for t (r, bs)) (arranged_all r.context.style.citation IsHiddenCite (has_purpose r) (map (gathered_by t) bs) gs)

  -- a request of hidden items prints nothing
  abbrev pub PrintsNothing : Request P × List (Final P) → Type 0
  PrintsNothing p = is_all_hidden p.0 ≡ true → citation_tree p.0 p.1 ≡ nothing

  final_hidden : (p : Option (Arranged (FirstPrint P)) × Arranged (FirstPrint P)) → IsUnshown p.1 → (final same t p).arranged.is_shown ≡ false
  final_hidden (last, a) h = h

  prints_nothing : (r : Request P) (last : Option (Arranged (FirstPrint P))) (xs : List (Arranged (FirstPrint P))) → AllByRecursion IsUnshown xs → citation_tree r (map (final same t) (zip (last ∷ map (λ a. Some a) xs) xs)) ≡ nothing
  prints_nothing r last xs h =
      let pairs = zip (last ∷ map (λ a. Some a) xs) xs in
      let unshown : AllByRecursion (λ (f : Final P). f.arranged.is_shown ≡ false) (map (final same t) pairs) =
      map_all (λ (f : Final P). f.arranged.is_shown ≡ false) (final same t) pairs
      (weaker_all (λ (p : Option (Arranged (FirstPrint P)) × Arranged (FirstPrint P)). IsUnshown p.1) (λ p. (final same t p).arranged.is_shown ≡ false) final_hidden pairs (zip_all IsUnshown (last ∷ map (λ a. Some a) xs) xs h)) in
      ap (citation_of (joining_quotes r.context) r.context.style.citation.layout (has_purpose r)) (none_shown (map (final same t) pairs) unshown)

  finals_hidden : (last : Option (Arranged (FirstPrint P))) (rs : List (Request P)) (bss : List (List (FirstPrint P))) → AllByRecursion HidesAll (zip rs bss)
      → AllByRecursion PrintsNothing (zip rs (map (map (final same t)) (with_previous last (map (arranged_for t) (zip rs bss)))))
  finals_hidden last [] bss h = tt
  finals_hidden last (r ∷ rs) [] h = tt
  finals_hidden last (r ∷ rs) (bs ∷ bss) h =
      (λ g. prints_nothing r last (arranged_for t (r, bs)) (run_hidden r bs (h.0 g)), finals_hidden (last_or last (arranged_for t (r, bs))) rs bss h.1)

  -- and so in the whole document
  pub all_hidden : AllByRecursion PrintsNothing (zip d.requests (map (map (final same t)) (with_previous None (map (arranged_for t) (zip d.requests (first_prints_in same d))))))
  all_hidden = finals_hidden None d.requests (first_prints_in same d) (first_hidden [] None d.requests)

-- a request of hidden items alone prints nothing
pub hidden_nothing : (P : Type 0) → HiddenItemsPrintNothing P
hidden_nothing P = λ same d r fs has h.
    let t = disambiguated_in d (first_prints_in same d) in
    let pairs = zip d.requests (finals_by_request same d) in
    All-contains (PrintsNothing same d t) pairs (r, fs) (All-from_recursion (PrintsNothing same d t) pairs (all_hidden same d t)) has h
