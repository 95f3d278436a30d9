-- The cites of a document, as the code numbers them.
use Rattle.std.proofs.Common.{◌≡◌, ℕ, ◌+◌, ◌<◌, Bool, false, All, List, [], ◌∷◌, ◌++◌, length, map, refl, sym, ap, ap₂, ◌∙◌, Option, Some, None, Vec, Ok, Err}
use Rattle.std.specs.Prelude.{filter_map, if◌then◌else◌, position, slice_index, zip}
use Rattle.std.specs.Cmp.{IsEquivalence}
use Rattle.std.specs.List.{enumerate_from, last_or, range_with_len}
use Rattle.std.specs.Option.{option_map}
use Rattle.std.proofs.lemmas.List.{length-map}
use Rattle.std.proofs.lemmas.List.Elements.{All-cons, All-head, All-nil, All-tail}
use Rattle.std.proofs.lemmas.List.FromFn.{length-enumerate_from, length-range_with_len}
use Rattle.rendering_entries.specs.Answers.{Answers}
use Rattle.rendering_context.specs.Contexts.{StyleContext}
use Rattle.rendering_style.specs.StyleViews.{style_view}
use Rattle.driver_requests.specs.CitedEntries.{once, index_among}
use Rattle.driver_requests.specs.Cites.{Cite, cite_at, cites_after, cites_of, entry_of}
use Rattle.driver_requests.specs.Errors.{Overflow, overflow}
use Rattle.driver_requests.specs.Notes.{facts_of}
use Rattle.driver_requests.specs.Order.{cited, number_in, numbers_overflow, ordered}
use Rattle.driver_requests.specs.Indices.{runs}
use Rattle.driver_requests.specs.Positions.{counts_at_first, ibid_of, place_of, with_previous}
use Rattle.driver_requests.specs.Requests.{Item, Request}
use Rattle.driver_requests.specs.HistoryViews.{facts_by_request_view, facts_view}
use Rattle.driver_requests.specs.Views.{context_of, entries_in, entries_of, entry_of_item, item_view, request_view}
use Rattle.driver_requests.specs.declared.bibliography_request.BibliographyRequest.{BibliographyRequest}
use Rattle.driver_requests.specs.declared.item.CitationItem.{CitationItem}
use Rattle.driver_requests.specs.declared.request.CitationRequest.{CitationRequest}
use Rattle.driver_requests.specs.declared.history.CiteFacts.{CiteFacts}
use Rattle.driver_rounds.specs.Documents.{Document, number_of, order_in}
use Rattle.driver_rounds.specs.OrderAndNumbers.{known_in, known_of}
use Rattle.driver_rounds.specs.Numbering.{all_cites_view, cite_view, cites_view, last_after, numbering, numbering_all}
use Rattle.driver_rounds.specs.FirstPrints.{numbered_after, numbered_in}
use Rattle.driver_rounds.specs.Views.{document_view, all_numbered_cites_view}
use Rattle.driver_rounds.specs.declared.cite.NumberedCite.{NumberedCite}
use Rattle.laws.specs.Results.{EndsWith}
use Rattle.laws.specs.Borrowed.{borrowed}
use Rattle.driver_rounds.proofs.KnownIndices.{cited_is, ends_alike, number_is, numbers_long, overflow_alike, passed}

module _ {T P : Type 0} (entry_index : T → ℕ) (answers : T → Answers) where
  run_cites : (earlier : List (Request P)) (r : CitationRequest T P) (n : ℕ) (is : List (CitationItem T P)) (ps : List ℕ) (fs : List CiteFacts) → ps ≡ map entry_index (map entry_of_item is)
      → map facts_view fs ≡ map facts_of (map (cite_at earlier (request_view entry_index answers r)) (enumerate_from n (map (item_view entry_index answers) is)))
      → cites_view answers (context_of r) r.note_number n is ps fs ≡ map (cite_at earlier (request_view entry_index answers r)) (enumerate_from n (map (item_view entry_index answers) is))
  run_cites earlier r n [] ps fs at known = refl
  run_cites earlier r n (i ∷ is) [] fs at known = absurd cc
  run_cites earlier r n (i ∷ is) (p ∷ ps) [] at known = absurd cc
  run_cites earlier r n (i ∷ is) (p ∷ ps) (f ∷ fs) at known =
      let here : p ≡ entry_index i.entry.now = cc in
      let others : ps ≡ map entry_index (map entry_of_item is) = cc in
      let fact : facts_view f ≡ facts_of (cite_at earlier (request_view entry_index answers r) (n, item_view entry_index answers i)) = cc in
      let facts : map facts_view fs ≡ map facts_of (map (cite_at earlier (request_view entry_index answers r)) (enumerate_from (n + 1) (map (item_view entry_index answers) is))) = cc in
      λ k. record {
        item = item_view (λ e. here k) answers i;
        index = n;
        context = context_of r;
        note_number = r.note_number;
        first_note_number = (fact k).first_note_number;
        is_near_note = (fact k).is_near_note;
        is_first = (fact k).is_first;
      } ∷ run_cites earlier r (n + 1) is ps fs others facts k

  -- the cites of requests, from runs of indices and of what is known of each
  pub all_cites : {A B : Type 0} (earlier : List (Request P)) (rs : List (CitationRequest T P)) (ps : List (Vec ℕ A)) (fs : List (Vec CiteFacts B)) → runs ps ≡ map (λ r. map entry_index (entries_of r)) rs
      → facts_by_request_view fs ≡ map (map facts_of) (cites_after earlier (map (request_view entry_index answers) rs)) → all_cites_view answers rs ps fs ≡ cites_after earlier (map (request_view entry_index answers) rs)
  all_cites earlier [] ps fs at known = refl
  all_cites earlier (r ∷ rs) [] fs at known = absurd cc
  all_cites earlier (r ∷ rs) (p ∷ ps) [] at known = absurd cc
  all_cites earlier (r ∷ rs) (p ∷ ps) (f ∷ fs) at known =
      let here : p.items ≡ map entry_index (entries_of r) = cc in
      let others : runs ps ≡ map (λ q. map entry_index (entries_of q)) rs = cc in
      let fact : map facts_view f.items ≡ map facts_of (map (cite_at earlier (request_view entry_index answers r)) (enumerate_from 0 (map (item_view entry_index answers) r.items.items))) = cc in
      let facts : facts_by_request_view fs ≡ map (map facts_of) (cites_after (earlier ++ request_view entry_index answers r ∷ []) (map (request_view entry_index answers) rs)) = cc in
      ap₂ (λ cs css. cs ∷ css) (run_cites earlier r 0 r.items.items p.items f.items here fact) (all_cites (earlier ++ request_view entry_index answers r ∷ []) rs ps fs others facts)

  facts_lengths : {B : Type 0} (earlier : List (Request P)) (rs : List (CitationRequest T P)) (fs : List (Vec CiteFacts B)) → facts_by_request_view fs ≡ map (map facts_of) (cites_after earlier (map (request_view entry_index answers) rs))
      → map (λ (v : Vec CiteFacts B). length v.items) fs ≡ map (λ (r : CitationRequest T P). length r.items.items) rs
  facts_lengths earlier [] [] known = refl
  facts_lengths earlier [] (f ∷ fs) known = absurd cc
  facts_lengths earlier (r ∷ rs) [] known = absurd cc
  facts_lengths earlier (r ∷ rs) (f ∷ fs) known =
      let items = map (item_view entry_index answers) r.items.items in
      let fact : map facts_view f.items ≡ map facts_of (map (cite_at earlier (request_view entry_index answers r)) (enumerate_from 0 items)) = cc in
      let facts : facts_by_request_view fs ≡ map (map facts_of) (cites_after (earlier ++ request_view entry_index answers r ∷ []) (map (request_view entry_index answers) rs)) = cc in
      ap₂ (λ n ns. n ∷ ns)
      (sym (length-map f.items facts_view)
      ∙ ap length fact
      ∙ length-map (map (cite_at earlier (request_view entry_index answers r)) (enumerate_from 0 items)) facts_of
      ∙ length-map (enumerate_from 0 items) (cite_at earlier (request_view entry_index answers r))
      ∙ length-enumerate_from 0 items
      ∙ length-map r.items.items (item_view entry_index answers))
      (facts_lengths (earlier ++ request_view entry_index answers r ∷ []) rs fs facts)

  -- each run of facts is as long as its request
  pub facts_long : {B : Type 0} (rs : List (CitationRequest T P)) (fs : List (Vec CiteFacts B)) → facts_by_request_view fs ≡ map (map facts_of) (cites_of (map (request_view entry_index answers) rs))
      → map (λ (v : Vec CiteFacts B). length v.items) fs ≡ map (λ (r : CitationRequest T P). length r.items.items) rs
  facts_long rs fs known = facts_lengths [] rs fs known

module _ {P : Type 0} (same : P → P → Bool) where
  run_agrees : (count : ℕ) (m n : ℕ → ℕ) → ((p : ℕ) → p < count → m p ≡ n p) → (last : Option (ℕ × Item P)) (cs : List (Cite P)) → All (λ (c : Cite P). entry_of c < count) cs → numbering same m last cs ≡ numbering same n last cs
  run_agrees count m n e last [] within = refl
  run_agrees count m n e last (c ∷ cs) within =
      let here = e (entry_of c) (All-head (λ (b : Cite P). entry_of b < count) c cs within) in
      λ k. record { cite = c; number = here k; ibid = ibid_of same counts_at_first last c; first_names = [] } ∷ run_agrees count m n e (Some (place_of c)) cs (All-tail (λ (b : Cite P). entry_of b < count) c cs within) k

  all_agree : (count : ℕ) (m n : ℕ → ℕ) → ((p : ℕ) → p < count → m p ≡ n p) → (last : Option (ℕ × Item P)) (css : List (List (Cite P))) → All (All (λ (c : Cite P). entry_of c < count)) css → numbering_all same m last css ≡ numbering_all same n last css
  all_agree count m n e last [] within = refl
  all_agree count m n e last (cs ∷ css) within =
      ap₂ (λ ns nss. ns ∷ nss) (run_agrees count m n e last cs (All-head (All (λ (b : Cite P). entry_of b < count)) cs css within)) (all_agree count m n e (last_after last cs) css (All-tail (All (λ (b : Cite P). entry_of b < count)) cs css within))

  run_previous : (d : Document P) (last : Option (Cite P)) (cs : List (Cite P)) → numbering same (number_of d) (option_map place_of last) cs ≡ map (numbered_after same d) (zip (last ∷ map (λ c. Some c) cs) cs)
  run_previous d last [] = refl
  run_previous d last (c ∷ cs) = ap (λ ns. numbered_after same d (last, c) ∷ ns) (run_previous d (Some c) cs)

  last_previous : (last : Option (Cite P)) (cs : List (Cite P)) → last_after (option_map place_of last) cs ≡ option_map place_of (last_or last cs)
  last_previous last [] = refl
  last_previous last (c ∷ cs) = last_previous (Some c) cs

  -- cites that are numbered one after the other are numbered each with the one before it
  pub all_previous : (d : Document P) (last : Option (Cite P)) (css : List (List (Cite P))) → numbering_all same (number_of d) (option_map place_of last) css ≡ map (map (numbered_after same d)) (with_previous last css)
  all_previous d last [] = refl
  all_previous d last (cs ∷ css) =
      ap₂ (λ ns l. ns ∷ numbering_all same (number_of d) l css) (run_previous d last cs) (last_previous last cs) ∙ ap (λ nss. map (numbered_after same d) (zip (last ∷ map (λ c. Some c) cs) cs) ∷ nss) (all_previous d (last_or last cs) css)

run_entries : {T P : Type 0} (answers : T → Answers) (x : StyleContext) (number : Option ℕ) (count n : ℕ) (is : List (CitationItem T P)) (ps : List ℕ) (fs : List CiteFacts) → All (λ p. p < count) ps
    → All (λ (c : Cite P). entry_of c < count) (cites_view answers x number n is ps fs)
run_entries {T} {P} answers x number count n [] ps fs within = All-nil (λ (c : Cite P). entry_of c < count)
run_entries {T} {P} answers x number count n (i ∷ is) [] fs within = All-nil (λ (c : Cite P). entry_of c < count)
run_entries {T} {P} answers x number count n (i ∷ is) (p ∷ ps) [] within = All-nil (λ (c : Cite P). entry_of c < count)
run_entries {T} {P} answers x number count n (i ∷ is) (p ∷ ps) (f ∷ fs) within =
    All-cons (λ (c : Cite P). entry_of c < count) (cite_view answers x number n i p f) (cites_view answers x number (n + 1) is ps fs) (All-head (λ q. q < count) p ps within)
    (run_entries answers x number count (n + 1) is ps fs (All-tail (λ q. q < count) p ps within))

all_entries : {T P A B : Type 0} (answers : T → Answers) (count : ℕ) (rs : List (CitationRequest T P)) (ps : List (Vec ℕ A)) (fs : List (Vec CiteFacts B)) → All (All (λ p. p < count)) (runs ps)
    → All (All (λ (c : Cite P). entry_of c < count)) (all_cites_view answers rs ps fs)
all_entries {T} {P} answers count [] ps fs within = All-nil (All (λ (c : Cite P). entry_of c < count))
all_entries {T} {P} answers count (r ∷ rs) [] fs within = All-nil (All (λ (c : Cite P). entry_of c < count))
all_entries {T} {P} answers count (r ∷ rs) (p ∷ ps) [] within = All-nil (All (λ (c : Cite P). entry_of c < count))
all_entries {T} {P} answers count (r ∷ rs) (p ∷ ps) (f ∷ fs) within =
    All-cons (All (λ (c : Cite P). entry_of c < count)) (cites_view answers (context_of r) r.note_number 0 r.items.items p.items f.items) (all_cites_view answers rs ps fs)
    (run_entries answers (context_of r) r.note_number count 0 r.items.items p.items f.items (All-head (All (λ q. q < count)) p.items (runs ps) within)) (all_entries answers count rs ps fs (All-tail (All (λ q. q < count)) p.items (runs ps) within))

module _ {T P : Type 0} {eq : T → T → Bool} (laws : IsEquivalence eq) (answers : T → Answers) (same : P → P → Bool) (rs : List (CitationRequest T P)) (offset : ℕ) (request : BibliographyRequest T) where
  -- the document
  abbrev document : Document P
  document = document_view eq answers rs offset request

  -- the cited entries are so many
  pub cited_long : (es : List T) (count : ℕ) → es ≡ once eq (entries_in rs) → count ≡ length es → cited (document.requests) ≡ range_with_len 0 count
  cited_long es count are many = cited_is laws answers rs ∙ ap (λ (fs : List T). range_with_len 0 (length fs)) (sym are) ∙ ap (range_with_len 0) (sym many)

  -- their order
  pub order_is : (es : List T) (count : ℕ) (wanted order : List ℕ) → es ≡ once eq (entries_in rs) → count ≡ length es → wanted ≡ filter_map (λ e. position (eq e) es) (borrowed request.order.now)
      → order ≡ ordered (style_view request.style.now).bibliography wanted (range_with_len 0 count) → order_in document ≡ order
  order_is es count wanted order are many asked ordered_so =
      (λ k. ordered (style_view request.style.now).bibliography (filter_map (λ e. position (eq e) (sym are k)) (borrowed request.order.now)) (cited_long es count are many k))
      ∙ ap (λ ps. ordered (style_view request.style.now).bibliography ps (range_with_len 0 count)) (sym asked)
      ∙ sym ordered_so

  -- whether their numbers overflow
  pub overflow_is : (es : List T) (count : ℕ) (order : List ℕ) → es ≡ once eq (entries_in rs) → count ≡ length es → length order ≡ count → numbers_overflow offset order ≡ numbers_overflow offset (cited document.requests)
  overflow_is es count order are many long = overflow_alike offset order (cited document.requests) (long ∙ sym (length-range_with_len 0 count) ∙ sym (ap length (cited_long es count are many)))

  -- where they overflow, nothing is known
  pub known_ends : (refusal : Option Overflow) (es : List T) (count : ℕ) (order : List ℕ) → es ≡ once eq (entries_in rs) → count ≡ length es → length order ≡ count
      → EndsWith refusal (if numbers_overflow offset order then Err overflow else Ok (map (number_in offset order) (range_with_len 0 (length order)))) → EndsWith refusal (known_in same document)
  known_ends refusal es count order are many long h =
      ends_alike refusal overflow (numbers_overflow offset order) (numbers_overflow offset (cited document.requests)) (map (number_in offset order) (range_with_len 0 (length order))) (known_of same document) (overflow_is es count order are many long) h

  -- the cites with their numbers
  pub numbered_is : {A B C : Type 0} (ps : List (Vec ℕ A)) (fs : List (Vec CiteFacts B)) (vs : List (Vec NumberedCite C)) (order numbers : List ℕ) → order_in document ≡ order
      → map (number_in offset order) (range_with_len 0 (length order)) ≡ numbers → runs ps ≡ map (λ r. map (index_among eq (entries_in rs)) (entries_of r)) rs
      → facts_by_request_view fs ≡ map (map facts_of) (cites_of (map (request_view (index_among eq (entries_in rs)) answers) rs)) → All (All (λ p. p < length numbers)) (runs ps)
      → all_numbered_cites_view answers rs vs ≡ numbering_all same (λ p. slice_index numbers p) None (all_cites_view answers rs ps fs) → all_numbered_cites_view answers rs vs ≡ numbered_in same document
  numbered_is ps fs vs order numbers in_order numbered at known within viewed =
      viewed
      ∙ all_agree same (length numbers) (λ p. slice_index numbers p) (number_of document) (λ p less. number_is offset order numbers p numbered less ∙ ap (λ o. number_in offset o p) (sym in_order)) None (all_cites_view answers rs ps fs)
      (all_entries answers (length numbers) rs ps fs within)
      ∙ ap (numbering_all same (number_of document) None) (all_cites (index_among eq (entries_in rs)) answers [] rs ps fs at known)
      ∙ all_previous same document None (cites_of document.requests)

  -- all that is known
  pub known_is : {A B C : Type 0} (es : List T) (ps : List (Vec ℕ A)) (fs : List (Vec CiteFacts B)) (vs : List (Vec NumberedCite C)) (wanted order numbers : List ℕ) (count : ℕ) → es ≡ once eq (entries_in rs) → count ≡ length es
      → wanted ≡ filter_map (λ e. position (eq e) es) (borrowed request.order.now) → order ≡ ordered (style_view request.style.now).bibliography wanted (range_with_len 0 count) → length order ≡ count
      → runs ps ≡ map (λ r. map (index_among eq (entries_in rs)) (entries_of r)) rs → facts_by_request_view fs ≡ map (map facts_of) (cites_of (map (request_view (index_among eq (entries_in rs)) answers) rs))
      → All (All (λ p. p < length numbers)) (runs ps) → all_numbered_cites_view answers rs vs ≡ numbering_all same (λ p. slice_index numbers p) None (all_cites_view answers rs ps fs)
      → (if numbers_overflow offset order then Err overflow else Ok (map (number_in offset order) (range_with_len 0 (length order)))) ≡ Ok numbers
      → known_in same document ≡ Ok (record { count = count; order = order; cites = all_numbered_cites_view answers rs vs })
  known_is es ps fs vs wanted order numbers count are many asked ordered_so long at known within viewed given =
      let fits = passed (numbers_overflow offset order) overflow (map (number_in offset order) (range_with_len 0 (length order))) numbers given in
      let none : numbers_overflow offset (cited document.requests) ≡ false = sym (overflow_is es count order are many long) ∙ fits.0 in
      let in_order : order_in document ≡ order = order_is es count wanted order are many asked ordered_so in
      let so_many : length (cited document.requests) ≡ count = ap length (cited_long es count are many) ∙ length-range_with_len 0 count in
      let cites : numbered_in same document ≡ all_numbered_cites_view answers rs vs = sym (numbered_is ps fs vs order numbers in_order fits.1 at known within viewed) in
      λ k. if none k then Err overflow else Ok (record { count = so_many k; order = in_order k; cites = cites k })

-- there is a number for each cited entry
pub given_long : (offset : ℕ) (order numbers : List ℕ) (count : ℕ) → length order ≡ count → (if numbers_overflow offset order then Err overflow else Ok (map (number_in offset order) (range_with_len 0 (length order)))) ≡ Ok numbers
    → length numbers ≡ count
given_long offset order numbers count long given = numbers_long offset order numbers (passed (numbers_overflow offset order) overflow (map (number_in offset order) (range_with_len 0 (length order))) numbers given).1 ∙ long
