-- A marker of hidden cites alone prints nothing.
use Rattle.std.proofs.Common.{◌≡◌, ℕ, ◌+◌, true, not, ◌||◌, List, [], ◌∷◌, length, map, zip, Ok, refl, sym, ap, subst, ◌∙◌, arith}
use Rattle.std.specs.List.{AllByRecursion, AllZip, enumerate_from, list_any}
use Rattle.std.proofs.lemmas.List.Elements.{recursion_from_All}
use Rattle.laws.proofs.Results.{ok_is}
use Rattle.literature_entries.specs.EntriesData.{EntryData}
use Rattle.rendering_output.specs.declared.writing.BufWriteFormat.{BufWriteFormat}
use Rattle.rendering_context.specs.Contexts.{StyleContext}
use Rattle.rendering_tree.specs.Trees.{nothing}
use Rattle.driver_requests.specs.Requests.{Item, Request}
use Rattle.driver_rounds.specs.FirstPrints.{disambiguated_in, first_prints_in}
use Rattle.driver.specs.Finish.{Citation, Rendered, citation_in, citation_tree, rendered_from}
use Rattle.driver.specs.Stages.{Final}
use Rattle.driver_laws.specs.Laws.{is_all_hidden}
use Rattle.driver_laws.proofs.HiddenNothing.{all_hidden}
use Rattle.cite_markers.specs.Document.{Piece}
use Rattle.cite_markers.specs.Marker.{Cite}
use Rattle.cite_requests.specs.Markers.{CitedWork, cited_works, markers_of}
use Rattle.cite_output.specs.Output.{tree_text}
use Rattle.cite.specs.Replaced.{IsOutputOf}
use Rattle.cite_requests.specs.Requests.{OwnLocator, is_same_own, item_of, request_of, works_in}
use Rattle.cite_requests.specs.Stages.{Refusal, document_stage, unknown_name}
use Rattle.cite.specs.Verdict.{Task}
use Rattle.cite.proofs.OutputReplaced.{IsWritten, bibliography_in, citations_in, output_of, rendered_count, written}
use Rattle.cite.proofs.RequestsAlike.{cites_kept}
use Rattle.cite_requests.proofs.StepsRefused.{given}
use Rattle.cite_laws.specs.Hidden.{HiddenMarkersPrintNothing, IsEmptyIfHidden}
use Rattle.cite_laws.specs.Printed.{NoneIsRefused, document_of, prints_by_marker}
use Rattle.cite_laws.proofs.Outputs.{IsOfPrints, of_prints}

-- a tree without children has no characters
nothing_text : (format : BufWriteFormat) → tree_text format nothing ≡ []
nothing_text format = refl

module _ (format : BufWriteFormat) (x : StyleContext) (cited : List EntryData) where
  -- a request of cites that are all hidden hides all its items
  items_hidden : (cs : List CitedWork) → AllByRecursion (λ (c : Cite). c.hidden ≡ true) (map (λ c. c.cite) cs) → not (list_any (λ (i : Item OwnLocator). not i.is_hidden) (map (item_of cited) cs)) ≡ true
  items_hidden [] h = refl
  items_hidden (c ∷ cs) h = (λ i. not (not (h.0 i) || list_any (λ (j : Item OwnLocator). not j.is_hidden) (map (item_of cited) cs))) ∙ items_hidden cs h.1

  -- a request whose items are all hidden prints nothing
  abbrev PrintsNothing : Request OwnLocator × List (Final OwnLocator) → Type 0
  PrintsNothing p = is_all_hidden p.0 ≡ true → citation_tree p.0 p.1 ≡ nothing

  abbrev citation_texts : ℕ → List (List CitedWork) → List (List (Final OwnLocator)) → List (List ℕ)
  citation_texts n ms fss = map (λ (c : Citation). tree_text format c.tree) (map citation_in (zip (map (request_of x cited) (enumerate_from n ms)) fss))

  texts_empty : (n : ℕ) (ms : List (List CitedWork)) (fss : List (List (Final OwnLocator)))
      → length (map citation_in (zip (map (request_of x cited) (enumerate_from n ms)) fss)) ≡ length (map (map (λ c. c.cite)) ms)
      → AllByRecursion PrintsNothing (zip (map (request_of x cited) (enumerate_from n ms)) fss) → AllZip IsEmptyIfHidden (map (map (λ c. c.cite)) ms) (citation_texts n ms fss)
  texts_empty n [] fss count h = tt
  texts_empty n (m ∷ ms) [] count h = absurd (omega (arith, count))
  texts_empty n (m ∷ ms) (fs ∷ fss) count h = (
    λ all. ap (tree_text format) (h.0 (items_hidden m (recursion_from_All (λ (c : Cite). c.hidden ≡ true) (map (λ c. c.cite) m) all))) ∙ nothing_text format,
    texts_empty (n + 1) ms fss (omega (arith, count)) h.1,
  )

module _ {bib : List ℕ} {task : Task} (read : NoneIsRefused bib task) where
  kept : map (map (λ c. c.cite)) read.file.markers ≡ markers_of read.asked.pieces
  kept = cites_kept read.file.works read.asked.pieces read.file.markers (given unknown_name (cited_works read.file.works read.asked.pieces) read.file.markers read.file.names)

  -- the citations of markers whose cites are all hidden are empty
  all_empty : length (rendered_from (document_of read) (prints_by_marker read)).citations ≡ length (markers_of read.asked.pieces)
      → AllZip IsEmptyIfHidden (markers_of read.asked.pieces) (citations_in task.format (rendered_from (document_of read) (prints_by_marker read)))
  all_empty count =
      let d = document_of read in
      subst (λ (ms : List (List Cite)). AllZip IsEmptyIfHidden ms (citations_in task.format (rendered_from d (prints_by_marker read)))) kept
      (texts_empty task.format task.context (works_in read.file.markers) 1 read.file.markers (prints_by_marker read) (count ∙ ap length (sym kept)) (all_hidden is_same_own d (disambiguated_in d (first_prints_in is_same_own d))))

-- what is given of pieces has empty citations for markers whose cites are all hidden
rendered_empty : (bib : List ℕ) (task : Task) (pieces : List Piece) (r : Rendered) → length r.citations ≡ length (markers_of pieces) → IsOfPrints bib task pieces r
    → AllZip IsEmptyIfHidden (markers_of pieces) (citations_in task.format r)
rendered_empty bib task pieces r count made =
    let same : length (rendered_from (document_of made.read) (prints_by_marker made.read)).citations ≡ length (markers_of made.read.asked.pieces) =
    ap (λ (q : Rendered). length q.citations) (sym made.is) ∙ count ∙ ap (λ ps. length (markers_of ps)) made.pieces_are in
    subst (λ ps. AllZip IsEmptyIfHidden (markers_of ps) (citations_in task.format r)) (sym made.pieces_are)
    (subst (λ (q : Rendered). AllZip IsEmptyIfHidden (markers_of made.read.asked.pieces) (citations_in task.format q)) (sym made.is) (all_empty made.read same))

-- The pieces of an output are those that are read of the document.
its_pieces : (document : List ℕ) (citations : List (List ℕ)) (bibliography output : List ℕ) (is : IsOutputOf document citations bibliography output) (pieces : List Piece) → document_stage document ≡ Ok pieces → pieces ≡ is.pieces
its_pieces document citations bibliography output is pieces read = ok_is {F = Refusal} pieces is.pieces (sym read ∙ is.read)

pub hidden_markers : HiddenMarkersPrintNothing
hidden_markers bib task output verdict =
    let works = (written bib task output verdict).0 in
    let are = (written bib task output verdict).1 in
    let w : IsWritten works task output = (written bib task output verdict).2 in
    let count = rendered_count works task.context task.sections w.pieces w.rendered w.is in
    let citations = citations_in task.format w.rendered in
    let bibliography = bibliography_in task.format w.rendered in
    let empty = rendered_empty bib task w.pieces w.rendered count (of_prints bib task works w.pieces w.rendered are w.read w.is) in
    let is = subst (IsOutputOf task.document citations bibliography) w.writes (output_of task.format task.document w.pieces w.rendered w.read count) in
    (citations, bibliography, is, subst (λ ps. AllZip IsEmptyIfHidden (markers_of ps) citations) (its_pieces task.document citations bibliography output is w.pieces w.read) empty)
