-- Documents that differ in the names of their cites alone have one verdict, where each name means the same work as the one in its place.
use Rattle.std.proofs.Common.{◌≡◌, ℕ, ◌+◌, List, [], ◌∷◌, ◌++◌, map, Option, Some, None, Result, Ok, refl, sym, ap, ◌∙◌}
use Rattle.std.specs.List.{AllZip, enumerate_from}
use Rattle.std.specs.Option.{option_map_or}
use Rattle.laws.specs.Results.{◌>>=◌}
use Rattle.laws.specs.Text.{text}
use Rattle.laws.proofs.Results.{bind_ok, ok_is}
use Rattle.literature_entries.specs.EntriesData.{EntryData}
use Rattle.rendering_output.specs.declared.writing.BufWriteFormat.{BufWriteFormat}
use Rattle.rendering_context.specs.Contexts.{StyleContext}
use Rattle.driver_requests.specs.CitedEntries.{indices_among}
use Rattle.driver_requests.specs.Requests.{Item}
use Rattle.driver_rounds.specs.Documents.{Document}
use Rattle.driver.specs.Finish.{Citation, Rendered, finish}
use Rattle.cite_markers.specs.Document.{Piece, Text, Marker}
use Rattle.cite_markers.specs.Marker.{Cite}
use Rattle.cite_requests.specs.Markers.{CitedWork, cited_work, cited_works, markers_of, with_work}
use Rattle.cite_output.specs.Output.{bibliography_text, document_text, output_text, tree_text}
use Rattle.cite_requests.specs.Requests.{OwnLocator, is_same_own, item_of, request_of, requests_of, works_in}
use Rattle.cite_requests.specs.Sections.{chosen}
use Rattle.cite_requests.specs.Stages.{Refusal, document_stage, name_stage, overflow, refused_as, section_stage, unknown_name}
use Rattle.cite_requests.specs.Steps.{all_ok}
use Rattle.cite.specs.Verdict.{Task, IsVerdict, driver_document, driver_stage, rendered_stage, verdict}
use Rattle.cite_requests.specs.Works.{Works, is_same, meaning}
use Rattle.cite_requests.proofs.StepsRefused.{given}
use Rattle.cite.proofs.VerdictsUnique.{one_verdict}
use Rattle.cite_laws.specs.OtherNames.{AreOneCite, AreOnePiece, DifferInNames, OtherNamesPrintTheSame}

-- what steps give of members that are related one by one, so far as a view shows it
module _ {F X Y Z : Type 0} (step : X → Result Y F) (view : Y → Z) (R : X → X → Type 0)
    (related : (x y : X) → R x y → (a : Y) → step x ≡ Ok a → (b : Y) × (step y ≡ Ok b) × (view a ≡ view b)) where
  steps_related : (xs ys : List X) → AllZip R xs ys → (found : List Y) → all_ok step xs ≡ Ok found → (others : List Y) × (all_ok step ys ≡ Ok others) × (map view found ≡ map view others)
  unfolding all_ok
  steps_related [] [] h found is = ([], refl, ap (map view) (sym (ok_is {F = F} [] found is)))
  steps_related [] (y ∷ ys) h found is = absurd h
  steps_related (x ∷ xs) [] h found is = absurd h
  steps_related (x ∷ xs) (y ∷ ys) h found is =
      let first = bind_ok (step x) _ found is in
      let more = bind_ok (all_ok step xs) _ found first.2 in
      let one = related x y h.0 first.0 first.1 in
      let others = steps_related xs ys h.1 more.0 more.1 in (
        one.0 ∷ others.0,
        (λ i. one.1 i >>= λ b. others.1 i >>= λ bs. Ok (b ∷ bs)),
        ap (map view) (sym (ok_is {F = F} (first.0 ∷ more.0) found more.2)) ∙ (λ i. one.2 i ∷ others.2 i),
      )

-- a cite with its work, without its name
abbrev unnamed : CitedWork → CitedWork
unnamed c = record { cite = record { name = []; hidden = c.cite.hidden; purpose = c.cite.purpose; locator = c.cite.locator }; work = c.work }

module _ (works : Works) where
  work_related : (c d : Cite) → AreOneCite works c d → (o p : Option EntryData) → o ≡ p → (found : CitedWork) → with_work c o ≡ Ok found
      → (other : CitedWork) × (with_work d p ≡ Ok other) × (unnamed found ≡ unnamed other)
  work_related c d h None p same found is = absurd cc
  work_related c d h (Some w) p same found is =
      let mine : CitedWork = record { cite = c; work = w } in
      let other : CitedWork = record { cite = d; work = w } in
      let alike : unnamed mine ≡ unnamed other = λ i. record { cite = record { name = []; hidden = h.hidden i; purpose = h.purpose i; locator = h.locator i }; work = w } in
      (other, ap (with_work d) (sym same), ap unnamed (sym (ok_is {F = List ℕ} mine found is)) ∙ alike)

  cite_related : (c d : Cite) → AreOneCite works c d → (found : CitedWork) → cited_work works c ≡ Ok found → (other : CitedWork) × (cited_work works d ≡ Ok other) × (unnamed found ≡ unnamed other)
  cite_related c d h found is = work_related c d h (meaning (text c.name) works) (meaning (text d.name) works) h.means found is

  -- the works that are found of markers whose cites are the same but for their names
  markers_related : (ms ns : List (List Cite)) → AllZip (AllZip (AreOneCite works)) ms ns → (found : List (List CitedWork)) → all_ok (all_ok (cited_work works)) ms ≡ Ok found
      → (others : List (List CitedWork)) × (all_ok (all_ok (cited_work works)) ns ≡ Ok others) × (map (map unnamed) found ≡ map (map unnamed) others)
  markers_related = steps_related (all_ok (cited_work works)) (map unnamed) (AllZip (AreOneCite works)) (steps_related (cited_work works) unnamed (AreOneCite works) cite_related)

  pieces_related : (ps qs : List Piece) → AllZip (AreOnePiece works) ps qs → AllZip (AllZip (AreOneCite works)) (markers_of ps) (markers_of qs)
  pieces_related [] [] h = tt
  pieces_related [] (q ∷ qs) h = absurd h
  pieces_related (p ∷ ps) [] h = absurd h
  pieces_related (Text t ∷ ps) (Text u ∷ qs) h = pieces_related ps qs h.1
  pieces_related (Text t ∷ ps) (Marker ds ∷ qs) h = absurd h.0
  pieces_related (Marker cs ∷ ps) (Text u ∷ qs) h = absurd h.0
  pieces_related (Marker cs ∷ ps) (Marker ds ∷ qs) h = (h.0, pieces_related ps qs h.1)

  -- documents of such pieces are the same with the same citations
  document_same : (format : BufWriteFormat) (ps qs : List Piece) → AllZip (AreOnePiece works) ps qs → (cs : List Citation) → document_text format ps cs ≡ document_text format qs cs
  document_same format [] [] h cs = refl
  document_same format [] (q ∷ qs) h cs = absurd h
  document_same format (p ∷ ps) [] h cs = absurd h
  document_same format (Text t ∷ ps) (Text u ∷ qs) h cs = λ i. h.0 i ++ document_same format ps qs h.1 cs i
  document_same format (Text t ∷ ps) (Marker ds ∷ qs) h cs = absurd h.0
  document_same format (Marker ms ∷ ps) (Text u ∷ qs) h cs = absurd h.0
  document_same format (Marker ms ∷ ps) (Marker ds ∷ qs) h [] = document_same format ps qs h.1 []
  document_same format (Marker ms ∷ ps) (Marker ds ∷ qs) h (c ∷ cs) = ap (λ (rest : List ℕ). tree_text format c.tree ++ rest) (document_same format ps qs h.1 cs)

-- a driver is asked the same of cites without their names
items_unnamed : (cited : List EntryData) (cs : List CitedWork) → map (item_of cited) cs ≡ map (item_of cited) (map unnamed cs)
items_unnamed cited [] = refl
items_unnamed cited (c ∷ cs) = ap (λ (rest : List (Item OwnLocator)). item_of cited c ∷ rest) (items_unnamed cited cs)

requests_unnamed : (x : StyleContext) (cited : List EntryData) (n : ℕ) (ms : List (List CitedWork)) → map (request_of x cited) (enumerate_from n ms) ≡ map (request_of x cited) (enumerate_from n (map (map unnamed) ms))
requests_unnamed x cited n [] = refl
requests_unnamed x cited n (m ∷ ms) = λ i. record (request_of x cited (n, m)) { items = items_unnamed cited m i } ∷ requests_unnamed x cited (n + 1) ms i

cites_unnamed : (cs : List CitedWork) → map (λ c. c.work) cs ≡ map (λ c. c.work) (map unnamed cs)
cites_unnamed [] = refl
cites_unnamed (c ∷ cs) = ap (λ (rest : List EntryData). c.work ∷ rest) (cites_unnamed cs)

works_unnamed : (ms : List (List CitedWork)) → works_in ms ≡ works_in (map (map unnamed) ms)
works_unnamed [] = refl
works_unnamed (m ∷ ms) = λ i. cites_unnamed m i ++ works_unnamed ms i

module _ (x : StyleContext) (wanted : List EntryData) where
  asked_unnamed : (ms : List (List CitedWork)) → requests_of x ms ≡ requests_of x (map (map unnamed) ms)
  asked_unnamed ms = requests_unnamed x (works_in ms) 1 ms ∙ ap (λ (ws : List EntryData). map (request_of x ws) (enumerate_from 1 (map (map unnamed) ms))) (works_unnamed ms)

  document_unnamed : (ms : List (List CitedWork)) → driver_document x wanted ms ≡ driver_document x wanted (map (map unnamed) ms)
  document_unnamed ms = λ i. record (driver_document x wanted ms) { requests = asked_unnamed ms i; wanted = indices_among is_same (works_unnamed ms i) wanted }

  driven_same : (ms ns : List (List CitedWork)) → map (map unnamed) ms ≡ map (map unnamed) ns → driver_stage x wanted ms ≡ driver_stage x wanted ns
  driven_same ms ns same =
      ap (λ (d : Document OwnLocator). refused_as (λ _. overflow) (finish is_same_own d))
      (document_unnamed ms ∙ ap (driver_document x wanted) same ∙ sym (document_unnamed ns))

-- what a document comes to, stage by stage
rendered_is : (works : Works) (x : StyleContext) (sections : List (List ℕ)) (pieces : List Piece) (ms : List (List CitedWork)) → name_stage works pieces ≡ Ok ms
    → rendered_stage works x sections pieces ≡ (section_stage sections >>= λ selectors. driver_stage x (chosen selectors works.library) ms)
unfolding rendered_stage
rendered_is works x sections pieces ms is = rw is refl

verdict_is : (works : Works) (task : Task) (pieces : List Piece) → document_stage task.document ≡ Ok pieces
    → verdict (Ok works) task ≡ (rendered_stage works task.context task.sections pieces >>= λ r. Ok (text (output_text task.format pieces r)))
unfolding verdict
verdict_is works task pieces is = rw is refl

module _ (bib : List ℕ) (task : Task) (other : List ℕ) (h : DifferInNames bib task.document other) where
  abbrev other_task : Task
  other_task = record task { document = other }

  abbrev markers : List (List CitedWork)
  markers = h.file.markers

  abbrev WithNames : List (List CitedWork) → Type 0
  WithNames ns = (all_ok (all_ok (cited_work h.file.works)) (markers_of h.others) ≡ Ok ns) × (map (map unnamed) markers ≡ map (map unnamed) ns)

  other_markers : (ns : List (List CitedWork)) × WithNames ns
  other_markers =
      let found =
      markers_related h.file.works (markers_of h.pieces) (markers_of h.others) (pieces_related h.file.works h.pieces h.others h.same) markers
      (given unknown_name (cited_works h.file.works h.pieces) markers h.file.names) in
      (found.0, (found.1, found.2))

  rendered_same : (ns : List (List CitedWork)) → WithNames ns → rendered_stage h.file.works task.context task.sections h.pieces ≡ rendered_stage h.file.works task.context task.sections h.others
  rendered_same ns found =
      rendered_is h.file.works task.context task.sections h.pieces markers h.file.names
      ∙ (λ i. section_stage task.sections >>= λ selectors. driven_same task.context (chosen selectors h.file.works.library) markers ns found.1 i)
      ∙ sym (rendered_is h.file.works task.context task.sections h.others ns (ap (refused_as unknown_name) found.0))

  text_same : (r : Rendered) → output_text task.format h.pieces r ≡ output_text task.format h.others r
  text_same r = ap (λ (cs : List ℕ). cs ++ option_map_or (bibliography_text task.format) r.bibliography []) (document_same h.file.works task.format h.pieces h.others h.same r.citations)

  same_verdict : verdict (Ok h.file.works) task ≡ verdict (Ok h.file.works) other_task
  same_verdict =
      verdict_is h.file.works task h.pieces h.read
      ∙ (λ i. rendered_same other_markers.0 other_markers.1 i >>= λ r. Ok (text (text_same r i)))
      ∙ sym (verdict_is h.file.works other_task h.others h.read_other)

  there : (answer : Result (List ℕ) Refusal) → IsVerdict bib task answer → IsVerdict bib other_task answer
  there answer is =
      (Ok h.file.works, h.file.read, one_verdict bib task answer (verdict (Ok h.file.works) task) is (Ok h.file.works, h.file.read, refl) ∙ same_verdict)

  back : (answer : Result (List ℕ) Refusal) → IsVerdict bib other_task answer → IsVerdict bib task answer
  back answer is =
      (Ok h.file.works, h.file.read, one_verdict bib other_task answer (verdict (Ok h.file.works) other_task) is (Ok h.file.works, h.file.read, refl) ∙ sym same_verdict)

pub other_names : OtherNamesPrintTheSame
other_names bib task other h answer = (there bib task other h answer, back bib task other h answer)
