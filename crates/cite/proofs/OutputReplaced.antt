-- Outputs and the documents that they are of.
use Rattle.std.proofs.Common.{◌≡◌, ℕ, List, [], ◌∷◌, ◌++◌, append_assoc, length, map, Result, Ok, refl, sym, ap, subst, ◌∙◌, arith}
use Rattle.std.specs.List.{enumerate_from}
use Rattle.std.specs.Option.{option_map_or}
use Rattle.std.specs.Str.{chars, is_utf8}
use Rattle.std.proofs.lemmas.List.{length-map}
use Rattle.std.proofs.lemmas.List.FromFn.{length-enumerate_from}
use Rattle.std.proofs.lemmas.Str.{IsUtf8-from_is_utf8}
use Rattle.laws.specs.Results.{◌>>=◌}
use Rattle.laws.specs.Text.{text}
use Rattle.laws.proofs.Results.{bind_ok, ok_is, test_ok}
use Rattle.laws.proofs.Text.{text_of_chars}
use Rattle.literature_entries.specs.EntriesData.{EntryData}
use Rattle.rendering_output.specs.declared.writing.BufWriteFormat.{BufWriteFormat}
use Rattle.rendering_context.specs.Contexts.{StyleContext}
use Rattle.driver.specs.Finish.{Citation, Rendered, finish}
use Rattle.cite_markers.specs.Document.{Piece, Text, Marker, FollowInOrder, document_of}
use Rattle.cite_markers.specs.Marker.{Cite}
use Rattle.cite_markers.proofs.DocumentStands.{pieces_stand}
use Rattle.cite_requests.specs.Markers.{CitedWork, cited_work, cited_works, markers_of}
use Rattle.cite_output.specs.Output.{bibliography_text, document_text, output_text, tree_text}
use Rattle.cite.specs.Replaced.{AreReplaced, CitationsDependOnMarkersAlone, IsOutputOf, TextsComeOutUnchanged}
use Rattle.cite_requests.specs.Requests.{is_same_own, request_of, works_in}
use Rattle.cite_requests.specs.Sections.{chosen}
use Rattle.cite_requests.specs.Stages.{Refusal, AreWorksOf, document_not_utf8, document_stage, name_stage, no_marker, overflow, refused_as, section_stage, unknown_name}
use Rattle.cite_requests.specs.Steps.{all_ok}
use Rattle.cite.specs.Verdict.{Task, IsVerdict, driver_document, driver_stage, rendered_stage, verdict}
use Rattle.cite_requests.specs.Works.{Works}
use Rattle.cite.proofs.CitationsCount.{citations_count}
use Rattle.cite_requests.proofs.StepsRefused.{all_count, given}
use Rattle.cite.proofs.VerdictStages.{ends}

-- ---- a citation for each marker

module _ (works : Works) (x : StyleContext) (sections : List (List ℕ)) where
  driven_count : (wanted : List EntryData) (markers : List (List CitedWork)) (r : Rendered) → driver_stage x wanted markers ≡ Ok r → length r.citations ≡ length markers
  driven_count wanted markers r is =
      citations_count is_same_own (driver_document x wanted markers) r (given (λ _. overflow) (finish is_same_own (driver_document x wanted markers)) r is)
      ∙ length-map (enumerate_from 1 markers) (request_of x (works_in markers)) ∙ length-enumerate_from 1 markers

  pub rendered_count : (pieces : List Piece) (r : Rendered) → rendered_stage works x sections pieces ≡ Ok r → length r.citations ≡ length (markers_of pieces)
  unfolding rendered_stage
  rendered_count pieces r is =
      let names = bind_ok (name_stage works pieces) _ r is in
      let selectors = bind_ok (section_stage sections) _ r names.2 in
      driven_count (chosen selectors.0 works.library) names.0 r selectors.2
      ∙ all_count (all_ok (cited_work works)) (markers_of pieces) names.0 (given unknown_name (cited_works works pieces) names.0 names.1)

  -- what is given depends on the markers alone
  same_markers : (ps qs : List Piece) → markers_of ps ≡ markers_of qs → rendered_stage works x sections ps ≡ rendered_stage works x sections qs
  unfolding rendered_stage
  same_markers ps qs same =
      ap (λ (ms : List (List Cite)). refused_as unknown_name (all_ok (all_ok (cited_work works)) ms) >>= λ markers. section_stage sections >>= λ selectors. driver_stage x (chosen selectors works.library) markers) same

-- ---- outputs

replaced : (format : BufWriteFormat) (ps : List Piece) (cs : List Citation) (rest : List ℕ) → length cs ≡ length (markers_of ps) → AreReplaced (document_text format ps cs ++ rest) ps (map (λ c. tree_text format c.tree) cs) rest
replaced format [] [] rest count = refl
replaced format [] (c ∷ cs) rest count = absurd (omega (arith, count))
replaced format (Text t ∷ ps) cs rest count = (document_text format ps cs ++ rest, append_assoc t (document_text format ps cs) rest, replaced format ps cs rest count)
replaced format (Marker cites ∷ ps) [] rest count = absurd (omega (arith, count))
replaced format (Marker cites ∷ ps) (c ∷ cs) rest count =
    (document_text format ps cs ++ rest, append_assoc (tree_text format c.tree) (document_text format ps cs) rest, replaced format ps cs rest (omega (arith, count)))

record IsRead (document : List ℕ) (pieces : List Piece) : Type 0 where
  pub stand : FollowInOrder (chars document) pieces []
  pub spelled : text (chars document) ≡ document

read_whole : (document : List ℕ) (pieces : List Piece) → document_stage document ≡ Ok pieces → IsRead document pieces
read_whole document pieces is =
    let parts = test_ok (is_utf8 document) (refused_as no_marker (document_of (chars document))) document_not_utf8 pieces is in
    record {
      stand = pieces_stand (chars document) pieces (given no_marker (document_of (chars document)) pieces parts.1);
      spelled = text_of_chars document (IsUtf8-from_is_utf8 document parts.0);
    }

-- citations and bibliography as a format writes them
abbrev pub citations_in : BufWriteFormat → Rendered → List (List ℕ)
citations_in format r = map (λ c. tree_text format c.tree) r.citations

abbrev pub bibliography_in : BufWriteFormat → Rendered → List ℕ
bibliography_in format r = option_map_or (bibliography_text format) r.bibliography []

pub output_of : (format : BufWriteFormat) (document : List ℕ) (pieces : List Piece) (r : Rendered) → document_stage document ≡ Ok pieces → length r.citations ≡ length (markers_of pieces)
    → IsOutputOf document (citations_in format r) (bibliography_in format r) (text (output_text format pieces r))
output_of format document pieces r is count =
    let whole = read_whole document pieces is in
    record {
      pieces = pieces;
      read = is;
      stand = whole.stand;
      spelled = whole.spelled;
      characters = output_text format pieces r;
      replaced = replaced format pieces r.citations (bibliography_in format r) count;
      written = refl;
    }

-- ---- verdicts that are outputs

pub record IsWritten (works : Works) (task : Task) (output : List ℕ) : Type 0 where
  pub pieces : List Piece
  pub rendered : Rendered
  pub read : document_stage task.document ≡ Ok pieces
  pub is : rendered_stage works task.context task.sections pieces ≡ Ok rendered
  pub writes : text (output_text task.format pieces rendered) ≡ output

written_by : (works : Result Works Refusal) (task : Task) (output : List ℕ) → verdict works task ≡ Ok output → (w : Works) × (works ≡ Ok w) × IsWritten w task output
unfolding verdict
written_by works task output is =
    let library = bind_ok works _ output is in
    let read = bind_ok (document_stage task.document) _ output library.2 in
    let rendered = bind_ok (rendered_stage library.0 task.context task.sections read.0) _ output read.2 in
    (library.0, library.1, record { pieces = read.0; rendered = rendered.0; read = read.1; is = rendered.1; writes = ok_is {F = Refusal} (text (output_text task.format read.0 rendered.0)) output rendered.2 })

pub written : (bib : List ℕ) (task : Task) (output : List ℕ) → IsVerdict bib task (Ok output) → (w : Works) × AreWorksOf bib (Ok w) × IsWritten w task output
written bib task output (works, are_works, is) =
    let w = written_by works task output (sym is) in
    (w.0, subst (AreWorksOf bib) w.1 are_works, w.2)

pub texts_unchanged : TextsComeOutUnchanged
texts_unchanged bib task output is =
    let w = (written bib task output is).2 in
    let works = (written bib task output is).0 in (
      citations_in task.format w.rendered,
      bibliography_in task.format w.rendered,
      subst (IsOutputOf task.document (citations_in task.format w.rendered) (bibliography_in task.format w.rendered)) w.writes
          (output_of task.format task.document w.pieces w.rendered w.read (rendered_count works task.context task.sections w.pieces w.rendered w.is)),
    )

pieces_are : (document : List ℕ) (ps qs : List Piece) → document_stage document ≡ Ok ps → document_stage document ≡ Ok qs → ps ≡ qs
pieces_are document ps qs p q = ok_is {F = Refusal} ps qs (sym p ∙ q)

pub markers_alone : CitationsDependOnMarkersAlone
markers_alone bib task other markers output (ps, read, here) (qs, read_other, there) is =
    let works = (written bib task output is).0 in
    let are_works = (written bib task output is).1 in
    let w = (written bib task output is).2 in
    let citations = citations_in task.format w.rendered in
    let bibliography = bibliography_in task.format w.rendered in
    let same : markers_of qs ≡ markers_of w.pieces = there ∙ sym here ∙ ap markers_of (pieces_are task.document ps w.pieces read w.read) in
    let given_other : rendered_stage works task.context task.sections qs ≡ Ok w.rendered = same_markers works task.context task.sections qs w.pieces same ∙ w.is in (
      citations,
      bibliography,
      text (output_text task.format qs w.rendered),
      subst (IsOutputOf task.document citations bibliography) w.writes (output_of task.format task.document w.pieces w.rendered w.read (rendered_count works task.context task.sections w.pieces w.rendered w.is)),
      ends bib works (record task { document = other }) qs w.rendered are_works read_other given_other,
      output_of task.format other qs w.rendered read_other (rendered_count works task.context task.sections qs w.rendered given_other),
    )
