-- An output is made of the last prints of the cites.
use Rattle.std.proofs.Common.{◌≡◌, ℕ, Bool, cond, List, Ok, Err, refl, sym, ◌∙◌}
use Rattle.laws.specs.Text.{text}
use Rattle.laws.proofs.Results.{bind_ok, guard_ok, ok_is}
use Rattle.driver_requests.specs.Errors as errors
use Rattle.driver_requests.specs.Errors.{Overflow}
use Rattle.driver_rounds.specs.Documents.{Document}
use Rattle.driver_rounds.specs.FirstPrints.{disambiguated_in, first_prints_in}
use Rattle.driver.specs.Finish.{Rendered, finish, overflows, rendered_from}
use Rattle.driver.specs.Stages.{finals_by_request}
use Rattle.cite_markers.specs.Document.{Piece}
use Rattle.cite_output.specs.Output.{output_text}
use Rattle.cite_requests.specs.Requests.{OwnLocator, is_same_own}
use Rattle.cite_requests.specs.Stages.{AreWorksOf, document_stage, name_stage, overflow, section_stage}
use Rattle.cite.specs.Verdict.{Task, rendered_stage}
use Rattle.cite_requests.specs.Works.{Works}
use Rattle.cite.proofs.OutputReplaced.{IsWritten, written}
use Rattle.cite_requests.proofs.StepsRefused.{given}
use Rattle.cite_laws.specs.Printed.{NoneIsRefused, OutputsAreOfPrints, document_of, prints_by_marker}

given_unless : (b : Bool) (x r : Rendered) → cond b (Err errors.overflow) (Ok x) ≡ Ok r → r ≡ x
given_unless b x r is = sym (ok_is {F = Overflow} x r (guard_ok b (Ok x) errors.overflow r is).1)

-- what a driver gives is made of prints
finished : (d : Document OwnLocator) (r : Rendered) → finish is_same_own d ≡ Ok r → r ≡ rendered_from d (finals_by_request is_same_own d)
finished d r is = given_unless (overflows d (disambiguated_in d (first_prints_in is_same_own d))) (rendered_from d (finals_by_request is_same_own d)) r is

-- What is given of pieces is made of the prints of what no stage refuses.
pub record IsOfPrints (bib : List ℕ) (task : Task) (pieces : List Piece) (rendered : Rendered) : Type 0 where
  pub read : NoneIsRefused bib task
  pub pieces_are : pieces ≡ read.asked.pieces
  pub is : rendered ≡ rendered_from (document_of read) (prints_by_marker read)

pub of_prints : (bib : List ℕ) (task : Task) (works : Works) (pieces : List Piece) (r : Rendered) → AreWorksOf bib (Ok works) → document_stage task.document ≡ Ok pieces
    → rendered_stage works task.context task.sections pieces ≡ Ok r → IsOfPrints bib task pieces r
unfolding rendered_stage
of_prints bib task works pieces r are document is =
    let names = bind_ok (name_stage works pieces) _ r is in
    let selectors = bind_ok (section_stage task.sections) _ r names.2 in
    let read : NoneIsRefused bib task =
    record {
      asked = record { pieces = pieces; selectors = selectors.0; document = document; sections = selectors.1 };
      file = record { works = works; markers = names.0; read = are; names = names.1 };
    } in
    record { read = read; pieces_are = refl; is = finished (document_of read) r (given (λ _. overflow) (finish is_same_own (document_of read)) r selectors.2) }

pub outputs_are_of_prints : OutputsAreOfPrints
outputs_are_of_prints bib task output verdict =
    let works = (written bib task output verdict).0 in
    let are = (written bib task output verdict).1 in
    let w : IsWritten works task output = (written bib task output verdict).2 in
    let made = of_prints bib task works w.pieces w.rendered are w.read w.is in
    (made.read, sym w.writes ∙ (λ i. text (output_text task.format (made.pieces_are i) (made.is i))))
