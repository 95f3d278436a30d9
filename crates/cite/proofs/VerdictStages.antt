-- What a call comes to, stage by stage.
use Rattle.std.proofs.Common.{◌≡◌, ℕ, List, Ok, Err, refl, sym}
use Rattle.laws.specs.Text.{text}
use Rattle.driver.specs.Finish.{Rendered}
use Rattle.cite_markers.specs.Document.{Piece}
use Rattle.cite_output.specs.Output.{output_text}
use Rattle.cite_requests.specs.Stages.{Refusal, AreWorksOf, document_stage}
use Rattle.cite.specs.Verdict.{Task, rendered_stage, verdict, IsVerdict}
use Rattle.cite_requests.specs.Works.{Works}

-- the stages of the bib text stop
stopped : (r : Refusal) (task : Task) → verdict (Err r) task ≡ Err r
unfolding verdict
stopped r task = refl

pub works_stop : (bib : List ℕ) (task : Task) (r : Refusal) → AreWorksOf bib (Err r) → IsVerdict bib task (Err r)
works_stop bib task r h = (Err r, h, sym (stopped r task))

-- the stage of the document stops
no_document : (works : Works) (task : Task) (r : Refusal) → document_stage task.document ≡ Err r → verdict (Ok works) task ≡ Err r
unfolding verdict
no_document works task r is = rw is refl

pub document_stops : (bib : List ℕ) (works : Works) (task : Task) (r : Refusal) → AreWorksOf bib (Ok works) → document_stage task.document ≡ Err r → IsVerdict bib task (Err r)
document_stops bib works task r h is = (Ok works, h, sym (no_document works task r is))

-- a later stage stops
not_rendered : (works : Works) (task : Task) (pieces : List Piece) (r : Refusal) → document_stage task.document ≡ Ok pieces
    → rendered_stage works task.context task.sections pieces ≡ Err r → verdict (Ok works) task ≡ Err r
unfolding verdict
not_rendered works task pieces r read is = rw (read, is) refl

pub rendering_stops : (bib : List ℕ) (works : Works) (task : Task) (pieces : List Piece) (r : Refusal) → AreWorksOf bib (Ok works) → document_stage task.document ≡ Ok pieces
    → rendered_stage works task.context task.sections pieces ≡ Err r → IsVerdict bib task (Err r)
rendering_stops bib works task pieces r h read is = (Ok works, h, sym (not_rendered works task pieces r read is))

-- no stage stops
all_pass : (works : Works) (task : Task) (pieces : List Piece) (rendered : Rendered) → document_stage task.document ≡ Ok pieces
    → rendered_stage works task.context task.sections pieces ≡ Ok rendered → verdict (Ok works) task ≡ Ok (text (output_text task.format pieces rendered))
unfolding verdict
all_pass works task pieces rendered read is = rw (read, is) refl

pub ends : (bib : List ℕ) (works : Works) (task : Task) (pieces : List Piece) (rendered : Rendered) → AreWorksOf bib (Ok works) → document_stage task.document ≡ Ok pieces
    → rendered_stage works task.context task.sections pieces ≡ Ok rendered → IsVerdict bib task (Ok (text (output_text task.format pieces rendered)))
ends bib works task pieces rendered h read is = (Ok works, h, sym (all_pass works task pieces rendered read is))
