-- What the stages of a run come to, one after another.
use Rattle.std.proofs.Common.{◌≡◌, ℕ, List, map, chars, Result, Ok, Err, sym, ap, ◌∙◌}
use Rattle.laws.specs.Results.{◌>>=◌}
use Rattle.laws.specs.Text.{text}
use Rattle.driver.specs.Finish.{Rendered}
use Rattle.cite_markers.specs.Document.{Piece}
use Rattle.cite_output.specs.Output.{output_text}
use Rattle.cite_requests.specs.Works.{Works}
use Rattle.cite_order.specs.Order.{Setting, rendered_in_order}
use Rattle.cite_csl_command.specs.Command.{Asked}
use Rattle.cite_csl_styles.specs.Answers.{Answers, IsStop}
use Rattle.cite_csl_styles.specs.Sources.{SourceFile}
use Rattle.cite_csl_styles.specs.Stages.{Lines}
use Rattle.cite_csl_styles.specs.declared.stop.Stop.{Stop}
use Rattle.cite_csl_styles.proofs.Stopped.{answers_weaker, stop_weaker}
use Rattle.cite_csl.specs.Names.{pieces_of, rendered_lines}
use Rattle.cite_csl.specs.Run.{output_for, output_of}
use Rattle.cite_csl.specs.Works.{said_by}

-- citations and bibliography for sections that are spelled so
abbrev pub rendered_for : List (List ℕ) → SourceFile → Setting → Works → List Piece → Result Rendered Lines
rendered_for sections d setting works pieces = said_by (rendered_lines d works pieces) (rendered_in_order works setting sections pieces)

-- the output is made of them
made_of : (a : Asked) (sections : List (List ℕ)) (d : SourceFile) (setting : Setting) (works : Works) (pieces : List Piece) (r : Result Rendered Lines)
    → sections ≡ map chars a.sections → rendered_for sections d setting works pieces ≡ r
    → output_for a d setting works pieces ≡ (r >>= λ rendered. Ok (text (output_text a.format pieces rendered)))
made_of a sections d setting works pieces r same is =
    ap (λ (x : Result Rendered Lines). x >>= λ rendered. Ok (text (output_text a.format pieces rendered))) (ap (λ (s : List (List ℕ)). rendered_for s d setting works pieces) (sym same) ∙ is)

pub output_stops : (e : Stop) (a : Asked) (sections : List (List ℕ)) (d : SourceFile) (setting : Setting) (works : Works) (pieces : List Piece)
    → sections ≡ map chars a.sections → IsStop e (λ r. rendered_for sections d setting works pieces ≡ r) → IsStop e (λ o. output_for a d setting works pieces ≡ o)
output_stops e a sections d setting works pieces same stop =
    stop_weaker e (λ r. rendered_for sections d setting works pieces ≡ r) (λ o. output_for a d setting works pieces ≡ o)
    (λ lines is. made_of a sections d setting works pieces (Err lines) same is) stop

pub output_is : (a : Asked) (sections : List (List ℕ)) (d : SourceFile) (setting : Setting) (works : Works) (pieces : List Piece) (rendered : Rendered)
    → sections ≡ map chars a.sections → rendered_for sections d setting works pieces ≡ Ok rendered
    → output_for a d setting works pieces ≡ Ok (text (output_text a.format pieces rendered))
output_is a sections d setting works pieces rendered same is = made_of a sections d setting works pieces (Ok rendered) same is

-- the output for a document is made of its pieces
by_pieces : (a : Asked) (d : SourceFile) (setting : Setting) (works : Works) (r : Result (List Piece) Lines) → pieces_of d ≡ r
    → output_of a d setting works ≡ (r >>= λ pieces. output_for a d setting works pieces)
by_pieces a d setting works r is = ap (λ (x : Result (List Piece) Lines). x >>= λ pieces. output_for a d setting works pieces) is

pub document_stops : (e : Stop) (a : Asked) (d : SourceFile) (setting : Setting) (works : Works) → IsStop e (λ r. pieces_of d ≡ r) → IsStop e (λ o. output_of a d setting works ≡ o)
document_stops e a d setting works stop =
    stop_weaker e (λ r. pieces_of d ≡ r) (λ o. output_of a d setting works ≡ o) (λ lines is. by_pieces a d setting works (Err lines) is) stop

pub document_goes_on : {X : Type 0} (view : X → List ℕ) (r : Result X Stop) (a : Asked) (d read : SourceFile) (setting : Setting) (works : Works) (pieces : List Piece)
    → pieces_of d ≡ Ok pieces → read ≡ d → Answers view r (λ o. output_for a read setting works pieces ≡ o) → Answers view r (λ o. output_of a d setting works ≡ o)
document_goes_on view r a d read setting works pieces is same answers =
    answers_weaker view r (λ o. output_for a read setting works pieces ≡ o) (λ o. output_of a d setting works ≡ o)
    (λ o so. by_pieces a d setting works (Ok pieces) is ∙ (ap (λ (f : SourceFile). output_for a f setting works pieces) (sym same) ∙ so)) answers
