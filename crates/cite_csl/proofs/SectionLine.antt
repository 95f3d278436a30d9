-- The line for a section that is no selector.
use Rattle.std.proofs.Common.{◌≡◌, ℕ, List, [], Result, Ok, Err, String, refl, sym, subst, ◌∙◌}
use Rattle.std.specs.Global.{Global}
use Rattle.biblatex.specs.Listed.{nothing}
use Rattle.literature.specs.Trees.{Tree}
use Rattle.cite_markers.specs.Document.{Piece}
use Rattle.cite_requests.specs.Answers.{IsRefusal}
use Rattle.cite_requests.specs.Refusals.{error_text, refusal_text}
use Rattle.cite_requests.specs.Sections.{SectionFault, selectors_of}
use Rattle.cite_requests.specs.Stages.{Refusal, refused_as, section_refused, section_stage}
use Rattle.cite_requests.specs.Works.{Works}
use Rattle.cite_requests.specs.declared.error.CiteError.{CiteError}
use Rattle.cite_requests.specs.declared.error.CiteError.TheVariants as errors
use Rattle.cite_csl_styles.specs.Sources.{SourceFile, line}
use Rattle.cite_csl.proofs.RefusedLines.{other_lines}
use Rattle.cite_csl.specs.Names.{rendered_lines}
use Rattle.cite_csl.specs.Run.{sections_in}
use Rattle.cite_csl.specs.Works.{said_by}

-- the same is said of sections wherever they stand
said_alike : (d : SourceFile) (works : Works) (pieces : List Piece) (r : Result (List Tree) SectionFault)
    → said_by (rendered_lines d works pieces) (refused_as section_refused r) ≡ said_by (λ (f : Refusal). line (refusal_text f)) (refused_as section_refused r)
said_alike d works pieces (Ok x) = refl
said_alike d works pieces (Err fault) = refl

-- a section is no name
no_name : (name : String Global) (r : Result (List Tree) SectionFault) → IsRefusal (errors.Name name) (λ a. refused_as section_refused r ≡ a) → ⊥
no_name name (Ok x) is = absurd cc
no_name name (Err fault) is = absurd cc

pub section_said : (sections : List (List ℕ)) (e : CiteError) → (e ≡ errors.Memory → ⊥) → IsRefusal e (λ a. section_stage sections ≡ a) → sections_in sections ≡ Err (line (error_text e))
section_said sections e memory is =
    let r = selectors_of sections in
    let d : SourceFile = record { path = []; bytes = [] } in
    let works : Works = record { file = nothing; library = [] } in
    sym (said_alike d works [] r)
    ∙ other_lines d works [] (section_stage sections) e (λ name named. no_name name r (subst (λ (x : CiteError). IsRefusal x (λ a. section_stage sections ≡ a)) named is)) memory is
