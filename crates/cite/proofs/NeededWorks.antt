-- What a document comes to depends on those works alone that are needed.
use Rattle.std.proofs.Common.{◌≡◌, ℕ, List, [], ◌∷◌, Result, refl, sym, ap, ◌∙◌}
use Rattle.laws.specs.Results.{◌>>=◌}
use Rattle.biblatex.specs.Listed.{Listed}
use Rattle.literature_entries.specs.EntriesData.{EntryData}
use Rattle.rendering_context.specs.Contexts.{StyleContext}
use Rattle.cite_markers.specs.Document.{Piece}
use Rattle.cite_requests.specs.Cited.{library_needed, works_of}
use Rattle.cite_requests.specs.Markers.{CitedWork}
use Rattle.cite_requests.specs.Stages.{Refusal, name_stage}
use Rattle.cite_requests.specs.Steps.{all_ok}
use Rattle.cite.specs.Verdict.{driver_stage, rendered_stage}
use Rattle.cite_requests.specs.Works.{Works}
use Rattle.cite_requests.proofs.CitedWorks.{names_needed}

-- without a section the names alone decide
no_section : (some all : Works) (x : StyleContext) (ps : List Piece) → name_stage some ps ≡ name_stage all ps → rendered_stage some x [] ps ≡ rendered_stage all x [] ps
unfolding rendered_stage all_ok
no_section some all x ps same = ap (λ (r : Result (List (List CitedWork)) Refusal). r >>= λ ms. driver_stage x [] ms) same

-- The works that are needed give what all works give.
rendered_needed : (file : Listed) (x : StyleContext) (sections : List (List ℕ)) (ps : List Piece)
    → rendered_stage (record { file = file; library = library_needed file sections ps }) x sections ps ≡ rendered_stage (works_of file) x sections ps
rendered_needed file x [] ps = no_section (record { file = file; library = library_needed file [] ps }) (works_of file) x ps (names_needed file ps)
rendered_needed file x (s ∷ ss) ps = refl

pub rendered_with : (file : Listed) (library : List EntryData) (x : StyleContext) (sections : List (List ℕ)) (ps : List Piece) → library_needed file sections ps ≡ library
    → rendered_stage (record { file = file; library = library }) x sections ps ≡ rendered_stage (works_of file) x sections ps
rendered_with file library x sections ps is =
    ap (λ (ws : List EntryData). rendered_stage (record { file = file; library = ws }) x sections ps) (sym is) ∙ rendered_needed file x sections ps
