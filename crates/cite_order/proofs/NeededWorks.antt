-- What a document comes to in order depends on those works alone that are needed.
use Rattle.std.proofs.Common.{◌≡◌, ℕ, List, [], ◌∷◌, Result, refl, sym, ap, ◌∙◌}
use Rattle.laws.specs.Results.{◌>>=◌}
use Rattle.biblatex.specs.Listed.{Listed}
use Rattle.literature_entries.specs.EntriesData.{EntryData}
use Rattle.cite_markers.specs.Document.{Piece}
use Rattle.cite_requests.specs.Cited.{library_needed, works_of}
use Rattle.cite_requests.specs.Markers.{CitedWork}
use Rattle.cite_requests.specs.Stages.{Refusal, name_stage}
use Rattle.cite_requests.specs.Steps.{all_ok}
use Rattle.cite_requests.specs.Works.{Works}
use Rattle.cite_requests.proofs.CitedWorks.{names_needed}
use Rattle.cite_order.specs.Order.{Setting, stage_in_order, rendered_in_order}

-- without a section the names alone decide
no_section : (some all : Works) (s : Setting) (ps : List Piece) → name_stage some ps ≡ name_stage all ps → rendered_in_order some s [] ps ≡ rendered_in_order all s [] ps
unfolding rendered_in_order all_ok
no_section some all s ps same = ap (λ (r : Result (List (List CitedWork)) Refusal). r >>= λ ms. stage_in_order s [] [] ms) same

-- the works that are needed give what all works give
needed : (file : Listed) (s : Setting) (sections : List (List ℕ)) (ps : List Piece)
    → rendered_in_order (record { file = file; library = library_needed file sections ps }) s sections ps ≡ rendered_in_order (works_of file) s sections ps
needed file s [] ps = no_section (record { file = file; library = library_needed file [] ps }) (works_of file) s ps (names_needed file ps)
needed file s (t ∷ ts) ps = refl

pub ordered_with : (file : Listed) (library : List EntryData) (s : Setting) (sections : List (List ℕ)) (ps : List Piece) → library_needed file sections ps ≡ library
    → rendered_in_order (record { file = file; library = library }) s sections ps ≡ rendered_in_order (works_of file) s sections ps
ordered_with file library s sections ps is =
    ap (λ (ws : List EntryData). rendered_in_order (record { file = file; library = ws }) s sections ps) (sym is) ∙ needed file s sections ps
