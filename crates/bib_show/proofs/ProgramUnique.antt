-- A file is shown in one way, and written in one way without references.
use Rattle.std.proofs.Common.{◌≡◌, ℕ, List, [], Result, Ok, Err, sym, ap, ◌∙◌}
use Rattle.std.specs.Str.{chars}
use Rattle.biblatex.specs.Listed.{Listed}
use Rattle.biblatex.specs.Reading.{Refusal}
use Rattle.biblatex.proofs.ResolvedUnique.{one_meaning}
use Rattle.biblatex_writing.specs.Flat.{flat}
use Rattle.biblatex_writing.specs.Written.{written_file}
use Rattle.bib_show.specs.Shown.{shown}
use Rattle.bib_show.specs.Program.{IsFlatOf, IsShownOf}

abbrev shown_of : Result Listed Refusal → List ℕ
shown_of (Ok listed) = shown listed.entries
shown_of (Err refusal) = []

pub one_shown : (source a b : List ℕ) → IsShownOf source a → IsShownOf source b → a ≡ b
one_shown source a b h g =
    h.output_is ∙ (ap shown_of (one_meaning (chars source) (Ok h.resolved) (Ok g.resolved) h.means g.means) ∙ sym g.output_is)

abbrev flat_file_of : Result Listed Refusal → List ℕ
flat_file_of (Ok listed) = written_file (flat listed.entries)
flat_file_of (Err refusal) = []

pub one_flat : (source a b : List ℕ) → IsFlatOf source a → IsFlatOf source b → a ≡ b
one_flat source a b h g =
    h.output_is ∙ (ap flat_file_of (one_meaning (chars source) (Ok h.resolved) (Ok g.resolved) h.means g.means) ∙ sym g.output_is)
