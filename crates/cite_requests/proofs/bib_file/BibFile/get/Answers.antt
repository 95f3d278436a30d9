use Rattle.std.proofs.Common.{ℕ, Option, slice_get, ap, ◌∙◌}
use Rattle.std.specs.Prelude.{option_and_then}
use Rattle.biblatex.specs.Bibliographies.{listed_view}
use Rattle.interop.specs.Views.{library_view}
use Rattle.cite_requests.specs.Works.{work_of}
use Rattle.cite_requests.proofs.bib_file.BibFile.get.Goals as goal

pub returns-in-Some : goal.returns-in-Some
returns-in-Some c =
    c.work_at.ensures
    ∙ ap (λ (o : Option ℕ). option_and_then (work_of (library_view c.args.library.now)) (option_and_then (slice_get (listed_view c.args.self.now.file).entries) o)) c.in-Some.ensures.value

pub returns-in-None : goal.returns-in-None
returns-in-None c =
    ap (λ (o : Option ℕ). option_and_then (work_of (library_view c.args.library.now)) (option_and_then (slice_get (listed_view c.args.self.now.file).entries) o)) c.in-None.ensures.value
