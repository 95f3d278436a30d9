use Rattle.std.proofs.Common.{ap, ◌∙◌}
use Rattle.biblatex_entries.specs.Entries.{sources_view}
use Rattle.biblatex_writing.specs.Settled.{have_distinct_keys}
use Rattle.biblatex.specs.Bibliographies.{Indexed}
use Rattle.biblatex.specs.Indices.{meaning_in, names_in}
use Rattle.biblatex.proofs.NamingApart.{apart_is_distinct}
use Rattle.biblatex.proofs.bibliography.Bibliography.has_distinct_keys.Goals as goal

pub returns : goal.returns
returns c =
    c.are_apart.ensures
    ∙ (apart_is_distinct (meaning_in (names_in c.as_slice-2.result.now)) (sources_view c.as_slice.result.now)
    ∙ ap have_distinct_keys (ap sources_view c.as_slice.ensures.value ∙ ap (λ (h : Indexed). h.entries) c.self.view_is))
