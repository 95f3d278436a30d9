-- What is asked of a bibliography.
use Rattle.std.proofs.Common.{◌≡◌, List, map, ap, ◌∙◌, Option}
use Rattle.std.specs.Option.{option_map}
use Rattle.literature_entries.specs.declared.entry.Entry.{Entry}
use Rattle.rendering_context.specs.Contexts.{StyleContext}
use Rattle.rendering_locale.specs.CodeViews.{code_view}
use Rattle.rendering_locale.specs.Views.{locale_view}
use Rattle.rendering_style.specs.StyleViews.{style_view}
use Rattle.driver_requests.specs.declared.bibliography_request.BibliographyRequest.{BibliographyRequest}
use Rattle.driver_rounds.specs.Views.{bibliography_context_of}

-- a request with an order is in the same style and the same languages
pub ordered_context : (r s : BibliographyRequest Entry) (x : StyleContext) → style_view s.style.now ≡ style_view r.style.now → s.locale ≡ r.locale → s.locale_files.now ≡ r.locale_files.now
    → bibliography_context_of r ≡ x → bibliography_context_of s ≡ x
ordered_context r s x style locale files is =
    (λ i. record { style = style i; locale = option_map code_view (locale i); locale_files = map locale_view (files i) }) ∙ is
