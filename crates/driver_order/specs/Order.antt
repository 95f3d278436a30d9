-- The order of cited entries in a bibliography.
use Rattle.std.specs.Prelude.{ℕ, List, map}
use Rattle.std.specs.List.{enumerate_from}
use Rattle.std.specs.Option.{option_map}
use Rattle.driver_requests.specs.declared.bibliography_request.BibliographyRequest.{BibliographyRequest}
use Rattle.rendering_context.specs.Contexts.{StyleContext}
use Rattle.rendering_entries.specs.Answers.{Answers}
use Rattle.rendering_locale.specs.CodeViews.{code_view}
use Rattle.rendering_locale.specs.Views.{locale_view}
use Rattle.rendering_style.specs.Styles.{Style}
use Rattle.driver_order.specs.EntryKeys.{bibliography_keys}
use Rattle.rendering_sorting.specs.Keys.{Part}
use Rattle.driver_order.specs.Ordered.{ordered_by}

-- a style for sorting, in the languages of a request
abbrev pub sorting_context : {T : Type 0} → Style → BibliographyRequest T → StyleContext
sorting_context s r =
    record {
      style = s;
      locale = option_map code_view r.locale;
      locale_files = map locale_view r.locale_files.now;
    }

-- the keys of an entry with its number
abbrev pub entry_keys : {T : Type 0} → StyleContext → (T → Answers) → ℕ × T → List Part
entry_keys x answers e = bibliography_keys x (answers e.1) e.0

-- entries in the order of their keys; their numbers are those of their first cites
abbrev pub entries_in_order : {T : Type 0} → StyleContext → (T → Answers) → List T → List T
entries_in_order x answers es =
    map (λ e. e.1) (ordered_by (entry_keys x answers) (enumerate_from 0 es))

-- entries with their keys
abbrev pub keyed_entries : {T : Type 0} → StyleContext → (T → Answers) → List T
    → List (List Part × T)
keyed_entries x answers es = map (λ e. (entry_keys x answers e, e.1)) (enumerate_from 0 es)
