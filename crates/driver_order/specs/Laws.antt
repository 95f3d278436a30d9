-- Laws of what is sorted by keys.
use Rattle.std.specs.Prelude.{◌≡◌, Bool, List, []}
use Rattle.rendering_context.specs.Contexts.{StyleContext}
use Rattle.rendering_entries.specs.Answers.{Answers}
use Rattle.rendering_style.specs.Styles.{Style}
use Rattle.driver_order.specs.Order.{entries_in_order}
use Rattle.driver_order.specs.Sorted.{RequestParts, requests_in_order}

-- where the citation has no keys, requests stay as they are
abbrev pub RequestsStay : {T : Type 0} → Type 0 → (T → T → Bool) → (T → Answers) → Type 0
RequestsStay {T} P same answers =
    (s : Style) (first : List T) (rs : List (RequestParts T P))
    → s.citation_sort ≡ []
    → requests_in_order same answers s first rs ≡ rs

-- where the bibliography has no keys, entries stay in their order
abbrev pub EntriesStay : {T : Type 0} → (T → Answers) → Type 0
EntriesStay {T} answers =
    (x : StyleContext) (es : List T)
    → x.style.bibliography_sort ≡ []
    → entries_in_order x answers es ≡ es
