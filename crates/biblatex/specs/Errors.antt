-- Refusals and results as they lie in memory, and the message for refusals.
use Rattle.std.specs.Prelude.{ℕ, List, map}
use Rattle.std.specs.Borrow.{Bor}
use Rattle.biblatex_text.specs.Views.{spanned_text_view}
use Rattle.biblatex_text.specs.declared.spanned.Spanned.{Spanned}
use Rattle.biblatex.specs.Bibliographies.{Indexed, listed_view}
use Rattle.biblatex_meaning.specs.Reading.{Loaded}
use Rattle.biblatex.specs.declared.reading.Loaded.{Loaded as Loads}
pub use Rattle.biblatex_reading.specs.Views.{read_view}
pub use Rattle.biblatex_fields.specs.Errors.{reason_view, refusal_of, fault_text, reason_text, error_text}

-- entries in memory, with their written keys
abbrev pub loaded_with_keys : Indexed → List (Spanned (Bor (List ℕ))) → Loaded
loaded_with_keys b keys = record { listed = listed_view b; keys = map spanned_text_view keys }

abbrev pub loaded_view : Loads → Loaded
loaded_view l = loaded_with_keys l.bibliography l.keys.items
