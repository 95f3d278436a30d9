-- Entries whose fields are read first, and whose names are looked at when all of them are known.
use Rattle.std.specs.Global.{Global}
use Rattle.std.specs.Prelude.{◌≡◌, ℕ, List, map, length, slice_get, Option, Some, None, option_and_then, Vec, Result, Ok, Err}
use Rattle.laws.specs.Results.{◌>>=◌}
use Rattle.biblatex_text.specs.Raw.{At}
use Rattle.biblatex_text.specs.Views.{spanned_text_view}
use Rattle.biblatex_entries.specs.Entries.{Source, sources_view}
use Rattle.biblatex_suppliers.specs.Written.{all_with, said}
use Rattle.biblatex_suppliers.specs.declared.shared.Shared.{Shared}
use Rattle.biblatex_meaning.specs.Listed.{last_named}
use Rattle.biblatex_meaning.specs.Reading.{Refusal, refused_at, duplicate_key, Loaded, UpToFault}
use Rattle.biblatex.specs.Bibliographies.{Indexed}
use Rattle.biblatex.specs.Errors.{refusal_of, loaded_with_keys}
use Rattle.biblatex.specs.Naming.{names_from, first_repeated}
use Rattle.biblatex.specs.declared.apart.ReadApart.{ReadApart}
use Rattle.biblatex.specs.declared.apart.LoadedApart.{LoadedApart}

-- entries that are read, each named by its key and its aliases
abbrev pub as_read : List Source → List (At (List ℕ)) → Loaded
as_read es keys = record { listed = record { entries = es; index = λ name. last_named name es }; keys = keys }

-- the refusal of the key at a number, or all entries
abbrev pub at_both : Option Source → Option (At (List ℕ)) → Loaded → Result Loaded Refusal
at_both None key l = Ok l
at_both (Some e) None l = Ok l
at_both (Some e) (Some key) l = Err (refused_at key (duplicate_key e.key))

abbrev pub by_number : Option ℕ → List Source → List (At (List ℕ)) → Result Loaded Refusal
by_number None es keys = Ok (as_read es keys)
by_number (Some n) es keys = at_both (slice_get es n) (slice_get keys n) (as_read es keys)

abbrev pub ends : Option Refusal → Loaded → Result Loaded Refusal
ends None l = Ok l
ends (Some r) l = Err r

-- What entries that were read up to a fault come to with their names: the first key that has a meaning already is refused; else the fault is.
abbrev pub with_names : UpToFault → Result Loaded Refusal
with_names r = by_number (first_repeated (names_from 0 r.entries) 0 r.entries) r.entries r.keys >>= ends r.fault

-- Entries say of names what they say with the fields beside them, which are listed for each.
pub record AreApart (es : List Source) (vs : List (Vec Shared Global)) : Type 0 where
  pub long : length es ≡ length vs
  pub same : map said es ≡ map said (all_with es vs)

-- a bibliography with the fields beside its entries
abbrev pub whole : Indexed → List (Vec Shared Global) → Indexed
whole b vs = record { entries = all_with b.entries vs; names = b.names }

-- what was read, with the fields beside the entries
abbrev pub apart_view : ReadApart → UpToFault
apart_view r = record { entries = all_with (sources_view r.read.entries.items) r.shared.items; keys = map spanned_text_view r.read.keys.items; fault = option_and_then refusal_of r.read.fault }

abbrev pub loaded_apart_view : LoadedApart → Loaded
loaded_apart_view l = loaded_with_keys (whole l.bibliography l.shared.items) l.keys.items
