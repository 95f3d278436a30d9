-- Reading the entries of a text, each alone. In entries names and keys are bytes; as they are written they are characters.
use Rattle.std.specs.Prelude.{ℕ, List, [], ◌∷◌, Option, Some, None, Result, Ok, Err}
use Rattle.laws.specs.Results.{◌>>=◌}
use Rattle.laws.specs.Text.{text, lowered}
use Rattle.biblatex_text.specs.Raw.{At, Entry}
use Rattle.biblatex_fields.specs.Abbreviations.{Glossary}
use Rattle.biblatex_fields.specs.Fields.{Named, fields_of}
use Rattle.biblatex_fields.specs.Refusals.{Refusal}
use Rattle.biblatex_entries.specs.TypeNames.{type_of}
use Rattle.biblatex_entries.specs.Entries.{Source}

-- an entry of these fields
abbrev pub source_of : Entry → List Named → Source
source_of e fs = record { key = text e.key.v; entry_type = type_of (lowered e.kind.v); fields = fs }

-- an entry as it is read: its fields, with its key and its type
abbrev pub entry_read : Glossary → Entry → Result Source Refusal
entry_read g e = fields_of g e.fields >>= λ fs. Ok (source_of e fs)

-- Entries whose fields are read, as their keys are not yet looked at: those before the first fault of a field, of each its written key,
-- and that fault.
pub record UpToFault : Type 0 where
  pub entries : List Source
  pub keys : List (At (List ℕ))
  pub fault : Option Refusal

-- an entry that was read goes before the others; at a fault there are none
abbrev pub one_read : At (List ℕ) → Result Source Refusal → UpToFault → UpToFault
one_read key (Ok e) rest = record { entries = e ∷ rest.entries; keys = key ∷ rest.keys; fault = rest.fault }
one_read key (Err r) rest = record { entries = []; keys = []; fault = Some r }

abbrev pub up_to_fault : Glossary → List (At Entry) → UpToFault
up_to_fault g [] = record { entries = []; keys = []; fault = None }
up_to_fault g (e ∷ es) = one_read e.v.key (entry_read g e.v) (up_to_fault g es)
