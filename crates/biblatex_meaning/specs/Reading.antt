-- Reading the entries of a text, before their references are resolved. In entries names and keys are bytes; as they are written they are
-- characters.
use Rattle.std.specs.Prelude.{ℕ, Bool, true, false, List, [], ◌∷◌, ◌++◌, Result, Ok, Err, is_some}
use Rattle.laws.specs.Results.{◌>>=◌}
use Rattle.laws.specs.Text.{text}
use Rattle.biblatex_text.specs.Raw.{At, Entry}
use Rattle.biblatex_fields.specs.Abbreviations.{Glossary}
use Rattle.biblatex_fields.specs.Fields.{fields_of}
use Rattle.biblatex_entries.specs.Entries.{Source}
use Rattle.biblatex_meaning.specs.Listed.{Listed, nothing, pushed}
pub use Rattle.biblatex_reading.specs.Reading.{source_of, entry_read, UpToFault, one_read, up_to_fault}
pub use Rattle.biblatex_fields.specs.Refusals.{Reason, raw, unknown_abbreviation, abbreviation_cycle, malformed_command, duplicate_key, reference_cycle, unreadable_date, Refusal, refused_at}

-- what was read: the entries with what names mean, and of each entry its written key
pub record Loaded : Type 0 where
  pub listed : Listed
  pub keys : List (At (List ℕ))

abbrev pub nothing_loaded : Loaded
nothing_loaded = record { listed = nothing; keys = [] }

-- an entry goes last, unless its key has a meaning already
abbrev pub unless_known : Bool → Loaded → At (List ℕ) → Source → Result Loaded Refusal
unless_known true l key e = Err (refused_at key (duplicate_key e.key))
unless_known false l key e = Ok (record { listed = pushed e l.listed; keys = l.keys ++ key ∷ [] })

-- one more entry: its fields are read, then its key is looked at
abbrev pub entry_after : Glossary → Loaded → Entry → Result Loaded Refusal
entry_after g l e = fields_of g e.fields >>= λ fs. unless_known (is_some (l.listed.index (text e.key.v))) l e.key (source_of e fs)

-- entries in the order of the text, after those that were read
abbrev pub entries_after : Glossary → Loaded → List (At Entry) → Result Loaded Refusal
entries_after g l [] = Ok l
entries_after g l (e ∷ es) = entry_after g l e.v >>= λ more. entries_after g more es

-- all entries of a text, where each name of an abbreviation means what the glossary says
abbrev pub loaded : Glossary → List (At Entry) → Result Loaded Refusal
loaded g es = entries_after g nothing_loaded es
