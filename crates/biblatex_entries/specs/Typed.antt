-- What the fields of an entry are as values of types.
use Rattle.std.specs.Prelude.{◌≡◌, ℕ, List, [], ◌∷◌, map, Option, Some, None, Result, Ok, Err, codes, Vec, option_to_list}
use Rattle.std.specs.Global.{Global}
use Rattle.std.specs.Option.{option_map}
use Rattle.std.specs.Borrow.{Bor}
use Rattle.laws.specs.Text.{lowered}
use Rattle.biblatex_text.specs.declared.spanned.Spanned.{Spanned}
use Rattle.biblatex_content.specs.declared.chunk.Chunk.{Chunk}
use Rattle.biblatex_content.specs.Styled.{Member, plain as plain_text}
use Rattle.biblatex_content.specs.Views.{styled, span_start, span_end}
use Rattle.biblatex_fields.specs.Fields.{Named, text_named}
use Rattle.biblatex_dates.specs.Parts.{of_parts}
use Rattle.biblatex_dates.specs.declared.date.Date.{Date}
use Rattle.biblatex_dates.specs.declared.error.TypeErrorKind.{TypeErrorKind}
use Rattle.biblatex_lists.specs.Reading.{Named as PersonName, people_in}
use Rattle.biblatex_lists.specs.Views.{named_view}
use Rattle.biblatex_lists.specs.declared.person.Person.{Person}
use Rattle.biblatex_values.specs.Dates.{reads_date}
use Rattle.biblatex_values.specs.EditorType.{EditorName, known, editor_of, editor_name}
use Rattle.biblatex_values.specs.Permissive.{Permitted, Value, reads_permissive}
use Rattle.biblatex_values.specs.declared.editor_type.EditorType.{EditorType}
use Rattle.biblatex_field_types.specs.declared.error.FieldTypeError.{FieldTypeError}
use Rattle.biblatex_field_types.specs.declared.error.FieldTypeError.TheVariants as refusals
use Rattle.biblatex_entries.specs.declared.error.RetrievalError.{RetrievalError}
use Rattle.biblatex_entries.specs.declared.error.RetrievalError.TheVariants as errors

-- the same refusal, of a field
abbrev pub retrieval_error : FieldTypeError → RetrievalError
retrieval_error refusals.Memory = errors.Memory
retrieval_error (refusals.TypeError e) = errors.TypeError e

-- What was returned, under the view, is what the field reads as; Missing says that there is no such field, and a fault is that
-- of its text. Nothing is promised where memory ran out.
abbrev pub Retrieves : {X V : Type 0} → (X → V) → Result X RetrievalError → Option (Result V TypeErrorKind) → Type 0
Retrieves view (Ok x) read = read ≡ Some (Ok (view x))
Retrieves view (Err errors.Memory) read = Unit {0}
Retrieves view (Err errors.Missing) read = read ≡ None
Retrieves view (Err (errors.TypeError e)) read = read ≡ Some (Err e.kind)

-- the refusal that an error is: there is no such field, or the fault of its text; out of memory is none
abbrev pub refusal_of : RetrievalError → Option (Option TypeErrorKind)
refusal_of errors.Memory = None
refusal_of errors.Missing = Some None
refusal_of (errors.TypeError e) = Some (Some e.kind)

-- A fault stands from where the first chunk begins to where the last one ends.
abbrev pub IsAt : {X : Type 0} → Result X RetrievalError → List (Spanned Chunk) → Type 0
IsAt (Ok x) cs = Unit {0}
IsAt (Err errors.Memory) cs = Unit {0}
IsAt (Err errors.Missing) cs = ⊥
IsAt (Err (errors.TypeError e)) cs = (e.span.start ≡ span_start cs) × (e.span.end ≡ span_end cs)

-- what the field of that name reads as, if there is one
abbrev pub read_as : {V : Type 0} → (List Member → Result V TypeErrorKind) → List ℕ → List Named → Option (Result V TypeErrorKind)
read_as reads name fs = option_map reads (text_named name fs)

-- The chunks that were borrowed spell the value; Missing says that there is none.
abbrev pub IsLent : Result (Bor (List (Spanned Chunk))) RetrievalError → Option (List Member) → Type 0
IsLent (Ok cs) value = value ≡ Some (styled cs.now)
IsLent (Err e) value = (e ≡ errors.Missing) × (value ≡ None)

-- the characters of a value; none where there is no value
abbrev pub characters_of : Option (List Member) → List ℕ
characters_of None = []
characters_of (Some ms) = plain_text ms

-- the characters of the field of that name
abbrev pub field_characters : List ℕ → List Named → List ℕ
field_characters name fs = characters_of (text_named name fs)

-- the date of year, month and day as far as they can be read, where a missing field reads as an empty one
abbrev pub date_of_parts : List Named → Option Date
date_of_parts fs = of_parts (field_characters (codes "year") fs) (Some (field_characters (codes "month") fs)) (Some (field_characters (codes "day") fs))

-- a date, and no text instead
abbrev pub sure : Date → Result (Permitted Date) TypeErrorKind
sure d = Ok (Value d)

-- where `date` has no characters, the date of year, month and day; else what `date` reads as, a date or its text
abbrev pub date_or_parts : List ℕ → List Named → Option (Result (Permitted Date) TypeErrorKind)
date_or_parts [] fs = option_map sure (date_of_parts fs)
date_or_parts (c ∷ cs) fs = read_as (reads_permissive reads_date) (codes "date") fs

-- the date of an entry: that of `date`, unless it is missing or empty; else that of year, month and day
abbrev pub date_in_fields : List Named → Option (Result (Permitted Date) TypeErrorKind)
date_in_fields fs = date_or_parts (field_characters (codes "date") fs) fs

-- what `editortype` names, in any ASCII case; an editor where it is missing
abbrev pub type_or_editor : Option (List Member) → EditorName
type_or_editor None = known (codes "editor")
type_or_editor (Some ms) = editor_of (lowered (plain_text ms))

-- the people that a text names, with what they did
abbrev pub editors_of : EditorName → List Member → List PersonName × EditorName
editors_of did ms = (people_in ms, did)

-- the people of `editor` with what `editortype` says they did; none where there is no `editor`
abbrev pub editors_in : List Named → List (List PersonName × EditorName)
editors_in fs = option_to_list (option_map (editors_of (type_or_editor (text_named (codes "editortype") fs))) (text_named (codes "editor") fs))

-- people with what they did, as they stand in memory
abbrev pub editors_view : Vec Person Global × EditorType → List PersonName × EditorName
editors_view e = (map named_view e.0.items, editor_name e.1)
