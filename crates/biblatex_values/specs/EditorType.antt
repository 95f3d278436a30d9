-- Editor types by their names. Names are bytes.
use Rattle.std.specs.Prelude.{◌≡◌, ℕ, Bool, true, false, List, [], ◌∷◌, Result, Ok, codes, string_bytes}
use Rattle.std.specs.List.{list_any}
use Rattle.std.specs.Str.{chars, bytes_eq}
use Rattle.laws.specs.Text.{lowered}
use Rattle.biblatex_content.specs.declared.chunk.Kind.TheVariants.{Normal}
use Rattle.biblatex_content.specs.Styled.{Member, letters, plain}
use Rattle.biblatex_dates.specs.declared.error.TypeErrorKind.{TypeErrorKind}
use Rattle.biblatex_values.specs.declared.editor_type.EditorType.{EditorType}
use Rattle.biblatex_values.specs.declared.editor_type.EditorType.TheVariants as types

-- an editor type's name, and whether it is one of the known ones
pub record EditorName : Type 0 where
  pub name : List ℕ
  pub is_known : Bool

-- the editor types that have a variant of their own
abbrev pub known_names : List (List ℕ)
known_names =
    codes "editor" ∷ codes "compiler" ∷ codes "founder" ∷ codes "continuator" ∷ codes "redactor" ∷ codes "reviser" ∷
    codes "collaborator" ∷ codes "organizer" ∷ codes "director" ∷ []

-- the editor type of a name in lower case
abbrev pub editor_of : List ℕ → EditorName
editor_of name = record { name = name; is_known = list_any (bytes_eq name) known_names }

abbrev pub known : List ℕ → EditorName
known name = record { name = name; is_known = true }

-- the name of an editor type
abbrev pub editor_name : EditorType → EditorName
editor_name types.Editor = known (codes "editor")
editor_name types.Compiler = known (codes "compiler")
editor_name types.Founder = known (codes "founder")
editor_name types.Continuator = known (codes "continuator")
editor_name types.Redactor = known (codes "redactor")
editor_name types.Reviser = known (codes "reviser")
editor_name types.Collaborator = known (codes "collaborator")
editor_name types.Organizer = known (codes "organizer")
editor_name types.Director = known (codes "director")
editor_name (types.Unknown name) = record { name = string_bytes name; is_known = false }

-- every text is the name of an editor type, in any ASCII case
abbrev pub reads_editor : List Member → Result EditorName TypeErrorKind
reads_editor ms = Ok (editor_of (lowered (plain ms)))

abbrev pub writes_editor : EditorName → List Member
writes_editor e = letters Normal (chars e.name)

-- A text in lower ASCII case, and known exactly where it is one of the known names.
pub record IsEditorName (e : EditorName) : Type 0 where
  pub lower : lowered (chars e.name) ≡ e.name
  pub known : list_any (bytes_eq e.name) known_names ≡ e.is_known
