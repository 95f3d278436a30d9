-- Lists of texts, people, and values that may be chunks, as callers see them.
use Rattle.std.specs.Prelude.{ℕ, List, Result, Ok}
use Rattle.biblatex_content.specs.Styled.{Member}
use Rattle.biblatex_dates.specs.declared.error.TypeErrorKind.{TypeErrorKind}
use Rattle.biblatex_lists.specs.TextList.{texts_in}
use Rattle.biblatex_lists.specs.Reading.{Named, people_in}
use Rattle.biblatex_content.specs.Views.{styled}
use Rattle.biblatex_values.specs.Permissive.{Permitted, Value, Text}
use Rattle.biblatex_field_types.specs.declared.permissive.PermissiveType.{PermissiveType}
use Rattle.biblatex_field_types.specs.declared.permissive.PermissiveType.TheVariants as permissive

-- the value under the view, or the styled text of the chunks
abbrev pub permitted_view : {X V : Type 0} → (X → V) → PermissiveType X → Permitted V
permitted_view view (permissive.Typed x) = Value (view x)
permitted_view view (permissive.Chunks cs) = Text (styled cs.items)

-- each styled text is read, as the texts between the words `and` that are not empty
abbrev pub reads_texts : List Member → Result (List (List ℕ)) TypeErrorKind
reads_texts ms = Ok (texts_in ms)

-- each styled text is read, as the people between the words `and`
abbrev pub reads_people : List Member → Result (List Named) TypeErrorKind
reads_people ms = Ok (people_in ms)
