-- What an element stands for.
use Rattle.std.specs.Prelude.{ℕ, Bool, true, false, ◌==◌, ◌&&◌, List}
use Rattle.std.specs.Option.{option_eq}
use Rattle.std.specs.Str.{bytes_eq}
use Rattle.std.specs.Cmp.Lexicographic.{pointwise}
use Rattle.literature_values.specs.PersonViews.{Named}
use Rattle.rendering_taxonomy.specs.Variables.{is_name_variable}
use Rattle.rendering_taxonomy.specs.declared.variable.NameVariable.{NameVariable}

-- people, and the variable that they answer
abbrev pub Answered : Type 0
Answered = List Named × NameVariable

-- What an element stands for: a names node with all people of its variables, one of these variables, a person by the index
-- among its people, a cite by its index in the request, a date, a text, a number, a label, or the value of one of the two
-- variables that identify entries.
pub data Meta : Type 0 where
  Names : List Answered → Meta
  NameVariableOf : NameVariable → Meta
  Name : NameVariable → ℕ → Meta
  Entry : ℕ → Meta
  Date : Meta
  Text : Meta
  Number : Meta
  Label : Meta
  CitationNumber : Meta
  CitationLabel : Meta

-- whether two people have one name, in all its parts
abbrev pub is_person : Named → Named → Bool
is_person p q =
    bytes_eq p.name q.name
    && option_eq bytes_eq p.given_name q.given_name
    && option_eq bytes_eq p.prefix q.prefix
    && option_eq bytes_eq p.suffix q.suffix

-- whether the same people answer the same variable
abbrev pub is_answered : Answered → Answered → Bool
is_answered a b = pointwise is_person a.0 b.0 && is_name_variable a.1 b.1

-- whether two elements stand for the same
abbrev pub is_meta : Meta → Meta → Bool
is_meta (Names a) (Names b) = pointwise is_answered a b
is_meta (NameVariableOf v) (NameVariableOf w) = is_name_variable v w
is_meta (Name v m) (Name w n) = is_name_variable v w && m == n
is_meta (Entry m) (Entry n) = m == n
is_meta Date Date = true
is_meta Text Text = true
is_meta Number Number = true
is_meta Label Label = true
is_meta CitationNumber CitationNumber = true
is_meta CitationLabel CitationLabel = true
is_meta m n = false

-- whether an element stands for a names node
abbrev pub is_names : Meta → Bool
is_names (Names a) = true
is_names m = false
