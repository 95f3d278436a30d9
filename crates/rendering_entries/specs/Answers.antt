-- What an entry answers. All that rendering knows of an entry stands here.
use Rattle.std.specs.Prelude.{ℕ, Bool, List, Option}
use Rattle.literature_numbers.specs.Numerics.{Numeral}
use Rattle.literature_numbers.specs.Pages.{Part}
use Rattle.literature_values.specs.PersonViews.{Named}
use Rattle.literature_values.specs.TextViews.{Chunk}
use Rattle.literature_values.specs.TypedViews.{ValueOrText}
use Rattle.literature_values.specs.declared.date.Date.{Date}
use Rattle.rendering_taxonomy.specs.declared.date.LongShortForm.{LongShortForm}
use Rattle.rendering_taxonomy.specs.declared.kind.Kind.{Kind}
use Rattle.rendering_taxonomy.specs.declared.variable.StandardVariable.{StandardVariable}
use Rattle.rendering_taxonomy.specs.declared.variable.NumberVariable.{NumberVariable}
use Rattle.rendering_taxonomy.specs.declared.variable.NameVariable.{NameVariable}
use Rattle.rendering_taxonomy.specs.declared.variable.DateVariable.{DateVariable}
use Rattle.rendering_taxonomy.specs.declared.variable.Variable.{Variable}

-- What an entry answers to variables, in a form where there are forms, the texts of numbers and of pages as they were written, where
-- they are known, whether it is of a kind, whether it is in English, and the bytes of its key.
pub record Answers : Type 0 where
  pub number : NumberVariable → Option (ValueOrText Numeral)
  pub pages : Option (ValueOrText (List Part))
  pub written : Variable → Option (List ℕ)
  pub standard : LongShortForm → StandardVariable → Option (List Chunk)
  pub people : NameVariable → List Named
  pub date : DateVariable → Option Date
  pub kind : Kind → Bool
  pub english : Option Bool
  pub key : List ℕ
