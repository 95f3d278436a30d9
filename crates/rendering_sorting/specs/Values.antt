-- The values by which items are sorted where a key is a variable.
use Rattle.std.specs.Prelude.{ℕ, ◌+◌, ℤ, pos, Bool, List, [], ◌∷◌, ◌++◌, flat_map, if◌then◌else◌, Option, Some, None}
use Rattle.std.specs.Option.{option_map}
use Rattle.laws.specs.Characters.{space}
use Rattle.laws.specs.Text.{if_filled}
use Rattle.collation.specs.Keys.{collation_key}
use Rattle.literature_numbers.specs.Numerics.{Numeral, numbers_in}
use Rattle.literature_numbers.specs.Pages.{first_number}
use Rattle.literature_values.specs.PersonViews.{Named}
use Rattle.literature_values.specs.TypedViews.{Value as Typed, Text}
use Rattle.literature_values.specs.declared.date.Date.{Date}
use Rattle.literature_values.specs.declared.date.DateEnd.{DateEnd}
use Rattle.literature_values.specs.declared.date.DateEnd.TheVariants as ends
use Rattle.rendering_context.specs.Answering.{Answer, no_answer, pieces, address, count, ranges, own, answer_to, date_answer}
use Rattle.rendering_context.specs.Contexts.{Context}
use Rattle.rendering_entries.specs.Library.{characters_of}
use Rattle.rendering_taxonomy.specs.declared.date.LongShortForm.TheVariants as lengths
use Rattle.rendering_taxonomy.specs.declared.variable.Variable.{Variable}
use Rattle.rendering_taxonomy.specs.declared.variable.Variable.TheVariants as variables
use Rattle.rendering_sorting.specs.Keys.{Value, numbers, text}

-- a text by its collation key, where there is something in it
abbrev pub of_text : List ℕ → Option Value
of_text cs = option_map text (if_filled (collation_key cs))

-- a numeral by its numbers
abbrev pub of_numeral : Numeral → Value
of_numeral n = numbers (numbers_in n.value)

-- an answer: a text, a number, or the first of pages; what the caller prints by itself is no value
abbrev pub of_answer : Answer → Option Value
of_answer no_answer = None
of_answer (pieces cs) = of_text (characters_of cs)
of_answer (address cs url) = of_text cs
of_answer (count (Typed n)) = Some (of_numeral n)
of_answer (count (Text cs)) = of_text cs
of_answer (ranges (Typed ps)) = option_map of_numeral (first_number ps)
of_answer (ranges (Text cs)) = of_text cs
of_answer own = None

-- a month or a day counts from one; zero where there is none
abbrev pub part_or_zero : Option ℕ → ℤ
part_or_zero None = pos 0
part_or_zero (Some n) = pos (n + 1)

-- year, month and day
abbrev pub day_numbers : ℤ → Option ℕ → Option ℕ → List ℤ
day_numbers year month day = year ∷ part_or_zero month ∷ part_or_zero day ∷ []

-- the end of a range of dates
abbrev pub end_numbers : Option DateEnd → List ℤ
end_numbers None = []
end_numbers (Some ends.Open) = []
end_numbers (Some (ends.On year month day)) = day_numbers year month day

-- a date by year, month and day, then by its end
abbrev pub of_date : Date → Value
of_date d = numbers (day_numbers d.year d.month d.day ++ end_numbers d.end)

-- a part of a name, behind a space
abbrev pub name_part : Option (List ℕ) → List ℕ
name_part None = []
name_part (Some cs) = space ∷ cs

-- a particle that stays before its name, and a space
abbrev pub particle : Option (List ℕ) → List ℕ
particle None = []
particle (Some cs) = cs ++ space ∷ []

-- the particle of a name before it, or nothing where particles go behind
abbrev pub particle_before : Bool → Named → List ℕ
particle_before goes_behind p = if goes_behind then [] else particle p.prefix

-- the particle behind the family name, where particles go there
abbrev pub particle_behind : Bool → Named → List ℕ
particle_behind goes_behind p = if goes_behind then name_part p.prefix else []

-- the name of a person, the family name first, and a space
abbrev pub inverted : Bool → Named → List ℕ
inverted goes_behind p =
    particle_before goes_behind p ++ p.name ++ particle_behind goes_behind p
    ++ name_part p.given_name ++ name_part p.suffix ++ space ∷ []

-- people by their names, one after the other
abbrev pub of_people : Bool → List Named → Option Value
of_people goes_behind ps = of_text (flat_map (inverted goes_behind) ps)

-- the value that the answer to a variable is sorted by, where particles of names go behind or stay
abbrev pub value_of_variable : Context → Bool → Variable → Option Value
value_of_variable c goes_behind (variables.Name v) = of_people goes_behind (c.answers.people v)
value_of_variable c goes_behind (variables.Date v) = option_map of_date (date_answer c [] v)
value_of_variable c goes_behind v = of_answer (answer_to c [] lengths.Long v)
