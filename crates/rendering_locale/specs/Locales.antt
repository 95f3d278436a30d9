-- Locales: the words, dates and endings of a language.
use Rattle.std.specs.Prelude.{ℕ, Bool, List, Option}
use Rattle.rendering_taxonomy.specs.Formats.{Changes}
use Rattle.rendering_taxonomy.specs.declared.date.DateForm.{DateForm}
use Rattle.rendering_taxonomy.specs.declared.date.DatePartForm.{DatePartForm}
use Rattle.rendering_taxonomy.specs.declared.term.Gender.{Gender}
use Rattle.rendering_taxonomy.specs.declared.term.OrdinalMatch.{OrdinalMatch}
use Rattle.rendering_taxonomy.specs.declared.term.Term.{Term}
use Rattle.rendering_taxonomy.specs.declared.term.TermForm.{TermForm}
use Rattle.rendering_taxonomy.specs.declared.text_case.TextCase.{TextCase}

-- a term in a form, with its texts for one and for more than one, and its gender
pub record LocalizedTerm : Type 0 where
  pub name : Term
  pub form : TermForm
  pub single : Option (List ℕ)
  pub multiple : Option (List ℕ)
  pub gender : Option Gender

-- an ending of ordinal numbers under its number, with the gender and the numbers that it is of alone
pub record OrdinalEnding : Type 0 where
  pub number : ℕ
  pub ending : List ℕ
  pub gender : Option Gender
  pub only : Option OrdinalMatch

-- the endings of ordinal numbers, and the one of all others
pub record Ordinals : Type 0 where
  pub endings : List OrdinalEnding
  pub default : List ℕ

-- a part of a date: which and how it is printed, its look, its affixes, whether its full stops go, the case of its letters, and what stands
-- between the sides of a range that differ in it
pub record DatePart : Type 0 where
  pub form : DatePartForm
  pub strips_periods : Bool
  pub text_case : Option TextCase
  pub formatting : Changes
  pub prefix : List ℕ
  pub suffix : List ℕ
  pub range_delimiter : Option (List ℕ)

-- a form of a language's dates: the parts in order, and what stands between them
pub record LocalizedDate : Type 0 where
  pub form : DateForm
  pub parts : List DatePart
  pub delimiter : List ℕ

-- A locale, of a language or of all. Its ordinals, whether punctuation goes inside quotes and whether of the days only the first is an ordinal
-- number may be left open.
pub record Locale : Type 0 where
  pub lang : Option (List ℕ)
  pub terms : List LocalizedTerm
  pub dates : List LocalizedDate
  pub ordinals : Option Ordinals
  pub punctuation_in_quote : Option Bool
  pub limits_day_ordinals : Option Bool
