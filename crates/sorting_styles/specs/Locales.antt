-- The locales of a style as keys print by them: names that are left out leave no word.
use Rattle.std.specs.Prelude.{List, [], ◌∷◌, ◌++◌, map, None}
use Rattle.rendering_locale.specs.Locales.{Locale, LocalizedTerm}
use Rattle.rendering_taxonomy.specs.declared.term.OtherTerm.{OtherTerm}
use Rattle.rendering_taxonomy.specs.declared.term.OtherTerm.TheVariants.{AndOthers, EtAl}
use Rattle.rendering_taxonomy.specs.declared.term.Term.TheVariants.{Other}
use Rattle.rendering_taxonomy.specs.declared.term.TermForm.TheVariants.{Long}

-- a term without a text
abbrev pub silent_term : OtherTerm → LocalizedTerm
silent_term name =
    record { name = Other name; form = Long; single = None; multiple = None; gender = None }

-- the terms for names that are left out, without texts
abbrev pub silent_terms : List LocalizedTerm
silent_terms = silent_term EtAl ∷ silent_term AndOthers ∷ []

-- a locale in which these terms come first, and so count
abbrev pub silenced : Locale → Locale
silenced l = record l { terms = silent_terms ++ l.terms }

-- a locale of all languages that says nothing
abbrev pub open_locale : Locale
open_locale = record {
  lang = None;
  terms = [];
  dates = [];
  ordinals = None;
  punctuation_in_quote = None;
  limits_day_ordinals = None;
}

-- the locales of a style for sorting; one of all languages is among them, so that in each language one is asked
abbrev pub sorting_locales : List Locale → List Locale
sorting_locales ls = map silenced (ls ++ open_locale ∷ [])
