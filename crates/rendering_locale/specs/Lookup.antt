-- Which locales are asked, and what they answer.
use Rattle.std.specs.Prelude.{ℕ, Bool, true, false, ◌&&◌, List, [], ◌∷◌, ◌++◌, if◌then◌else◌, Option, Some, None}
use Rattle.std.specs.List.{find}
use Rattle.std.specs.Option.{option_map, option_map_or, option_or, option_to_list, option_eq, unwrap_or}
use Rattle.std.specs.Str.{bytes_eq}
use Rattle.rendering_taxonomy.specs.Terms.{is_term, is_form, forms_from}
use Rattle.rendering_locale.specs.Codes.{en_us, base_of, fallback}
use Rattle.rendering_locale.specs.Locales.{LocalizedTerm, Ordinals, LocalizedDate, Locale}
use Rattle.rendering_taxonomy.specs.declared.date.DateForm.{DateForm}
use Rattle.rendering_taxonomy.specs.declared.date.DateForm.TheVariants as dates
use Rattle.rendering_taxonomy.specs.declared.term.OtherTerm.TheVariants as others
use Rattle.rendering_taxonomy.specs.declared.term.Term.{Term}
use Rattle.rendering_taxonomy.specs.declared.term.Term.TheVariants as terms
use Rattle.rendering_taxonomy.specs.declared.term.TermForm.{TermForm}
use Rattle.rendering_taxonomy.specs.declared.term.TermForm.TheVariants as forms

-- the first answer that there is
abbrev pub first_answer : {X V : Type 0} → (X → Option V) → List X → Option V
first_answer ask [] = None
first_answer ask (x ∷ xs) = option_or (ask x) (first_answer ask xs)

-- the first locale of a language, or of none
abbrev pub in_language : Option (List ℕ) → List Locale → List Locale
in_language lang ls = option_to_list (find (λ l. option_eq bytes_eq l.lang lang) ls)

-- the language that is wanted: the one that is asked for, else the style's own, else English
abbrev pub language : Option (List ℕ) → Option (List ℕ) → List ℕ
language (Some code) own = code
language None (Some code) = code
language None None = en_us

-- the first locale of the language that stands for another, where there is one
abbrev pub in_fallback : List ℕ → List Locale → List Locale
in_fallback code files = option_map_or (λ other. in_language (Some other) files) (fallback code) []

-- the locales that are asked, in order: of the style's, those of the language, of its base and of none; of the files, those of the
-- language, of the one that stands for it, and of English
abbrev pub asked : List ℕ → List Locale → List Locale → List Locale
asked code own files =
    in_language (Some code) own
    ++ in_language (Some (base_of code)) own
    ++ in_language None own
    ++ in_language (Some code) files
    ++ in_fallback code files
    ++ in_language (Some en_us) files

-- the first term of that name and form in a locale
abbrev pub term_in : Term → TermForm → Locale → Option LocalizedTerm
term_in name form l = find (λ t. is_term t.name name && is_form t.form form) l.terms

-- a term in a form, or else in the next that stands for it; each form is asked of all locales
abbrev pub term_found : List Locale → Term → TermForm → Option LocalizedTerm
term_found ls name form = first_answer (λ f. first_answer (term_in name f) ls) (forms_from form)

-- its text for one or more than one; a term that lacks it is an empty text
abbrev pub text_of : Bool → LocalizedTerm → List ℕ
text_of false t = unwrap_or t.single []
text_of true t = unwrap_or t.multiple []

-- the text of a term, where there is a term
abbrev pub term : List Locale → Term → TermForm → Bool → Option (List ℕ)
term ls name form plural = option_map (text_of plural) (term_found ls name form)

-- the text of a term, empty where there is no term
abbrev pub term_text : List Locale → Term → TermForm → Bool → List ℕ
term_text ls name form plural = unwrap_or (term ls name form plural) []

-- whether two forms of dates are one
abbrev pub is_date_form : DateForm → DateForm → Bool
is_date_form dates.Text dates.Text = true
is_date_form dates.Numeric dates.Numeric = true
is_date_form f g = false

-- the first date of that form
abbrev pub date_in : DateForm → Locale → Option LocalizedDate
date_in form l = find (λ d. is_date_form d.form form) l.dates

-- the first that a locale has, in the order in which they are asked
abbrev pub date_found : List Locale → DateForm → Option LocalizedDate
date_found ls form = first_answer (date_in form) ls

-- the first ordinals; without any, numbers have no ending
abbrev pub ordinals_of : List Locale → Ordinals
ordinals_of ls = unwrap_or (first_answer (λ l. l.ordinals) ls) (record { endings = []; default = [] })

-- whether punctuation goes inside quotes, by the first locale that says so or not
abbrev pub punctuates_in_quotes : List Locale → Bool
punctuates_in_quotes ls = unwrap_or (first_answer (λ l. l.punctuation_in_quote) ls) false

-- whether of the days only the first is an ordinal number, by the first locale that says so or not
abbrev pub limits_day_ordinals : List Locale → Bool
limits_day_ordinals ls = unwrap_or (first_answer (λ l. l.limits_day_ordinals) ls) false

-- a quote
abbrev pub quote_text : List Locale → Term → List ℕ
quote_text ls name = term_text ls name forms.Long false

-- the close quotes inside which punctuation goes, in the order in which they are tried
abbrev pub close_quotes : List Locale → List (List ℕ)
close_quotes ls = if punctuates_in_quotes ls then quote_text ls (terms.Other others.CloseQuote) ∷ quote_text ls (terms.Other others.CloseInnerQuote) ∷ [] else []
