-- English as it is written in the United States.
use Rattle.std.specs.Prelude.{ℕ, true, List, [], ◌∷◌, ◌++◌, None, Some, codes}
use Rattle.rendering_locale.specs.Codes.{en_us}
use Rattle.rendering_locale.specs.Locales.{LocalizedTerm, Locale}
use Rattle.cite_styles.specs.Dates.{dates, ordinals}
use Rattle.rendering_taxonomy.specs.declared.locator.Locator.{Locator}
use Rattle.rendering_taxonomy.specs.declared.locator.Locator.TheVariants as locators
use Rattle.rendering_taxonomy.specs.declared.variable.Variable.{Variable}
use Rattle.rendering_taxonomy.specs.declared.variable.Variable.TheVariants as variables
use Rattle.rendering_taxonomy.specs.declared.variable.NameVariable.TheVariants as names
use Rattle.rendering_taxonomy.specs.declared.variable.NumberVariable.TheVariants as numbers
use Rattle.rendering_taxonomy.specs.declared.term.OtherTerm.{OtherTerm}
use Rattle.rendering_taxonomy.specs.declared.term.OtherTerm.TheVariants as others
use Rattle.rendering_taxonomy.specs.declared.term.Term.{Term}
use Rattle.rendering_taxonomy.specs.declared.term.Term.TheVariants as terms
use Rattle.rendering_taxonomy.specs.declared.term.TermForm.{TermForm}
use Rattle.rendering_taxonomy.specs.declared.term.TermForm.TheVariants as forms

-- a term in a form, with a text for one and a text for more than one
abbrev pub row : Term → TermForm → List ℕ → List ℕ → LocalizedTerm
row name form one more = record { name = name; form = form; single = Some one; multiple = Some more; gender = None }

-- a word that is one text for any number
abbrev pub word : OtherTerm → TermForm → List ℕ → LocalizedTerm
word w form text = row (terms.Other w) form text text

-- a month, which counts from zero
abbrev pub month : ℕ → TermForm → List ℕ → LocalizedTerm
month m form text = row (terms.Month m) form text text

-- a label of a locator
abbrev pub label : Locator → TermForm → List ℕ → List ℕ → LocalizedTerm
label l form one more = row (terms.Locator l) form one more

-- a label whose plural has an s
abbrev pub regular : Locator → List ℕ → LocalizedTerm
regular l one = label l forms.Long one (one ++ codes "s")

-- a variable
abbrev pub variable : Variable → TermForm → List ℕ → List ℕ → LocalizedTerm
variable v form one more = row (terms.Variable v) form one more

-- words that are not counted
unfoldable pub words : List LocalizedTerm
words =
    word others.And forms.Long (codes "and")
    ∷ word others.EtAl forms.Long (codes "et al.")
    ∷ word others.Ibid forms.Long (codes "ibid.")
    ∷ word others.In forms.Long (codes "in")
    ∷ word others.NoDate forms.Long (codes "no date")
    ∷ word others.Ad forms.Long (codes "AD")
    ∷ word others.Bc forms.Long (codes "BC")
    ∷ word others.OpenQuote forms.Long (codes "“")
    ∷ word others.CloseQuote forms.Long (codes "”")
    ∷ word others.OpenInnerQuote forms.Long (codes "‘")
    ∷ word others.CloseInnerQuote forms.Long (codes "’")
    ∷ word others.NoDate forms.Short (codes "n.d.")
    ∷ []

-- what is counted, and people
unfoldable pub counted : List LocalizedTerm
counted =
    variable (variables.Name names.Editor) forms.Long (codes "editor") (codes "editors")
    ∷ variable (variables.Name names.Editor) forms.Short (codes "ed.") (codes "eds.")
    ∷ variable (variables.Name names.Translator) forms.Long (codes "translator") (codes "translators")
    ∷ variable (variables.Name names.Translator) forms.Short (codes "trans.") (codes "trans.")
    ∷ label locators.Page forms.Long (codes "page") (codes "pages")
    ∷ label locators.Page forms.Short (codes "p.") (codes "pp.")
    ∷ label locators.Chapter forms.Long (codes "chapter") (codes "chapters")
    ∷ label locators.Chapter forms.Short (codes "chap.") (codes "chaps.")
    ∷ label locators.Volume forms.Long (codes "volume") (codes "volumes")
    ∷ label locators.Volume forms.Short (codes "vol.") (codes "vols.")
    ∷ variable (variables.Number numbers.Edition) forms.Long (codes "edition") (codes "editions")
    ∷ variable (variables.Number numbers.Edition) forms.Short (codes "ed.") (codes "eds.")
    ∷ label locators.Issue forms.Long (codes "issue") (codes "issues")
    ∷ label locators.Issue forms.Short (codes "no.") (codes "nos.")
    ∷ []

-- the other labels of locators; a label of the user's own has no word
unfoldable pub labels : List LocalizedTerm
labels =
    label locators.Opus forms.Long (codes "opus") (codes "opera")
    ∷ label locators.SubVerbo forms.Long (codes "sub verbo") (codes "sub verbis")
    ∷ regular locators.Book (codes "book")
    ∷ regular locators.Column (codes "column")
    ∷ regular locators.Figure (codes "figure")
    ∷ regular locators.Folio (codes "folio")
    ∷ regular locators.Line (codes "line")
    ∷ regular locators.Note (codes "note")
    ∷ regular locators.Paragraph (codes "paragraph")
    ∷ regular locators.Part (codes "part")
    ∷ regular locators.Section (codes "section")
    ∷ regular locators.Verse (codes "verse")
    ∷ regular locators.Supplement (codes "supplement")
    ∷ []

-- the months, which count from zero
unfoldable pub months : List LocalizedTerm
months =
    month 0 forms.Long (codes "January")
    ∷ month 0 forms.Short (codes "Jan.")
    ∷ month 1 forms.Long (codes "February")
    ∷ month 1 forms.Short (codes "Feb.")
    ∷ month 2 forms.Long (codes "March")
    ∷ month 2 forms.Short (codes "Mar.")
    ∷ month 3 forms.Long (codes "April")
    ∷ month 3 forms.Short (codes "Apr.")
    ∷ month 4 forms.Long (codes "May")
    ∷ month 4 forms.Short (codes "May")
    ∷ month 5 forms.Long (codes "June")
    ∷ month 5 forms.Short (codes "June")
    ∷ month 6 forms.Long (codes "July")
    ∷ month 6 forms.Short (codes "July")
    ∷ month 7 forms.Long (codes "August")
    ∷ month 7 forms.Short (codes "Aug.")
    ∷ month 8 forms.Long (codes "September")
    ∷ month 8 forms.Short (codes "Sep.")
    ∷ month 9 forms.Long (codes "October")
    ∷ month 9 forms.Short (codes "Oct.")
    ∷ month 10 forms.Long (codes "November")
    ∷ month 10 forms.Short (codes "Nov.")
    ∷ month 11 forms.Long (codes "December")
    ∷ month 11 forms.Short (codes "Dec.")
    ∷ []

-- all its terms
abbrev pub english_terms : List LocalizedTerm
english_terms = words ++ counted ++ labels ++ months

-- the locale
abbrev pub english : Locale
english = record {
  lang = Some en_us;
  terms = english_terms;
  dates = dates;
  ordinals = Some ordinals;
  punctuation_in_quote = Some true;
  limits_day_ordinals = None;
}
