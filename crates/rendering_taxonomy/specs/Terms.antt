-- Which terms are the same. A term is known by its word: the label `page` of a locator and the variable `page` have one term, and so have
-- the kind `book` and the label `book`.
use Rattle.std.specs.Prelude.{ℕ, ◌+◌, Bool, ◌==◌, List, [], ◌∷◌}
use Rattle.rendering_taxonomy.specs.Variables.{variable_index}
use Rattle.rendering_taxonomy.specs.Kinds.{locator_index, kind_index}
use Rattle.rendering_taxonomy.specs.declared.kind.Kind.TheVariants as kinds
use Rattle.rendering_taxonomy.specs.declared.locator.Locator.TheVariants as locators
use Rattle.rendering_taxonomy.specs.declared.variable.Variable.TheVariants as variables
use Rattle.rendering_taxonomy.specs.declared.variable.NumberVariable.TheVariants as number
use Rattle.rendering_taxonomy.specs.declared.variable.StandardVariable.TheVariants as standard
use Rattle.rendering_taxonomy.specs.declared.term.OtherTerm.{OtherTerm}
use Rattle.rendering_taxonomy.specs.declared.term.OtherTerm.TheVariants as others
use Rattle.rendering_taxonomy.specs.declared.term.Term.{Term}
use Rattle.rendering_taxonomy.specs.declared.term.Term.TheVariants as terms
use Rattle.rendering_taxonomy.specs.declared.term.TermForm.{TermForm}
use Rattle.rendering_taxonomy.specs.declared.term.TermForm.TheVariants as forms

-- the indices of the other words in their list
abbrev pub other_index : OtherTerm → ℕ
other_index others.Ad = 0
other_index others.AdvanceOnlinePublication = 1
other_index others.Album = 2
other_index others.And = 3
other_index others.AndOthers = 4
other_index others.Anonymous = 5
other_index others.At = 6
other_index others.AudioRecording = 7
other_index others.AvailableAt = 8
other_index others.Bc = 9
other_index others.Bce = 10
other_index others.By = 11
other_index others.Ce = 12
other_index others.Circa = 13
other_index others.Cited = 14
other_index others.CloseInnerQuote = 15
other_index others.CloseQuote = 16
other_index others.Colon = 17
other_index others.Comma = 18
other_index others.EditorTranslator = 19
other_index others.EtAl = 20
other_index others.Film = 21
other_index others.Forthcoming = 22
other_index others.From = 23
other_index others.Henceforth = 24
other_index others.Ibid = 25
other_index others.In = 26
other_index others.InPress = 27
other_index others.Internet = 28
other_index others.Letter = 29
other_index others.LocCit = 30
other_index others.NoDate = 31
other_index others.NoPlace = 32
other_index others.NoPublisher = 33
other_index others.On = 34
other_index others.Online = 35
other_index others.OpCit = 36
other_index others.OpenInnerQuote = 37
other_index others.OpenQuote = 38
other_index others.OriginalWorkPublished = 39
other_index others.PageRangeDelimiter = 40
other_index others.PersonalCommunication = 41
other_index others.Podcast = 42
other_index others.PodcastEpisode = 43
other_index others.Preprint = 44
other_index others.PresentedAt = 45
other_index others.RadioBroadcast = 46
other_index others.RadioSeries = 47
other_index others.RadioSeriesEpisode = 48
other_index others.Reference = 49
other_index others.Retrieved = 50
other_index others.Semicolon = 51
other_index others.SpecialIssue = 52
other_index others.SpecialSection = 53
other_index others.TelevisionBroadcast = 54
other_index others.TelevisionSeries = 55
other_index others.TelevisionSeriesEpisode = 56
other_index others.Video = 57
other_index others.WorkingPaper = 58

-- of the terms that have one word the one that stands for all of them: a variable, or else a label
abbrev pub canonical : Term → Term
canonical (terms.Locator locators.Issue) = terms.Variable (variables.Number number.Issue)
canonical (terms.Locator locators.Note) = terms.Variable (variables.Standard standard.Note)
canonical (terms.Locator locators.Page) = terms.Variable variables.Page
canonical (terms.Locator locators.Section) = terms.Variable (variables.Number number.Section)
canonical (terms.Locator locators.Version) = terms.Variable (variables.Number number.Version)
canonical (terms.Locator locators.Volume) = terms.Variable (variables.Number number.Volume)
canonical (terms.Kind kinds.Book) = terms.Locator locators.Book
canonical (terms.Kind kinds.Chapter) = terms.Locator locators.Chapter
canonical (terms.Kind kinds.Event) = terms.Variable (variables.Standard standard.Event)
canonical (terms.Kind kinds.Figure) = terms.Locator locators.Figure
canonical t = t

-- the indices of terms among all of them
abbrev pub term_index : Term → ℕ
term_index (terms.Variable v) = variable_index v
term_index (terms.Locator l) = 200 + locator_index l
term_index (terms.Kind k) = 300 + kind_index k
term_index (terms.Other t) = 400 + other_index t
term_index (terms.Month m) = 500 + m
term_index (terms.Season s) = 800 + s
term_index (terms.Word n) = 2000 + n

-- whether two terms are one
abbrev pub is_term : Term → Term → Bool
is_term t u = term_index (canonical t) == term_index (canonical u)

-- the indices of forms in their list
abbrev pub form_index : TermForm → ℕ
form_index forms.Long = 0
form_index forms.Short = 1
form_index forms.Verb = 2
form_index forms.VerbShort = 3
form_index forms.Symbol = 4

-- whether two forms are one
abbrev pub is_form : TermForm → TermForm → Bool
is_form f g = form_index f == form_index g

-- the forms in which a term is looked up, one after the other
abbrev pub forms_from : TermForm → List TermForm
forms_from forms.Long = forms.Long ∷ []
forms_from forms.Short = forms.Short ∷ forms.Long ∷ []
forms_from forms.Verb = forms.Verb ∷ forms.Long ∷ []
forms_from forms.VerbShort = forms.VerbShort ∷ forms.Verb ∷ forms.Long ∷ []
forms_from forms.Symbol = forms.Symbol ∷ forms.Short ∷ forms.Long ∷ []
