-- Which variables are the same: those of one kind of answer with one index.
use Rattle.std.specs.Prelude.{ℕ, ◌+◌, Bool, true, false, ◌==◌, List}
use Rattle.std.specs.List.{list_any}
use Rattle.rendering_taxonomy.specs.declared.variable.StandardVariable.{StandardVariable}
use Rattle.rendering_taxonomy.specs.declared.variable.StandardVariable.TheVariants as standard
use Rattle.rendering_taxonomy.specs.declared.variable.NumberVariable.{NumberVariable}
use Rattle.rendering_taxonomy.specs.declared.variable.NumberVariable.TheVariants as number
use Rattle.rendering_taxonomy.specs.declared.variable.NameVariable.{NameVariable}
use Rattle.rendering_taxonomy.specs.declared.variable.NameVariable.TheVariants as name
use Rattle.rendering_taxonomy.specs.declared.variable.DateVariable.{DateVariable}
use Rattle.rendering_taxonomy.specs.declared.variable.DateVariable.TheVariants as date
use Rattle.rendering_taxonomy.specs.declared.variable.Variable.{Variable}
use Rattle.rendering_taxonomy.specs.declared.variable.Variable.TheVariants as variables

-- the indices of the variables that are texts, in their list
abbrev pub standard_index : StandardVariable → ℕ
standard_index standard.Abstract = 0
standard_index standard.Annote = 1
standard_index standard.Archive = 2
standard_index standard.ArchiveCollection = 3
standard_index standard.ArchiveLocation = 4
standard_index standard.ArchivePlace = 5
standard_index standard.Authority = 6
standard_index standard.CallNumber = 7
standard_index standard.CitationKey = 8
standard_index standard.CitationLabel = 9
standard_index standard.CollectionTitle = 10
standard_index standard.ContainerTitle = 11
standard_index standard.ContainerTitleShort = 12
standard_index standard.Dimensions = 13
standard_index standard.Division = 14
standard_index standard.Doi = 15
standard_index standard.Event = 16
standard_index standard.EventPlace = 17
standard_index standard.EventTitle = 18
standard_index standard.Genre = 19
standard_index standard.Isbn = 20
standard_index standard.Issn = 21
standard_index standard.Jurisdiction = 22
standard_index standard.Keyword = 23
standard_index standard.Language = 24
standard_index standard.License = 25
standard_index standard.Medium = 26
standard_index standard.Note = 27
standard_index standard.OriginalPublisher = 28
standard_index standard.OriginalPublisherPlace = 29
standard_index standard.OriginalTitle = 30
standard_index standard.PartTitle = 31
standard_index standard.Pmcid = 32
standard_index standard.Pmid = 33
standard_index standard.Publisher = 34
standard_index standard.PublisherPlace = 35
standard_index standard.References = 36
standard_index standard.ReviewedGenre = 37
standard_index standard.ReviewedTitle = 38
standard_index standard.Scale = 39
standard_index standard.Source = 40
standard_index standard.Status = 41
standard_index standard.Title = 42
standard_index standard.TitleShort = 43
standard_index standard.Url = 44
standard_index standard.VolumeTitle = 45
standard_index standard.YearSuffix = 46

-- the indices of the variables that are numbers, in their list
abbrev pub number_index : NumberVariable → ℕ
number_index number.ChapterNumber = 0
number_index number.CitationNumber = 1
number_index number.CollectionNumber = 2
number_index number.Edition = 3
number_index number.FirstReferenceNoteNumber = 4
number_index number.Issue = 5
number_index number.Locator = 6
number_index number.Number = 7
number_index number.NumberOfPages = 8
number_index number.NumberOfVolumes = 9
number_index number.PageFirst = 10
number_index number.PartNumber = 11
number_index number.PrintingNumber = 12
number_index number.Section = 13
number_index number.SupplementNumber = 14
number_index number.Version = 15
number_index number.Volume = 16

-- the indices of the variables that are people, in their list
abbrev pub name_index : NameVariable → ℕ
name_index name.Author = 0
name_index name.Chair = 1
name_index name.CollectionEditor = 2
name_index name.Compiler = 3
name_index name.Composer = 4
name_index name.ContainerAuthor = 5
name_index name.Contributor = 6
name_index name.Curator = 7
name_index name.Director = 8
name_index name.Editor = 9
name_index name.EditorTranslator = 10
name_index name.EditorialDirector = 11
name_index name.ExecutiveProducer = 12
name_index name.Guest = 13
name_index name.Host = 14
name_index name.Illustrator = 15
name_index name.Interviewer = 16
name_index name.Narrator = 17
name_index name.Organizer = 18
name_index name.OriginalAuthor = 19
name_index name.Performer = 20
name_index name.Producer = 21
name_index name.Recipient = 22
name_index name.ReviewedAuthor = 23
name_index name.ScriptWriter = 24
name_index name.SeriesCreator = 25
name_index name.Translator = 26

-- the indices of the variables that are dates, in their list
abbrev pub date_index : DateVariable → ℕ
date_index date.Accessed = 0
date_index date.AvailableDate = 1
date_index date.EventDate = 2
date_index date.Issued = 3
date_index date.OriginalDate = 4
date_index date.Submitted = 5

-- the indices of variables among all of them
abbrev pub variable_index : Variable → ℕ
variable_index (variables.Standard v) = standard_index v
variable_index (variables.Number v) = 50 + number_index v
variable_index (variables.Name v) = 70 + name_index v
variable_index (variables.Date v) = 100 + date_index v
variable_index variables.Page = 110

-- whether two variables are one
abbrev pub is_variable : Variable → Variable → Bool
is_variable (variables.Standard v) (variables.Standard w) = standard_index v == standard_index w
is_variable (variables.Number v) (variables.Number w) = number_index v == number_index w
is_variable (variables.Name v) (variables.Name w) = name_index v == name_index w
is_variable (variables.Date v) (variables.Date w) = date_index v == date_index w
is_variable variables.Page variables.Page = true
is_variable v w = false

-- whether two variables that are people are one
abbrev pub is_name_variable : NameVariable → NameVariable → Bool
is_name_variable v w = name_index v == name_index w

-- whether a variable is among some
abbrev pub is_among : List Variable → Variable → Bool
is_among vs v = list_any (is_variable v) vs
