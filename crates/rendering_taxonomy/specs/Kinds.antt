-- Which labels of locators are the same, and the indices of kinds.
use Rattle.std.specs.Prelude.{ℕ, Bool, ◌==◌}
use Rattle.rendering_taxonomy.specs.declared.kind.Kind.{Kind}
use Rattle.rendering_taxonomy.specs.declared.kind.Kind.TheVariants as kinds
use Rattle.rendering_taxonomy.specs.declared.locator.Locator.{Locator}
use Rattle.rendering_taxonomy.specs.declared.locator.Locator.TheVariants as locators

-- the indices of labels in their list
abbrev pub locator_index : Locator → ℕ
locator_index locators.Act = 0
locator_index locators.Appendix = 1
locator_index locators.ArticleLocator = 2
locator_index locators.Book = 3
locator_index locators.Canon = 4
locator_index locators.Chapter = 5
locator_index locators.Column = 6
locator_index locators.Elocation = 7
locator_index locators.Equation = 8
locator_index locators.Figure = 9
locator_index locators.Folio = 10
locator_index locators.Issue = 11
locator_index locators.Line = 12
locator_index locators.Note = 13
locator_index locators.Opus = 14
locator_index locators.Page = 15
locator_index locators.Paragraph = 16
locator_index locators.Part = 17
locator_index locators.Rule = 18
locator_index locators.Scene = 19
locator_index locators.Section = 20
locator_index locators.SubVerbo = 21
locator_index locators.Supplement = 22
locator_index locators.Table = 23
locator_index locators.Timestamp = 24
locator_index locators.TitleLocator = 25
locator_index locators.Verse = 26
locator_index locators.Version = 27
locator_index locators.Volume = 28
locator_index locators.Custom = 29

-- whether two labels are one
abbrev pub is_locator : Locator → Locator → Bool
is_locator l m = locator_index l == locator_index m

-- the indices of kinds in their list
abbrev pub kind_index : Kind → ℕ
kind_index kinds.Article = 0
kind_index kinds.ArticleJournal = 1
kind_index kinds.ArticleMagazine = 2
kind_index kinds.ArticleNewspaper = 3
kind_index kinds.Bill = 4
kind_index kinds.Book = 5
kind_index kinds.Broadcast = 6
kind_index kinds.Chapter = 7
kind_index kinds.Classic = 8
kind_index kinds.Collection = 9
kind_index kinds.Dataset = 10
kind_index kinds.Document = 11
kind_index kinds.Entry = 12
kind_index kinds.EntryDictionary = 13
kind_index kinds.EntryEncyclopedia = 14
kind_index kinds.Event = 15
kind_index kinds.Figure = 16
kind_index kinds.Graphic = 17
kind_index kinds.Hearing = 18
kind_index kinds.Interview = 19
kind_index kinds.LegalCase = 20
kind_index kinds.Legislation = 21
kind_index kinds.Manuscript = 22
kind_index kinds.Map = 23
kind_index kinds.MotionPicture = 24
kind_index kinds.MusicalScore = 25
kind_index kinds.Pamphlet = 26
kind_index kinds.PaperConference = 27
kind_index kinds.Patent = 28
kind_index kinds.Performance = 29
kind_index kinds.Periodical = 30
kind_index kinds.PersonalCommunication = 31
kind_index kinds.Post = 32
kind_index kinds.PostWeblog = 33
kind_index kinds.Regulation = 34
kind_index kinds.Report = 35
kind_index kinds.Review = 36
kind_index kinds.ReviewBook = 37
kind_index kinds.Software = 38
kind_index kinds.Song = 39
kind_index kinds.Speech = 40
kind_index kinds.Standard = 41
kind_index kinds.Thesis = 42
kind_index kinds.Treaty = 43
kind_index kinds.Webpage = 44
