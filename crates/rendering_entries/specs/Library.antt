-- What an entry of a library answers: each variable has its path through the works that the entry is part of.
use Rattle.std.specs.Prelude.{ℕ, Bool, false, not, nat_eq, ◌&&◌, ◌||◌, List, [], ◌∷◌, option_and_then, Option, Some, None, Result, Ok, Err, codes}
use Rattle.std.specs.List.{flat_map, starts_with}
use Rattle.std.specs.Option.{option_map, option_map_or, option_or, unwrap_or}
use Rattle.std.specs.Str.{chars}
use Rattle.literature_numbers.specs.Numerics.{Numeral, numeral_of}
use Rattle.literature_numbers.specs.Pages.{Part, first_number}
use Rattle.literature_values.specs.PersonViews.{Named}
use Rattle.literature_values.specs.TextViews.{Chunk, Format}
use Rattle.literature_values.specs.TypedViews.{ValueOrText, Value, Text}
use Rattle.literature_entries.specs.Fields.{Fields}
use Rattle.literature_entries.specs.Names.{serial, written}
use Rattle.literature_entries.specs.EntriesData.{EntryData}
use Rattle.rendering_entries.specs.Answers.{Answers}
use Rattle.rendering_entries.specs.Works.{Ancestry, ancestry, is_one_of, nearest, first_parent, container, collection, is_article_in}
use Rattle.rendering_numbers.specs.SuffixesAndLabels.{citation_label}
use Rattle.rendering_ranges.specs.Dashes.{first_in}
use Rattle.texts.specs.declared.reader.Unreadable.{Unreadable}
use Rattle.literature_values.specs.declared.date.Date.{Date}
use Rattle.literature_values.specs.declared.entry_type.EntryType.TheVariants as types
use Rattle.literature_values.specs.declared.text.ChunkKind.TheVariants as chunk_kinds
use Rattle.rendering_taxonomy.specs.declared.date.LongShortForm.{LongShortForm}
use Rattle.rendering_taxonomy.specs.declared.date.LongShortForm.TheVariants as lengths
use Rattle.rendering_taxonomy.specs.declared.kind.Kind.{Kind}
use Rattle.rendering_taxonomy.specs.declared.kind.Kind.TheVariants as kinds
use Rattle.rendering_taxonomy.specs.declared.variable.StandardVariable.{StandardVariable}
use Rattle.rendering_taxonomy.specs.declared.variable.StandardVariable.TheVariants as standard
use Rattle.rendering_taxonomy.specs.declared.variable.NumberVariable.{NumberVariable}
use Rattle.rendering_taxonomy.specs.declared.variable.NumberVariable.TheVariants as number
use Rattle.rendering_taxonomy.specs.declared.variable.Variable.{Variable}
use Rattle.rendering_taxonomy.specs.declared.variable.Variable.TheVariants as variables
use Rattle.rendering_taxonomy.specs.declared.variable.NameVariable.{NameVariable}
use Rattle.rendering_taxonomy.specs.declared.variable.NameVariable.TheVariants as name
use Rattle.rendering_taxonomy.specs.declared.variable.DateVariable.{DateVariable}
use Rattle.rendering_taxonomy.specs.declared.variable.DateVariable.TheVariants as date

-- a text as one ordinary piece
abbrev pub one_chunk : List ℕ → List Chunk
one_chunk cs = record { value = cs; kind = chunk_kinds.Normal } ∷ []

-- a serial number in bytes, as a text of one piece
abbrev pub serial_text : Option (List ℕ) → Option (List Chunk)
serial_text bs = option_map (λ b. one_chunk (chars b)) bs

-- the characters of a text
abbrev pub characters_of : List Chunk → List ℕ
characters_of cs = flat_map (λ c. c.value) cs

-- a text in its long form
abbrev pub long_text : Option Format → Option (List Chunk)
long_text t = option_map (λ f. f.value) t

-- a text in its short form, where it has one
abbrev pub short_text : Option Format → Option (List Chunk)
short_text t = option_and_then (λ f. f.short) t

-- a text in a form; the long form is taken for a short one that is not there
abbrev pub text_in : LongShortForm → Format → List Chunk
text_in lengths.Long f = f.value
text_in lengths.Short f = unwrap_or f.short f.value

-- the title of a work that may be there
abbrev pub title_of : Option Fields → Option (List Chunk)
title_of w = option_and_then (λ fs. long_text fs.title) w

-- the name of the publisher
abbrev pub publisher_name : Fields → Option Format
publisher_name fs = option_and_then (λ p. p.name) fs.publisher

-- the publisher's location
abbrev pub publisher_place : Fields → Option Format
publisher_place fs = option_and_then (λ p. p.location) fs.publisher

-- an address, whether it was read or not
abbrev pub address_text : ValueOrText (List ℕ) → List ℕ
address_text (Value bs) = chars bs
address_text (Text cs) = cs

-- the number that a text spells, or the text
abbrev pub number_or_text : List ℕ → Result Numeral Unreadable → ValueOrText Numeral
number_or_text cs (Ok n) = Value n
number_or_text cs (Err e) = Text cs

-- the number that a text in bytes spells, or the text
abbrev pub read_number : List ℕ → ValueOrText Numeral
read_number bs = number_or_text (chars bs) (numeral_of (chars bs))

-- the first page, where pages were read
abbrev pub first_page : ValueOrText (List Part) → Option (ValueOrText Numeral)
first_page (Value ps) = option_map Value (first_number ps)
first_page (Text cs) = None

-- some people, or none
abbrev pub people_or_none : Option (List Named) → List Named
people_or_none ps = unwrap_or ps []

-- whether a language is English, by the first letters of its code
abbrev pub is_english : List ℕ → Bool
is_english code = starts_with nat_eq code (codes "en")

-- Numbers. Entries of a library have none for other variables. Those of a cite, as its number, are not the entry's.
abbrev pub number_answer : Ancestry → NumberVariable → Option (ValueOrText Numeral)
number_answer s number.ChapterNumber = s.own.chapter
number_answer s number.Edition = nearest (λ fs. fs.edition) s
number_answer s number.Issue = nearest (λ fs. fs.issue) s
number_answer s number.Number = option_map read_number (serial (codes "serial") s.own)
number_answer s number.NumberOfPages = s.own.page_total
number_answer s number.NumberOfVolumes = nearest (λ fs. fs.volume_total) s
number_answer s number.PageFirst = option_and_then first_page s.own.page_range
number_answer s number.Volume = nearest (λ fs. fs.volume) s
number_answer s v = None

-- the text of a number or of pages as it was written, by the name of its field
abbrev pub text_under : List ℕ → Fields → Option (List ℕ)
text_under field fs = option_map chars (written field fs)

-- the same in the work that answers for a number: the entry, or else the first of its ancestors that has the number
abbrev pub nearest_text : List ℕ → (Fields → Option (ValueOrText Numeral)) → Ancestry
    → Option (List ℕ)
nearest_text field look s =
    option_and_then (text_under field) (nearest (λ fs. option_map (λ n. fs) (look fs)) s)

-- the text that stands instead of pages
abbrev pub text_instead : ValueOrText (List Part) → Option (List ℕ)
text_instead (Value ps) = None
text_instead (Text cs) = Some cs

-- the text of pages as it was written
abbrev pub page_text : Fields → Option (List ℕ)
page_text fs =
    option_or (text_under (codes "page-range") fs) (option_and_then text_instead fs.page_range)

-- Numbers as they were written; the first page is what stands before the first dash, comma or ampersand.
abbrev pub number_written : Ancestry → NumberVariable → Option (List ℕ)
number_written s number.ChapterNumber = text_under (codes "chapter") s.own
number_written s number.Edition = nearest_text (codes "edition") (λ fs. fs.edition) s
number_written s number.Issue = nearest_text (codes "issue") (λ fs. fs.issue) s
number_written s number.Number = option_map chars (serial (codes "serial") s.own)
number_written s number.NumberOfPages = text_under (codes "page-total") s.own
number_written s number.NumberOfVolumes =
    nearest_text (codes "volume-total") (λ fs. fs.volume_total) s
number_written s number.PageFirst = option_map first_in (page_text s.own)
number_written s number.Volume = nearest_text (codes "volume") (λ fs. fs.volume) s
number_written s v = None

-- numbers and pages as they were written, where it is known
abbrev pub written_answer : Ancestry → Variable → Option (List ℕ)
written_answer s (variables.Number v) = number_written s v
written_answer s variables.Page = page_text s.own
written_answer s v = None

-- People. Entries of a library have none for other variables.
abbrev pub people_answer : Ancestry → NameVariable → List Named
people_answer s name.Author = people_or_none s.own.author
people_answer s name.ContainerAuthor = people_or_none (option_and_then (λ fs. fs.author) (container s))
people_answer s name.Editor = people_or_none (nearest (λ fs. fs.editor) s)
people_answer s name.Translator = people_or_none s.own.translator
people_answer s v = []

-- the label of an entry, with so many letters of one name
abbrev pub label_of : ℕ → Ancestry → List ℕ
label_of letters s =
    citation_label letters (people_answer s name.Author) (people_answer s name.Editor)
    (option_map_or characters_of (long_text s.own.title) []) (option_map (λ d. d.year) s.own.date)

-- Texts. Only the title has a short form, and `event` is an older name of `event-title`. Entries of a library have none for other variables;
-- the year suffix is the cite's.
abbrev pub standard_answer : Ancestry → LongShortForm → StandardVariable → Option (List Chunk)
standard_answer s form standard.CitationLabel = Some (one_chunk (label_of 3 s))
standard_answer s form standard.CollectionTitle = title_of (collection s)
standard_answer s form standard.ContainerTitle = title_of (container s)
standard_answer s form standard.Doi = serial_text (serial (codes "doi") s.own)
standard_answer s form standard.Event = title_of (first_parent (types.Conference ∷ []) s)
standard_answer s form standard.EventTitle = title_of (first_parent (types.Conference ∷ []) s)
standard_answer s form standard.Isbn = serial_text (nearest (serial (codes "isbn")) s)
standard_answer s form standard.Issn = serial_text (nearest (serial (codes "issn")) s)
standard_answer s form standard.Note = long_text s.own.note
standard_answer s form standard.Publisher = long_text (nearest publisher_name s)
standard_answer s form standard.PublisherPlace = long_text (nearest publisher_place s)
standard_answer s form standard.Title = option_map (text_in form) s.own.title
standard_answer s form standard.TitleShort = short_text s.own.title
standard_answer s form standard.Url = option_map (λ u. one_chunk (address_text u.value)) s.own.url
standard_answer s form v = None

-- dates
abbrev pub date_answer : Ancestry → DateVariable → Option Date
date_answer s date.Accessed = option_and_then (λ u. u.visit_date) s.own.url
date_answer s date.AvailableDate = None
date_answer s date.EventDate = option_and_then (λ fs. fs.date) (first_parent (types.Conference ∷ []) s)
date_answer s date.Issued = s.own.date
date_answer s date.OriginalDate = option_and_then (λ fs. fs.date) (first_parent (types.Original ∷ []) s)
date_answer s date.Submitted = None

-- Kinds. Entries of a library are of no other kind.
abbrev pub kind_answer : Ancestry → Kind → Bool
kind_answer s kinds.Article = is_one_of (types.Article ∷ []) s.own && not (is_article_in types.Periodical s || is_article_in types.Proceedings s)
kind_answer s kinds.ArticleJournal = is_article_in types.Periodical s
kind_answer s kinds.Book = is_one_of (types.Book ∷ types.Anthology ∷ types.Proceedings ∷ types.Reference ∷ []) s.own
kind_answer s kinds.Chapter = is_one_of (types.Chapter ∷ types.Anthos ∷ []) s.own
kind_answer s kinds.Document = is_one_of (types.Misc ∷ []) s.own
kind_answer s kinds.EntryEncyclopedia = is_one_of (types.Entry ∷ []) s.own
kind_answer s kinds.Manuscript = is_one_of (types.Manuscript ∷ []) s.own
kind_answer s kinds.PaperConference = is_article_in types.Proceedings s
kind_answer s kinds.Patent = is_one_of (types.Patent ∷ []) s.own
kind_answer s kinds.Periodical = is_one_of (types.Periodical ∷ []) s.own
kind_answer s kinds.Report = is_one_of (types.Report ∷ []) s.own
kind_answer s kinds.Software = is_one_of (types.Repository ∷ []) s.own
kind_answer s kinds.Thesis = is_one_of (types.Thesis ∷ []) s.own
kind_answer s kinds.Webpage = is_one_of (types.Web ∷ []) s.own
kind_answer s k = false

-- all that an entry answers which stands so among works
abbrev pub answers_among : Ancestry → Answers
answers_among s = record {
  number = number_answer s;
  pages = s.own.page_range;
  written = written_answer s;
  standard = standard_answer s;
  people = people_answer s;
  date = date_answer s;
  kind = kind_answer s;
  english = option_map is_english s.own.language;
  key = s.key;
}

-- all that an entry of a library answers
abbrev pub answers_of : EntryData → Answers
answers_of w = answers_among (ancestry w)
