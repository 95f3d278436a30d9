-- What a cite and its entry answer.
use Rattle.std.specs.Prelude.{ℕ, ◌+◌, ◌^◌, nat_lt, Bool, true, false, not, ◌&&◌, List, [], ◌∷◌, ◌++◌, map, filter, if◌then◌else◌, Option, Some, None, Result, Ok, Err, pos, codes}
use Rattle.std.specs.Fmt.{decimal}
use Rattle.std.specs.List.{list_any}
use Rattle.std.specs.Option.{option_map_or, unwrap_or}
use Rattle.literature_numbers.specs.Numerics.{Numeral, plain, numeral_of}
use Rattle.literature_numbers.specs.NumericText.{is_plural}
use Rattle.literature_numbers.specs.Pages.{Part, pages_of, pages_text, has_more}
use Rattle.literature_values.specs.PersonViews.{Named}
use Rattle.literature_values.specs.TextViews.{Chunk}
use Rattle.literature_values.specs.TypedViews.{ValueOrText, Value, Text}
use Rattle.rendering_taxonomy.specs.Kinds.{is_locator}
use Rattle.rendering_taxonomy.specs.Variables.{is_among}
use Rattle.rendering_tree.specs.Metas.{Answered}
use Rattle.laws.specs.Text.{is_filled}
use Rattle.literature_values.specs.declared.date.Date.{Date}
use Rattle.rendering_entries.specs.Library.{characters_of, one_chunk}
use Rattle.rendering_ranges.specs.Dashes.{dashed, has_padding}
use Rattle.rendering_context.specs.Cites.{Payload, written, transparent, SpecificLocator}
use Rattle.rendering_context.specs.Contexts.{Context}
use Rattle.rendering_context.specs.Stretches.{is_numeric_text}
pub use Rattle.rendering_context.specs.Stretches.{is_range_sign}
use Rattle.literature_values.specs.declared.text.ChunkKind.{ChunkKind}
use Rattle.literature_values.specs.declared.text.ChunkKind.TheVariants as chunk_kinds
use Rattle.texts.specs.declared.reader.Unreadable.{Unreadable}
use Rattle.rendering_taxonomy.specs.declared.cite.IdentifierUsage.{IdentifierUsage}
use Rattle.rendering_taxonomy.specs.declared.cite.IdentifierUsage.TheVariants as usages
use Rattle.rendering_taxonomy.specs.declared.date.LongShortForm.{LongShortForm}
use Rattle.rendering_taxonomy.specs.declared.date.LongShortForm.TheVariants as lengths
use Rattle.rendering_taxonomy.specs.declared.locator.Locator.TheVariants as locators
use Rattle.rendering_taxonomy.specs.declared.page.PageRangeFormat.{PageRangeFormat}
use Rattle.rendering_taxonomy.specs.declared.variable.DateVariable.{DateVariable}
use Rattle.rendering_taxonomy.specs.declared.variable.NameVariable.{NameVariable}
use Rattle.rendering_taxonomy.specs.declared.variable.NumberVariable.{NumberVariable}
use Rattle.rendering_taxonomy.specs.declared.variable.NumberVariable.TheVariants as number
use Rattle.rendering_taxonomy.specs.declared.variable.StandardVariable.{StandardVariable}
use Rattle.rendering_taxonomy.specs.declared.variable.StandardVariable.TheVariants as standard
use Rattle.rendering_taxonomy.specs.declared.variable.Variable.{Variable}
use Rattle.rendering_taxonomy.specs.declared.variable.Variable.TheVariants as variables

-- What a text or number node may print: nothing; a text in pieces; a text that links to an address; a number; pages; a
-- locator of the caller's own.
pub data Answer : Type 0 where
  no_answer : Answer
  pieces : List Chunk → Answer
  address : List ℕ → List ℕ → Answer
  count : ValueOrText Numeral → Answer
  ranges : ValueOrText (List Part) → Answer
  own : Answer

-- a piece is there where it is a formula or not empty
abbrev pub is_piece : ChunkKind → List ℕ → Bool
is_piece chunk_kinds.Math cs = true
is_piece kind cs = is_filled cs

-- a text without pieces is no answer
abbrev pub of_pieces : List Chunk → Answer
of_pieces cs = if list_any (λ c. is_piece c.kind c.value) cs then pieces cs else no_answer

-- a text that links to its address; an empty one is no answer
abbrev pub of_address : List ℕ → List ℕ → Answer
of_address url [] = no_answer
of_address url (c ∷ cs) = address (c ∷ cs) (url ++ c ∷ cs)

-- an empty text instead of a number is no answer
abbrev pub of_number : ValueOrText Numeral → Answer
of_number (Value n) = count (Value n)
of_number (Text []) = no_answer
of_number (Text (c ∷ cs)) = count (Text (c ∷ cs))

-- the text of pages
abbrev pub ranges_text : ValueOrText (List Part) → List ℕ
ranges_text (Value ps) = pages_text ps
ranges_text (Text cs) = cs

-- pages without a text are no answer
abbrev pub of_pages : ValueOrText (List Part) → Answer
of_pages ps = if is_filled (ranges_text ps) then ranges ps else no_answer

-- the first of some, or nothing
abbrev pub or_no_answer : {X : Type 0} → (X → Answer) → Option X → Answer
or_no_answer given None = no_answer
or_no_answer given (Some x) = given x

-- a text, in a published style with the hyphens of its ranges as en dashes
abbrev pub dashed_if : Bool → List ℕ → List ℕ
dashed_if is_published cs = if is_published then dashed cs else cs

-- a locator answers its text
abbrev pub of_payload : Bool → Payload → Answer
of_payload is_published (written cs) = of_number (Text (dashed_if is_published cs))
of_payload is_published transparent = own

-- a text that counts pages: in a published style it is printed as pages are
abbrev pub page_text : Bool → List ℕ → Answer
page_text is_published cs = if is_published then of_pages (Text cs) else of_number (Text cs)

-- A text that spells pages answers these, another one itself. In a published style numbers with noughts before them stay as they are.
abbrev pub spelled_pages : Bool → List ℕ → Result (List Part) Unreadable → Answer
spelled_pages is_published cs (Ok ps) =
    if is_published && has_padding cs then of_pages (Text cs) else ranges (Value ps)
spelled_pages is_published cs (Err e) = page_text is_published cs

-- a text that counts pages, in a style that shortens ranges of pages by the pages that it spells
abbrev pub page_text_in : Option PageRangeFormat → Bool → List ℕ → Answer
page_text_in None is_published cs = page_text is_published cs
page_text_in (Some format) is_published cs = spelled_pages is_published cs (pages_of cs)

-- a locator that counts pages, by its text
abbrev pub of_page_payload : Option PageRangeFormat → Bool → Payload → Answer
of_page_payload format is_published (written cs) = page_text_in format is_published cs
of_page_payload format is_published transparent = own

-- a locator answers its text, and one that counts pages answers pages, as the style prints them
abbrev pub of_locator : Option PageRangeFormat → Bool → SpecificLocator → Answer
of_locator format is_published l =
    if is_locator locators.Page l.label
    then of_page_payload format is_published l.payload
    else of_payload is_published l.payload

-- a number that counts from one; one that is too great for a number is a text in digits
abbrev pub of_count : ℕ → Answer
of_count n = count (if nat_lt n (2 ^ 31) then Value (plain (pos n)) else Text (decimal n))

-- the text of a number or of pages of the entry as it was written, where the style is a published one
abbrev pub written_in : Context → Variable → Option (List ℕ)
written_in c v = if c.is_published then c.answers.written v else None

-- a number of the entry, or the text where there is no number
abbrev pub of_entry : Option (ValueOrText Numeral) → Option (List ℕ) → Answer
of_entry (Some n) text = of_number n
of_entry None text = or_no_answer (λ cs. of_number (Text cs)) text

-- what the cite answers, and else the entry, to a number variable
abbrev pub number_answer : Context → NumberVariable → Answer
number_answer c number.CitationNumber = of_count (c.properties.citation_number + 1)
number_answer c number.FirstReferenceNoteNumber = or_no_answer of_count c.properties.first_note_number
number_answer c number.Locator =
    or_no_answer (of_locator c.page_ranges c.is_published) c.properties.locator
number_answer c v = of_entry (c.answers.number v) (written_in c (variables.Number v))

-- what the cite answers, and else the entry, to a variable that is a text; two of them are addresses
abbrev pub standard_answer : Context → LongShortForm → StandardVariable → Answer
standard_answer c form standard.Doi = or_no_answer (λ cs. of_address (codes "https://doi.org/") (characters_of cs)) (c.answers.standard form standard.Doi)
standard_answer c form standard.Url = or_no_answer (λ cs. of_address [] (characters_of cs)) (c.answers.standard form standard.Url)
standard_answer c form standard.YearSuffix = of_pieces (one_chunk c.year_suffix)
standard_answer c form v = or_no_answer of_pieces (c.answers.standard form v)

-- what is answered to a variable; people and dates are no texts
abbrev pub answer_of : Context → LongShortForm → Variable → Answer
answer_of c form (variables.Standard v) = standard_answer c form v
answer_of c form (variables.Number v) = number_answer c v
answer_of c form variables.Page = or_no_answer of_pages c.answers.pages
answer_of c form (variables.Name v) = no_answer
answer_of c form (variables.Date v) = no_answer

-- the one of the two variables that identify entries that stands for the other, where cites printed only one of them
abbrev pub exchanged_for : IdentifierUsage → Variable → Variable
exchanged_for usages.OnlyCitationLabel (variables.Number number.CitationNumber) = variables.Standard standard.CitationLabel
exchanged_for usages.OnlyCitationNumber (variables.Standard standard.CitationLabel) = variables.Number number.CitationNumber
exchanged_for usage v = v

-- the variable that is asked: another one only in a bibliography
abbrev pub asked_for : Context → Variable → Variable
asked_for c v = if c.is_bibliography then exchanged_for c.properties.identifier_usage v else v

-- what a number node prints; a variable that is not printed again answers nothing
abbrev pub answer_to : Context → List Variable → LongShortForm → Variable → Answer
answer_to c suppressed form v = if is_among suppressed v then no_answer else answer_of c form (asked_for c v)

-- the same for a text node; a cite's numbers are not the entry's
abbrev pub text_written : Context → Variable → Option (List ℕ)
text_written c (variables.Number number.CitationNumber) = None
text_written c (variables.Number number.FirstReferenceNoteNumber) = None
text_written c (variables.Number number.Locator) = None
text_written c (variables.Number v) = written_in c (variables.Number v)
text_written c variables.Page = written_in c variables.Page
text_written c v = None

-- whether an answer is a number, or a text instead of it
abbrev pub is_count : Answer → Bool
is_count (count n) = true
is_count h = false

-- whether it is pages, or a text instead of them
abbrev pub is_ranges : Answer → Bool
is_ranges (ranges ps) = true
is_ranges h = false

-- a number by the text that was written, where there is one, and pages by it where their numbers have noughts before them
abbrev pub as_text : Option (List ℕ) → Answer → Answer
as_text None h = h
as_text (Some cs) h =
    if is_filled cs && is_count h then count (Text cs)
    else if has_padding cs && is_ranges h then ranges (Text cs)
    else h

-- what a text node prints: in a published style numbers as they were written
abbrev pub text_answer_to : Context → List Variable → LongShortForm → Variable → Answer
text_answer_to c suppressed form v =
    as_text (text_written c (asked_for c v)) (answer_to c suppressed form v)

-- whether there is no answer
abbrev pub is_missing : Answer → Bool
is_missing no_answer = true
is_missing h = false

-- the date that a date node prints
abbrev pub date_answer : Context → List Variable → DateVariable → Option Date
date_answer c suppressed v = if is_among suppressed (variables.Date v) then None else c.answers.date v

-- the people of a variable
abbrev pub people_answer : Context → List Variable → NameVariable → List Named
people_answer c suppressed v = if is_among suppressed (variables.Name v) then [] else c.answers.people v

-- whether there are people
abbrev pub with_people : Answered → Bool
with_people ([], v) = false
with_people (p ∷ ps, v) = true

-- the people of each variable that has some
abbrev pub all_people : Context → List Variable → List NameVariable → List Answered
all_people c suppressed vs = filter with_people (map (λ v. (people_answer c suppressed v, v)) vs)

-- whether one of the variables has people
abbrev pub has_people : Context → List Variable → List NameVariable → Bool
has_people c suppressed vs = list_any (λ v. with_people (people_answer c suppressed v, v)) vs

-- whether a locator's text has a sign between more than one
abbrev pub is_plural_payload : Payload → Bool
is_plural_payload (written cs) = list_any is_range_sign cs
is_plural_payload transparent = false

-- whether an answer is more than one; in a published style also a text, by its signs
abbrev pub is_plural_answer : Bool → Answer → Bool
is_plural_answer is_published (count (Value n)) = is_plural n.value
is_plural_answer is_published (count (Text cs)) = is_published && list_any is_range_sign cs
is_plural_answer is_published (ranges (Value ps)) = has_more false ps
is_plural_answer is_published (ranges (Text cs)) = is_published && list_any is_range_sign cs
is_plural_answer is_published h = false

-- whether the answer to a variable is more than one
abbrev pub is_plural_variable : Context → Variable → Bool
is_plural_variable c (variables.Number number.Locator) = option_map_or (λ l. is_plural_payload l.payload) c.properties.locator false
is_plural_variable c v = is_plural_answer c.is_published (answer_of c lengths.Long v)

-- whether a text spells a number
abbrev pub spells_number : Result Numeral Unreadable → Bool
spells_number (Ok n) = true
spells_number (Err e) = false

-- whether a locator's text spells a number
abbrev pub is_numeric_payload : Payload → Bool
is_numeric_payload (written cs) = spells_number (numeral_of cs)
is_numeric_payload transparent = false

-- whether an answer is a number; in a published style also a text that counts as numbers
abbrev pub is_numeric_answer : Bool → Answer → Bool
is_numeric_answer is_published (count (Value n)) = true
is_numeric_answer is_published (count (Text cs)) = is_published && is_numeric_text cs
is_numeric_answer is_published (ranges (Value ps)) = true
is_numeric_answer is_published (ranges (Text cs)) = is_published && is_numeric_text cs
is_numeric_answer is_published h = false

-- whether what is answered is a number
abbrev pub is_numeric_variable : Context → Variable → Bool
is_numeric_variable c (variables.Number number.Locator) = option_map_or (λ l. is_numeric_payload l.payload) c.properties.locator false
is_numeric_variable c v = is_numeric_answer c.is_published (answer_of c lengths.Long v)

-- whether anything is answered
abbrev pub has_answer : Context → Variable → Bool
has_answer c (variables.Name v) = with_people (c.answers.people v, v)
has_answer c (variables.Date v) = option_map_or (λ d. true) (c.answers.date v) false
has_answer c v = not (is_missing (answer_of c lengths.Long (asked_for c v)))

-- whether texts are English: what the entry says, or else by the language of the call
abbrev pub is_english : Context → Bool
is_english c = unwrap_or c.answers.english c.in_english
