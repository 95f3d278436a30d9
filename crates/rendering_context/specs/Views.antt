-- The code's values without where they lie in memory.
use Rattle.std.specs.Prelude.{◌≡◌, [], map, Option, Some, None}
use Rattle.std.specs.Borrow.{Bor}
use Rattle.std.specs.Option.{option_map}
use Rattle.std.specs.Str.{chars}
use Rattle.laws.specs.Text.{characters, spelled}
use Rattle.literature_numbers.specs.PageViews.{pages_view}
use Rattle.literature_values.specs.TypedViews.{typed_view, Text}
use Rattle.rendering_entries.specs.Answers.{Answers}
use Rattle.rendering_entries.specs.Library.{one_chunk}
use Rattle.rendering_entries.specs.Views.{lent_number_view, lent_text_view}
use Rattle.rendering_people.specs.Properties.{Properties}
use Rattle.rendering_context.specs.Answering as answering
use Rattle.rendering_context.specs.Cites as cites
use Rattle.rendering_context.specs.Contexts as contexts
use Rattle.rendering_context.specs.declared.answer.Answer.{Answer}
use Rattle.rendering_context.specs.declared.answer.Answer.TheVariants as answers
use Rattle.rendering_context.specs.declared.cite.CiteProperties.{CiteProperties}
use Rattle.rendering_context.specs.declared.cite.DisambiguateState.{DisambiguateState}
use Rattle.rendering_context.specs.declared.cite.DisambiguateState.TheVariants as states
use Rattle.rendering_context.specs.declared.context.Context.{Context}
use Rattle.rendering_context.specs.declared.locator.LocatorPayload.{LocatorPayload}
use Rattle.rendering_context.specs.declared.locator.LocatorPayload.TheVariants as payloads
use Rattle.rendering_context.specs.declared.locator.SpecificLocator.{SpecificLocator}

-- a locator's text, or that the caller prints it
abbrev pub payload_view : {P : Type 0} → LocatorPayload P → cites.Payload
payload_view (payloads.Str s) = cites.written (chars s.now)
payload_view (payloads.Transparent t) = cites.transparent

-- whether a locator copies another: the same text, or what is a clone of what the caller prints
abbrev pub is_copy : {P : Type 0} → (P → P → Type 0) → LocatorPayload P → LocatorPayload P → Type 0
is_copy is_clone (payloads.Str s) (payloads.Str t) = s.now ≡ t.now
is_copy is_clone (payloads.Str s) (payloads.Transparent q) = ⊥
is_copy is_clone (payloads.Transparent p) (payloads.Str t) = ⊥
is_copy is_clone (payloads.Transparent p) (payloads.Transparent q) = is_clone p.payload q.payload

-- a locator
abbrev pub locator_view : {P : Type 0} → SpecificLocator P → cites.SpecificLocator
locator_view l = record { label = l.label; payload = payload_view l.payload }

-- the state of disambiguation of a cite
abbrev pub state_view : DisambiguateState → cites.DisambiguateState
state_view states.None = cites.undisambiguated
state_view (states.NameDisambiguation ps) = cites.by_names ps
state_view states.Choose = cites.by_choose
state_view (states.YearSuffix n) = cites.by_suffix n

-- how much of names is printed, where that is known
abbrev pub lent_names : Option (Bor Properties) → Properties
lent_names None = []
lent_names (Some ps) = ps.now

-- what is known of a cite
abbrev pub cite_properties_view : CiteProperties → cites.CiteProperties
cite_properties_view c = record {
  note_number = c.note_number;
  first_note_number = c.first_note_number;
  is_near_note = c.is_near_note;
  is_first = c.is_first;
  initial_idx = c.initial_idx;
  locator = option_map locator_view c.locator;
  citation_number = c.citation_number;
  ibid = c.ibid;
  disambiguation = state_view c.disambiguation;
  identifier_usage = c.identifier_usage;
  first_names = lent_names c.first_names;
}

-- what a call prints from, with what the entry answers
abbrev pub context_view : Answers → Context → contexts.Context
context_view a c = record {
  answers = a;
  properties = cite_properties_view c.properties.now;
  locales = c.locales.now;
  quotes = map spelled c.quotes.now;
  year_suffix = chars c.year_suffix.now;
  is_bibliography = c.is_bibliography;
  has_suffix_node = c.has_suffix_node;
  page_ranges = c.page_ranges;
  in_english = c.in_english;
  is_published = c.is_published;
}

-- what is printed
abbrev pub answer_view : Answer → answering.Answer
answer_view (answers.Text t) = answering.pieces (lent_text_view t)
answer_view (answers.YearSuffix s) = answering.pieces (one_chunk (chars s.now))
answer_view (answers.Address text url) = answering.address (characters text) (characters url)
answer_view (answers.Number n) = answering.count (lent_number_view n)
answer_view (answers.Locator s) = answering.count (Text (chars s.now))
answer_view (answers.Pages ps) = answering.ranges (typed_view pages_view ps)
answer_view answers.Transparent = answering.own

-- what is printed, if anything
abbrev pub answer_if : Option Answer → answering.Answer
answer_if None = answering.no_answer
answer_if (Some a) = answer_view a
