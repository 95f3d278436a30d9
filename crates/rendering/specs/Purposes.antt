-- What cites and items of a bibliography print.
use Rattle.std.specs.Prelude.{ℕ, Bool, true, false, not, ◌&&◌, ◌||◌, List, [], ◌∷◌, ◌++◌, filter_map, if◌then◌else◌, is_some, Option, Some, None, codes}
use Rattle.std.specs.List.{list_any}
use Rattle.std.specs.Option.{option_map, option_map_or, unwrap_or}
use Rattle.std.specs.Char.{is_whitespace}
use Rattle.laws.specs.Characters.{space, open_parenthesis, close_parenthesis}
use Rattle.laws.specs.Text.{is_filled}
use Rattle.rendering_taxonomy.specs.Formats.{plain, changed}
use Rattle.rendering_tree.specs.Tokens.{Token, with_letter_after}
use Rattle.rendering_tree.specs.Trees.{Children, Elem, Element, tree_of, flat, flat_child, names_element, Parted, parted}
use Rattle.rendering_locale.specs.Lookup.{term}
use Rattle.literature_values.specs.declared.date.Date.{Date}
use Rattle.rendering_dates.specs.Dates.{years_text}
use Rattle.rendering_page.specs.Joints.{joined}
use Rattle.rendering_page.specs.Pages.{Page, is_joined, Manner, Quotes, Frame, append_normal, append_space, empty_page_by, prints}
use Rattle.rendering_page.specs.Pieces.{normal, begin, end}
use Rattle.rendering_page.specs.PageCharacters.{plain_manner}
use Rattle.rendering_entries.specs.Answers.{Answers}
use Rattle.rendering_style.specs.Options.{NameOptions, options_over}
use Rattle.rendering_style.specs.Nodes.{NamesNode, Nodes, names, no_nodes, node, plain_look}
use Rattle.rendering_style.specs.Styles.{Layout, Bibliography, Style}
use Rattle.rendering_style.specs.Opening.{opened_nodes}
use Rattle.rendering_people.specs.Properties.{Properties}
use Rattle.rendering_names.specs.Around.{not_overriding}
use Rattle.rendering_context.specs.Cites.{CiteProperties, year_suffix_of}
use Rattle.rendering_context.specs.Contexts.{Context, StyleContext}
use Rattle.rendering_leaves.specs.NodeSettings.{SpecialForm, whole, author_only, without_author, first_date_only, suffix_only, authors_alone, without_names, NodeSetting, State, begun, append, noted}
use Rattle.rendering_context.specs.Answering.{has_answer, is_english}
use Rattle.rendering_nodes.specs.Admission.{Survey, surveys}
use Rattle.rendering_nodes.specs.Content.{stage, contents}
use Rattle.rendering_nodes.specs.Named.{has_suffix}
use Rattle.rendering.specs.Blocks.{text_in_block}
use Rattle.rendering.specs.Ends.{trimmed_tree}
use Rattle.rendering.specs.Words.{CallWords, words_of}
use Rattle.rendering_taxonomy.specs.declared.cite.CitePurpose.{CitePurpose}
use Rattle.rendering_taxonomy.specs.declared.cite.CitePurpose.TheVariants as purposes
use Rattle.rendering_taxonomy.specs.declared.cite.CollapseVerdict.{CollapseVerdict}
use Rattle.rendering_taxonomy.specs.declared.cite.CollapseVerdict.TheVariants as verdicts
use Rattle.rendering_taxonomy.specs.declared.cite.IbidState.TheVariants as ibids
use Rattle.rendering_taxonomy.specs.declared.cite.IdentifierUsage.{IdentifierUsage}
use Rattle.rendering_taxonomy.specs.declared.cite.IdentifierUsage.TheVariants as usages
use Rattle.rendering_taxonomy.specs.declared.page.PageRule.{PageRule}
use Rattle.rendering_taxonomy.specs.declared.style.SecondFieldAlign.{SecondFieldAlign}
use Rattle.rendering_taxonomy.specs.declared.style.StyleCategory.{StyleCategory}
use Rattle.rendering_taxonomy.specs.declared.style.StyleCategory.TheVariants as categories
use Rattle.rendering_taxonomy.specs.declared.term.OtherTerm.TheVariants as others
use Rattle.rendering_taxonomy.specs.declared.term.Term.TheVariants as terms
use Rattle.rendering_taxonomy.specs.declared.term.TermForm.TheVariants as forms
use Rattle.rendering_taxonomy.specs.declared.variable.DateVariable.{DateVariable}
use Rattle.rendering_taxonomy.specs.declared.variable.DateVariable.TheVariants as date
use Rattle.rendering_taxonomy.specs.declared.variable.NameVariable.{NameVariable}
use Rattle.rendering_taxonomy.specs.declared.variable.NameVariable.TheVariants as name
use Rattle.rendering_taxonomy.specs.declared.variable.Variable.TheVariants as variables

-- the nodes of a layout with their macros opened
abbrev pub layout_nodes : Style → Layout → Nodes
layout_nodes s l = opened_nodes s.macros l.nodes

-- whether a style is a published one: the texts of its pages are joined
abbrev pub is_published : Style → Bool
is_published s = is_joined s.page_rule

-- whether a layout of the style prints the year suffix by itself
unfoldable pub prints_suffix : Style → Bool
prints_suffix s = has_suffix (layout_nodes s s.citation.layout) || option_map_or (λ b. has_suffix (layout_nodes s b.layout)) s.bibliography false

-- what is printed from in these words, with this year suffix
abbrev pub in_words : Style → Answers → CiteProperties → CallWords → List ℕ → Bool → Context
in_words s answers properties words year_suffix is_bibliography = record {
  answers = answers;
  properties = properties;
  locales = words.locales;
  quotes = words.quotes;
  year_suffix = year_suffix;
  is_bibliography = is_bibliography;
  has_suffix_node = prints_suffix s;
  page_ranges = s.page_ranges;
  in_english = words.are_english;
  is_published = is_joined s.page_rule;
}

-- what a call prints from
abbrev pub context_of : StyleContext → Option (List ℕ) → Bool → Answers → CiteProperties → Context
context_of x term_locale is_bibliography answers properties =
    in_words x.style answers properties (words_of x term_locale) (year_suffix_of properties.disambiguation) is_bibliography

-- how a layout's own texts are appended
abbrev pub layout_manner : Layout → Manner
layout_manner l = record plain_manner { formatting = changed l.formatting plain }

-- the options for names in the citation
abbrev pub citation_options : Style → NameOptions
citation_options s = options_over s.citation.name_options s.name_options

-- what a layout hands down, with its options for names over those of the style; whether it prints English
abbrev pub setting_of : Style → Bool → Layout → NameOptions → SpecialForm → NodeSetting
setting_of s english l options form = record {
  manner = record (layout_manner l) { is_english = english };
  inside_quotes = false;
  delimiter = None;
  options = not_overriding (options_over options s.name_options);
  in_substitute = false;
  form = form;
  outer_names = None;
}

-- a layout is appended in a form, without its affixes
abbrev pub append_layout : Style → Context → Layout → NameOptions → SpecialForm → State → State
append_layout s c l options form st = contents c (setting_of s (is_english c) l options form) true (layout_nodes s l) st

-- whether anything of a layout is admitted in a form, and whether the test `disambiguate` was evaluated
abbrev pub layout_survey : Style → Context → Layout → NameOptions → SpecialForm → State → Survey
layout_survey s c l options form st = surveys (stage c (setting_of s (is_english c) l options form) st) (layout_nodes s l)

-- the layout of the citation
abbrev pub append_citation : Style → Context → SpecialForm → State → State
append_citation s c form st = append_layout s c s.citation.layout s.citation.name_options form st

-- what is asked of it
abbrev pub citation_survey : Style → Context → SpecialForm → State → Survey
citation_survey s c form st = layout_survey s c s.citation.layout s.citation.name_options form st

-- the layout of the bibliography
abbrev pub append_bibliography : Style → Context → SpecialForm → Bibliography → State → State
append_bibliography s c form b st = append_layout s c b.layout b.name_options form st

-- what is asked of it
abbrev pub bibliography_survey : Style → Context → SpecialForm → State → Bibliography → Survey
bibliography_survey s c form st b = layout_survey s c b.layout b.name_options form st

-- a text of the citation's own, which looks as its layout does
abbrev pub append_own : Style → Quotes → List ℕ → State → State
append_own s quotes cs st = record st { page = append_normal quotes (layout_manner s.citation.layout) cs st.page }

-- the dates that are asked for a year
abbrev pub year_dates : List DateVariable
year_dates = date.Issued ∷ date.EventDate ∷ date.Submitted ∷ date.OriginalDate ∷ []

-- the first of some
abbrev pub first_dated : List Date → Option Date
first_dated [] = None
first_dated (d ∷ ds) = Some d

-- the years of the first date that there is, else the term for none, else its English abbreviation
abbrev pub year_text : Context → List ℕ
year_text c = option_map_or (years_text c.locales) (first_dated (filter_map c.answers.date year_dates)) (unwrap_or (term c.locales (terms.Other others.NoDate) forms.Long false) (codes "n.d."))

-- the year by itself, in the default formatting
abbrev pub append_year : Context → State → State
append_year c st = append c (normal plain_manner (year_text c) ∷ []) st

-- the variable whose people are the authors: the editors stand for authors that are missing
abbrev pub author_variable : Context → NameVariable
author_variable c = if not (has_answer c (variables.Name name.Author)) && has_answer c (variables.Name name.Editor) then name.Editor else name.Author

-- a cite as it stands where the one before it is of another entry
abbrev pub elsewhere : Context → Context
elsewhere c = record c { properties = record c.properties { ibid = ibids.Different } }

-- a node for the authors, for which nothing is specified
abbrev pub author_node : NamesNode
author_node = record {
  variables = name.Author ∷ [];
  name = None;
  et_al = None;
  label = None;
  label_is_first = false;
  merges_editor_translator = false;
  delimiter = None;
  look = plain_look;
}

-- a node for the authors is appended as the layout of the citation would have it
abbrev pub append_made : Style → Context → SpecialForm → State → State
append_made s c form st = contents c (setting_of s (is_english c) s.citation.layout s.citation.name_options form) true (node (names author_node no_nodes) no_nodes) st

-- the authors from the layout of the bibliography, where they are admitted there, else from a node of their own
abbrev pub author_last : Style → Context → SpecialForm → Option Bibliography → State → State
author_last s c form None st = append_made s c form st
author_last s c form (Some b) st =
    let asked = bibliography_survey s c form st b in
    if asked.is_admitted then append_bibliography s c form b (noted asked.met st) else append_made s c form (noted asked.met st)

-- the authors from the layout of the citation as it stands after a cite of another entry, where they are admitted there, else from one of
-- those above
abbrev pub author_elsewhere : Style → Context → SpecialForm → State → State
author_elsewhere s c form st =
    let asked = citation_survey s (elsewhere c) form st in
    if asked.is_admitted then append_citation s (elsewhere c) form (noted asked.met st) else author_last s c form s.bibliography (noted asked.met st)

-- the authors alone; in a published style without the affixes of nodes round them
abbrev pub author_form : Style → Context → SpecialForm
author_form s c = if is_published s then authors_alone (author_variable c) else author_only (author_variable c)

-- The authors: from the layout of the citation, where they are admitted there, else from one of the others.
abbrev pub append_author : Style → Context → State → State
append_author s c st =
    let form = author_form s c in
    let asked = citation_survey s c form st in
    if asked.is_admitted then append_citation s c form (noted asked.met st) else author_elsewhere s c form (noted asked.met st)

-- whether cites of the style are made of numbers or labels
abbrev pub is_identifier : StyleCategory → Bool
is_identifier categories.Label = true
is_identifier categories.Numeric = true
is_identifier category = false

-- whether the style says so
abbrev pub prints_identifiers : Style → Bool
prints_identifiers s = list_any is_identifier s.categories

-- whether a text begins with white space
abbrev pub begins_spaced : List ℕ → Bool
begins_spaced [] = false
begins_spaced (c ∷ cs) = is_whitespace c

-- a space, but not before a text that begins with white space
abbrev pub space_before : List ℕ → State → State
space_before cs st = if begins_spaced cs then st else record st { page = append_space st.page }

-- a form of the citation between two texts, after a space
abbrev pub append_enclosed : Style → Context → SpecialForm → List ℕ → List ℕ → State → State
append_enclosed s c form prefix suffix st = append_own s c.quotes suffix (append_citation s c form (append_own s c.quotes prefix (space_before prefix st)))

-- an element that is removed if nothing is printed in it
abbrev pub in_element : Context → Frame → (State → State) → State → State
in_element c f inside st = append c (end f ∷ []) (inside (append c (begin f ∷ []) st))

-- the element round what comes after the authors: a space before it, unless nothing was printed or a text follows that begins with white space
abbrev pub spaced_frame : List ℕ → State → Frame
spaced_frame cs st = record {
  display = None;
  meta = None;
  manner = plain_manner;
  prefix = if not (begins_spaced cs) && prints 0 st.page.tokens then space ∷ [] else [];
  suffix = [];
}

-- the element round the citation in prose
abbrev pub prose_frame : Style → List ℕ → List ℕ → Frame
prose_frame s prefix suffix = record { display = None; meta = None; manner = layout_manner s.citation.layout; prefix = prefix; suffix = suffix }

-- a form of the citation between two texts, after a space; nothing where the citation prints nothing
abbrev pub append_framed : Style → Context → SpecialForm → List ℕ → List ℕ → State → State
append_framed s c form prefix suffix st = in_element c (spaced_frame prefix st) (in_element c (prose_frame s prefix suffix) (append_citation s c form)) st

-- a form of the citation between two texts
abbrev pub append_between : Style → Context → SpecialForm → List ℕ → List ℕ → State → State
append_between s c form prefix suffix st =
    if is_published s then append_framed s c form prefix suffix st else append_enclosed s c form prefix suffix st

-- the citation without the authors; in a published style nothing stands for these
abbrev pub rest_form : Style → Context → SpecialForm
rest_form s c = if is_published s then without_names (author_variable c) else without_author

-- the authors, then the citation in its affixes; where cites are no numbers or labels, without the authors and in parentheses if not in affixes
abbrev pub append_prose : Style → Context → State → State
append_prose s c st =
    if prints_identifiers s
    then append_between s c whole (unwrap_or s.citation.layout.prefix []) (unwrap_or s.citation.layout.suffix []) (append_author s c st)
    else append_between s c (rest_form s c) (unwrap_or s.citation.layout.prefix (open_parenthesis ∷ [])) (unwrap_or s.citation.layout.suffix (close_parenthesis ∷ [])) (append_author s c st)

-- What collapsing leaves of a cite: all of it; all but the authors, or in a style that is not published the first date alone; or
-- its year suffix alone.
abbrev pub form_of : Style → Context → Option CollapseVerdict → SpecialForm
form_of s c None = whole
form_of s c (Some verdicts.First) =
    if is_published s then without_names (author_variable c) else first_date_only
form_of s c (Some verdicts.YearSuffix) = suffix_only

-- a space after a first field in front; on a page that joins texts what the style says parts it from the others
abbrev pub parted_off : PageRule → List Token → List Token
parted_off rule ts = if is_joined rule then ts else with_letter_after space ts

-- the first field of an item stands in front
abbrev pub in_front : PageRule → List Token → Parted → Children
in_front rule ts None = tree_of ts
in_front rule ts (Some (e, others)) = tree_of (flat others ++ parted_off rule (flat_child (Elem e.display e.meta e.children)))

-- an item whose second field is aligned has its first field in front
abbrev pub fields_joined : Option SecondFieldAlign → Page → Children
fields_joined None p = tree_of p.tokens
fields_joined (Some align) p = in_front p.rule p.tokens (parted (tree_of p.tokens))

-- which identifiers were printed
abbrev pub usage_by : Bool → Bool → IdentifierUsage
usage_by false false = usages.None
usage_by true false = usages.OnlyCitationLabel
usage_by false true = usages.OnlyCitationNumber
usage_by true true = usages.Mixed

-- What a call gives: a tree; whether the test `disambiguate` was evaluated; what was printed of the first names by their options; which
-- identifiers were printed; and of an item its first names where a text stands for names that repeat, in a published style as they were
-- before texts met.
pub record Rendered : Type 0 where
  pub tree : Children
  pub met_disambiguate : Bool
  pub names : Option Properties
  pub usage : IdentifierUsage
  pub first_names : Option Element

-- a tree with the facts of a call
abbrev pub rendered_as : Children → State → Rendered
rendered_as tree st = record { tree = tree; met_disambiguate = st.met_disambiguate; names = st.names; usage = usage_by st.used.label st.used.number; first_names = None }

-- the state before anything was appended, on a page by the style's rule
abbrev pub begun_in : Style → State
begun_in s = record begun { page = empty_page_by s.page_rule; is_published = is_published s }

-- a page once all is appended: where its rule says so, texts are joined; punctuation goes inside quotes if there are some for that
abbrev pub completed : Quotes → Page → Page
completed quotes p = joined (is_filled quotes) p

-- the tree of what was appended, with the facts, where the second field is aligned or not
abbrev pub rendered_aligned : Quotes → Option SecondFieldAlign → State → Rendered
rendered_aligned quotes align st = rendered_as (fields_joined align (completed quotes st.page)) st

-- the tree of what was appended, with the facts
abbrev pub rendered : Quotes → State → Rendered
rendered quotes st = rendered_aligned quotes None st

-- an item that ends in no white space, nor in a text after a block, which stands in that
abbrev pub finished_item : Rendered → Rendered
finished_item r = record r { tree = trimmed_tree (text_in_block r.tree) }

-- the first names of what was appended, before its texts meet
abbrev pub names_before_meeting : State → Option Element
names_before_meeting st = names_element (tree_of st.page.tokens)

-- what is rendered with these first names
abbrev pub with_first_names : Option Element → Rendered → Rendered
with_first_names first r = record r { first_names = first }

-- what is rendered with the first names of its tree
abbrev pub with_names_of_tree : Rendered → Rendered
with_names_of_tree r = with_first_names (names_element r.tree) r

-- what is rendered of an item with its first names; in a published style it ends so, and these are those from before texts met
abbrev pub named_item : Quotes → State → Rendered
named_item quotes st =
    if st.is_published
    then with_first_names (names_before_meeting st) (finished_item (rendered quotes st))
    else with_names_of_tree (rendered quotes st)

-- what is rendered of an item without them
abbrev pub nameless_item : Quotes → State → Rendered
nameless_item quotes st =
    if st.is_published then finished_item (rendered quotes st) else rendered quotes st

-- what is rendered of an item; with its first names where a text stands for names that repeat
abbrev pub rendered_item : Quotes → Bool → State → Rendered
rendered_item quotes substitutes st =
    if substitutes then named_item quotes st else nameless_item quotes st

-- the whole item, or without a bibliography what is printed for no purpose
abbrev pub full_of : Style → Context → Option CollapseVerdict → Option Bibliography → Rendered
full_of s c verdict None =
    rendered c.quotes (append_citation s c (form_of s c verdict) (begun_in s))
full_of s c verdict (Some b) = rendered_aligned c.quotes b.second_field_align (append_bibliography s c whole b (begun_in s))

-- a cite by its purpose
abbrev pub rendered_for : Style → Context → Option CollapseVerdict → Option CitePurpose → Rendered
rendered_for s c verdict None =
    rendered c.quotes (append_citation s c (form_of s c verdict) (begun_in s))
rendered_for s c verdict (Some purposes.Author) = rendered c.quotes (append_author s c (begun_in s))
rendered_for s c verdict (Some purposes.Year) = rendered c.quotes (append_year c (begun_in s))
rendered_for s c verdict (Some purposes.Full) = full_of s c verdict s.bibliography
rendered_for s c verdict (Some purposes.Prose) = rendered c.quotes (append_prose s c (begun_in s))

-- what a call prints of a cite
abbrev pub citation : StyleContext → Answers → CiteProperties → Option (List ℕ) → Option CitePurpose → Option CollapseVerdict → Rendered
citation x answers properties term_locale purpose verdict = rendered_for x.style (context_of x term_locale false answers properties) verdict purpose

-- a layout's affixes round all that it prints
abbrev pub layout_frame : Layout → Frame
layout_frame l = record { display = None; meta = None; manner = layout_manner l; prefix = unwrap_or l.prefix []; suffix = unwrap_or l.suffix [] }

-- an item of the bibliography is appended
abbrev pub append_item : Style → Context → Bibliography → State → State
append_item s c b st = append c (end (layout_frame b.layout) ∷ []) (append_bibliography s c whole b (append c (begin (layout_frame b.layout) ∷ []) st))

-- an item of the bibliography
abbrev pub item_of : Style → Context → Bibliography → Rendered
item_of s c b = rendered_item c.quotes (is_some b.substitute) (append_item s c b (begun_in s))

-- what a call prints of an item of the bibliography, where the style has one
abbrev pub bibliography : StyleContext → Answers → CiteProperties → Option (List ℕ) → Option Rendered
bibliography x answers properties term_locale =
    option_map (λ b. item_of x.style (context_of x term_locale true answers properties) b) x.style.bibliography
