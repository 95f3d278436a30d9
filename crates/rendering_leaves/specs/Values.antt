-- What text, number, label and date nodes append.
use Rattle.std.specs.Prelude.{ℕ, Bool, true, false, not, ◌&&◌, ◌||◌, List, [], ◌∷◌, ◌++◌, map, if◌then◌else◌, Option, Some, None}
use Rattle.std.specs.Char.{is_whitespace}
use Rattle.std.specs.List.{list_any}
use Rattle.std.specs.Option.{option_and_then, option_map_or, unwrap_or}
use Rattle.laws.specs.Text.{is_filled}
use Rattle.rendering_taxonomy.specs.Formats.{changed}
use Rattle.rendering_taxonomy.specs.Variables.{is_variable}
use Rattle.rendering_tree.specs.Metas as metas
use Rattle.rendering_tree.specs.Metas.{Meta}
use Rattle.rendering_locale.specs.Locales.{DatePart, Locale, LocalizedDate}
use Rattle.rendering_locale.specs.Lookup.{term_text, quote_text, ordinals_of, date_found}
use Rattle.literature_numbers.specs.Pages.{Part}
use Rattle.literature_values.specs.TypedViews.{ValueOrText, Value, Text}
use Rattle.rendering_ranges.specs.Delimited.{delimited}
use Rattle.rendering_ranges.specs.Lettered.{lettered}
use Rattle.rendering_ranges.specs.Ranges.{pages_in}
use Rattle.literature_values.specs.declared.date.Date.{Date}
use Rattle.rendering_dates.specs.Changes.{changed_part}
use Rattle.rendering_dates.specs.Dates.{DateShape, cut_to, date_pieces}
use Rattle.rendering_page.specs.Pages.{Manner, uncased, with_case, Frame}
use Rattle.rendering_page.specs.Pieces.{Piece, normal, close_quote, linked, own_locator, framed, chunk_pieces}
use Rattle.rendering_style.specs.Nodes.{Look, TextSource, of_variable, of_term, of_value, TextLook, NumberNode, LabelLook, DateNode, Leaf}
use Rattle.rendering_style.specs.Nodes as nodes
use Rattle.rendering_names.specs.Names.{pluralizes, label_manner}
use Rattle.rendering_context.specs.Contexts.{Context}
use Rattle.rendering_leaves.specs.NodeSettings.{SpecialForm, suffix_only, NodeSetting, State, append, with_printed}
use Rattle.rendering_leaves.specs.Links.{before_link, linked_answer, look_before}
use Rattle.rendering_leaves.specs.Quoted.{are_inner, requoted}
pub use Rattle.rendering_leaves.specs.Quoted.{close_term, open_term}
use Rattle.rendering_leaves.specs.Words.{number_in}
use Rattle.rendering_context.specs.Answering.{Answer, no_answer, pieces, address, count, ranges, own, answer_to, text_answer_to, asked_for, date_answer, is_plural_variable}
use Rattle.rendering_taxonomy.specs.declared.date.DatePartForm.{DatePartForm}
use Rattle.rendering_taxonomy.specs.declared.date.DatePartForm.TheVariants as parts
use Rattle.rendering_taxonomy.specs.declared.date.LongShortForm.TheVariants as lengths
use Rattle.rendering_taxonomy.specs.declared.number.NumberForm.{NumberForm}
use Rattle.rendering_taxonomy.specs.declared.number.NumberForm.TheVariants as number_forms
use Rattle.rendering_taxonomy.specs.declared.page.PageRangeFormat.{PageRangeFormat}
use Rattle.rendering_taxonomy.specs.declared.term.OtherTerm.TheVariants as others
use Rattle.rendering_taxonomy.specs.declared.term.Term.{Term}
use Rattle.rendering_taxonomy.specs.declared.term.Term.TheVariants as terms
use Rattle.rendering_taxonomy.specs.declared.term.TermForm.TheVariants as term_forms
use Rattle.rendering_taxonomy.specs.declared.variable.NumberVariable.TheVariants as number
use Rattle.rendering_taxonomy.specs.declared.variable.StandardVariable.TheVariants as standard
use Rattle.rendering_taxonomy.specs.declared.variable.Variable.{Variable}
use Rattle.rendering_taxonomy.specs.declared.variable.Variable.TheVariants as variables

-- a node's look inside what is around it
abbrev pub look_manner : Manner → Look → Manner
look_manner m l = record m { formatting = changed l.formatting m.formatting }

-- a text node's look and case inside what is around it; its full stops may be left out
abbrev pub text_manner : Manner → TextLook → Manner
text_manner m t =
    with_case t.text_case (record (look_manner m t.look) { strips_periods = m.strips_periods || t.strips_periods })

-- a number node's look and case inside what is around it
abbrev pub number_manner : Manner → NumberNode → Manner
number_manner m n = with_case n.text_case (look_manner m n.look)

-- a date node's look and case inside what is around it
abbrev pub date_manner : Manner → DateNode → Manner
date_manner m d = with_case d.text_case (look_manner m d.look)

-- an element with a node's display and affixes, which look as what is around the node
abbrev pub frame : Manner → Option Meta → Look → Frame
frame m meta l = record { display = l.display; meta = meta; manner = m; prefix = l.prefix; suffix = l.suffix }

-- what a node appends before what it prints, where it stands in quotes
abbrev pub quote_before : Context → Manner → Bool → Bool → List Piece
quote_before c m false inside = []
quote_before c m true inside = normal m (quote_text c.locales (terms.Other (open_term inside))) ∷ []

-- what a node appends after what it prints, where it stands in quotes
abbrev pub quote_after : Context → Manner → Bool → Bool → List Piece
quote_after c m false inside = []
quote_after c m true inside = close_quote m (quote_text c.locales (terms.Other (close_term inside))) ∷ []

-- an element that says only what it stands for
abbrev pub meaning : Manner → Meta → List Piece → List Piece
meaning m meta ps = framed (record { display = None; meta = Some meta; manner = m; prefix = []; suffix = [] }) ps

-- pages in a format, where there is one, or a text instead of them, which a published style prints in the format too
abbrev pub ranges_in : Option PageRangeFormat → Bool → ValueOrText (List Part) → List ℕ
ranges_in format is_published (Value ps) = pages_in format ps
ranges_in format is_published (Text cs) = if is_published then lettered format cs else cs

-- the text that locales have for ranges of pages
abbrev pub page_delimiter : List Locale → List ℕ
page_delimiter ls =
    term_text ls (terms.Other others.PageRangeDelimiter) term_forms.Long false

-- pages as the style shortens them, in a published one with the text of locales in their ranges
abbrev pub printed_pages : List Locale → Option PageRangeFormat → Bool →
    ValueOrText (List Part) → List ℕ
printed_pages ls format is_published ps =
    let printed = ranges_in format is_published ps in
    if is_published then delimited (page_delimiter ls) printed else printed

-- an answer, with numbers in a form, and pages as the style prints them
abbrev pub answer_pieces : Context → Manner → NumberForm → Answer → List Piece
answer_pieces c m form no_answer = []
answer_pieces c m form (pieces cs) = chunk_pieces m cs
answer_pieces c m form (address cs url) = linked m.formatting cs url ∷ []
answer_pieces c m form (count n) =
    normal m (number_in c.is_published (ordinals_of c.locales) form n) ∷ []
answer_pieces c m form (ranges ps) = normal m (printed_pages c.locales c.page_ranges c.is_published ps) ∷ []
answer_pieces c m form own = own_locator m.formatting c.properties.initial_idx ∷ []

-- what one of the two variables that identify entries answers stands in an element of its own
abbrev pub identified : Manner → Variable → List Piece → List Piece
identified m (variables.Number number.CitationNumber) ps = meaning m metas.CitationNumber ps
identified m (variables.Standard standard.CitationLabel) ps = meaning m metas.CitationLabel ps
identified m v ps = ps

-- whether a variable is the label of entries
abbrev pub is_label_variable : Variable → Bool
is_label_variable v = is_variable v (variables.Standard standard.CitationLabel)

-- whether it is the number of entries
abbrev pub is_number_variable : Variable → Bool
is_number_variable v = is_variable v (variables.Number number.CitationNumber)

-- the year suffix, unless a layout prints it by itself
abbrev pub own_year_suffix : Context → List ℕ
own_year_suffix c = if c.has_suffix_node then [] else c.year_suffix

-- what stands after a label: the year suffix, by the same rule
abbrev pub label_suffix : Context → Manner → Variable → List Piece
label_suffix c m v = if is_label_variable v then normal m (own_year_suffix c) ∷ [] else []

-- what is answered to a text node of a variable
abbrev pub source_answer : Context → Bool → List Variable → TextSource → Answer
source_answer c inner suppressed (of_variable v form) = requoted c inner (text_answer_to c suppressed form v)
source_answer c inner suppressed source = no_answer

-- what a text node prints of that, without its quotes
abbrev pub source_pieces : Context → Manner → TextSource → Answer → List Piece
source_pieces c m (of_variable v form) answer = identified m v (answer_pieces c m number_forms.Numeric answer) ++ label_suffix c m v
source_pieces c m (of_term name form plural) _ = normal m (term_text c.locales name form plural) ∷ []
source_pieces c m (of_value cs) _ = normal m cs ∷ []

-- a text node with an answer, in its element, where so much of its prefix stands before a link
abbrev pub text_pieces_by : Context → NodeSetting → TextSource → TextLook → Option (List ℕ) → Answer → List Piece
text_pieces_by c s source look before answer =
    framed (frame s.manner (Some metas.Text) (look_before before look.look))
    (quote_before c (text_manner s.manner look) look.quotes s.inside_quotes
    ++ source_pieces c (text_manner s.manner look) source (linked_answer before answer)
    ++ quote_after c (text_manner s.manner look) look.quotes s.inside_quotes)

-- what a text node prints
abbrev pub text_pieces : Context → NodeSetting → List Variable → TextSource → TextLook → List Piece
text_pieces c s suppressed source look =
    let answer = source_answer c (are_inner look.quotes s.inside_quotes) suppressed source in
    text_pieces_by c s source look (before_link c.is_published look answer) answer

-- what a number node prints
abbrev pub number_pieces : Context → NodeSetting → List Variable → NumberNode → List Piece
number_pieces c s suppressed n =
    framed (frame s.manner (Some metas.Number) n.look)
    (identified (number_manner s.manner n) n.variable
    (answer_pieces c (number_manner s.manner n) n.form (answer_to c suppressed lengths.Long n.variable)))

-- the term of a variable; of a locator that of what it counts
abbrev pub label_term : Context → Variable → Term
label_term c (variables.Number number.Locator) = option_map_or (λ l. terms.Locator l.label) c.properties.locator (terms.Variable (variables.Number number.Locator))
label_term c v = terms.Variable v

-- what a label prints
abbrev pub label_pieces : Context → NodeSetting → Variable → LabelLook → List Piece
label_pieces c s v l =
    framed (frame s.manner (Some metas.Label) l.look)
    (normal (label_manner s.manner l) (term_text c.locales (label_term c v) l.form (pluralizes l.plural (is_plural_variable c v))) ∷ [])

-- the locale's date of a node's form
abbrev pub localized : Context → DateNode → Option LocalizedDate
localized c d = option_and_then (date_found c.locales) d.form

-- some parts, or else others
abbrev pub own_or : List DatePart → List DatePart → List DatePart
own_or [] others = others
own_or (p ∷ ps) others = p ∷ ps

-- the parts of a date: a node's own, or else those of the locale for its form
abbrev pub parts_of : Context → DateNode → List DatePart
parts_of c d = own_or d.own_parts (option_map_or (λ l. l.parts) (localized c d) [])

-- these with what is changed of them, and what stands between them
abbrev pub shape_of : Context → DateNode → DateShape
shape_of c d = record {
  parts = map (changed_part d.part_changes) (parts_of c d);
  delimiter = unwrap_or d.delimiter (option_map_or (λ l. l.delimiter) (localized c d) []);
  merges_ranges = d.merges_ranges;
}

-- what a date prints: the year suffix alone, as it is, where it is all that is wanted, else its parts
abbrev pub date_inside : Context → Manner → SpecialForm → DateNode → List ℕ → Date → List Piece
date_inside c m suffix_only d year_suffix day = normal (uncased m) year_suffix ∷ []
date_inside c m form d year_suffix day = date_pieces c.locales m (cut_to d.parts (shape_of c d)) year_suffix day

-- a date whose year suffix alone is printed has no affixes
abbrev pub date_frame : NodeSetting → SpecialForm → DateNode → Frame
date_frame s suffix_only d = record (frame s.manner (Some metas.Date) d.look) { prefix = []; suffix = [] }
date_frame s form d = frame s.manner (Some metas.Date) d.look

-- whether a part is the year
abbrev pub is_year : DatePartForm → Bool
is_year (parts.Year form) = true
is_year form = false

-- whether a date node prints years; so much of a date always has the year
abbrev pub prints_year : Context → DateNode → Bool
prints_year c d = list_any (λ p. is_year p.form) (parts_of c d)

-- whether a date is no first one: in a published style a date without a year
abbrev pub is_passed_over : Context → DateNode → State → Bool
is_passed_over c d st = st.is_published && not (prints_year c d)

-- the year suffix stands after the year of the first date alone
abbrev pub date_suffix : Context → Bool → List ℕ
date_suffix c has_date = if has_date then [] else own_year_suffix c

-- what a date node prints, if it has an answer
abbrev pub day_pieces : Context → NodeSetting → Bool → DateNode → Option Date → List Piece
day_pieces c s has_date d None = []
day_pieces c s has_date d (Some day) = framed (date_frame s s.form d) (date_inside c (date_manner s.manner d) s.form d (date_suffix c has_date) day)

-- the state in which a variable that a substitute prints is not printed again
abbrev pub suppressing : NodeSetting → Variable → State → State
suppressing s v st = if s.in_substitute then with_printed v st else st

-- the state once a variable was printed, by which it is known which identifiers cites printed
abbrev pub using : Context → Variable → State → State
using c v st =
    if c.is_bibliography then st
    else record st { used = record { label = st.used.label || is_label_variable v; number = st.used.number || is_number_variable v } }

-- after a node of a variable
abbrev pub after_variable : Context → NodeSetting → Variable → State → State
after_variable c s v st = using c v (if is_variable v (asked_for c v) then suppressing s v st else st)

-- whether a text is white space alone, and some
abbrev pub is_blank : List ℕ → Bool
is_blank cs = is_filled cs && not (list_any (λ c. not (is_whitespace c)) cs)

-- a text of white space alone, with the affixes of its node, in no element: an element would print nothing
abbrev pub blank_pieces : NodeSetting → TextLook → List ℕ → List Piece
blank_pieces s look cs =
    normal (uncased s.manner) look.look.prefix
    ∷ normal (text_manner s.manner look) cs
    ∷ normal (uncased s.manner) look.look.suffix
    ∷ []

-- what a text node of the style's own text prints: in a published style white space alone too
abbrev pub value_pieces : Context → NodeSetting → TextLook → List ℕ → List Piece
value_pieces c s look cs =
    if c.is_published && is_blank cs
    then blank_pieces s look cs
    else text_pieces c s [] (of_value cs) look

-- a text node is appended
abbrev pub append_text_node : Context → NodeSetting → TextSource → TextLook → State → State
append_text_node c s (of_variable v form) look st = after_variable c s v (append c (text_pieces c s st.suppressed (of_variable v form) look) st)
append_text_node c s (of_value cs) look st = append c (value_pieces c s look cs) st
append_text_node c s source look st = append c (text_pieces c s st.suppressed source look) st

-- a node that holds no others is appended
abbrev pub append_leaf : Context → NodeSetting → Leaf → State → State
append_leaf c s (nodes.text source look) st = append_text_node c s source look st
append_leaf c s (nodes.number n) st = after_variable c s n.variable (append c (number_pieces c s st.suppressed n) st)
append_leaf c s (nodes.label v look) st = append c (label_pieces c s v look) st
append_leaf c s (nodes.date d) st =
    record (suppressing s (variables.Date d.variable) (append c (day_pieces c s (is_passed_over c d st || st.has_date) d (date_answer c st.suppressed d.variable)) st))
    { has_date = not (is_passed_over c d st) || st.has_date }
