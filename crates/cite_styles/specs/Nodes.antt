-- The nodes that the styles have in common.
use Rattle.std.specs.Prelude.{ℕ, false, List, [], ◌∷◌, Option, Some, None, codes}
use Rattle.rendering_locale.specs.Locales.{DatePart}
use Rattle.rendering_style.specs.Nodes.{Look, TextLook, NameLook, NamesNode, Node, leaf, names, group, text, number, label, date, of_variable, of_term, no_nodes, nodes_of, plain_look}
use Rattle.rendering_style.specs.Options.{NameOptions, open_options}
use Rattle.rendering_taxonomy.specs.Formats.{unchanged}
use Rattle.rendering_taxonomy.specs.declared.date.DatePartForm.TheVariants as parts
use Rattle.rendering_taxonomy.specs.declared.date.DateParts.TheVariants as cuts
use Rattle.rendering_taxonomy.specs.declared.date.LongShortForm.TheVariants as lengths
use Rattle.rendering_taxonomy.specs.declared.formatting.FontStyle.TheVariants as fonts
use Rattle.rendering_taxonomy.specs.declared.name.NameAnd.TheVariants as ands
use Rattle.rendering_taxonomy.specs.declared.name.NameForm.TheVariants as name_forms
use Rattle.rendering_taxonomy.specs.declared.number.NumberForm.TheVariants as number_forms
use Rattle.rendering_taxonomy.specs.declared.number.LabelPluralize.TheVariants as plurals
use Rattle.rendering_taxonomy.specs.declared.term.OtherTerm.TheVariants as words
use Rattle.rendering_taxonomy.specs.declared.term.Term.TheVariants as terms
use Rattle.rendering_taxonomy.specs.declared.term.TermForm.TheVariants as term_forms
use Rattle.rendering_taxonomy.specs.declared.variable.DateVariable.TheVariants as dates
use Rattle.rendering_taxonomy.specs.declared.variable.NameVariable.{NameVariable}
use Rattle.rendering_taxonomy.specs.declared.variable.NameVariable.TheVariants as people
use Rattle.rendering_taxonomy.specs.declared.variable.NumberVariable.TheVariants as numbers
use Rattle.rendering_taxonomy.specs.declared.variable.StandardVariable.TheVariants as texts
use Rattle.rendering_taxonomy.specs.declared.variable.Variable.{Variable}
use Rattle.rendering_taxonomy.specs.declared.variable.Variable.TheVariants as variables

-- a text for whose look nothing is specified
abbrev pub plain_text : TextLook
plain_text = record { look = plain_look; quotes = false; strips_periods = false; text_case = None }

-- a text in italics
abbrev pub italic_text : TextLook
italic_text = record plain_text { look = record plain_look { formatting = record unchanged { font_style = Some fonts.Italic } } }

-- the answer to a variable
abbrev pub answer : Variable → TextLook → Node
answer v look = leaf (text (of_variable v lengths.Long) look)

-- a group of nodes with a text between them
abbrev pub grouped : List ℕ → List Node → Node
grouped delimiter xs = group (record { delimiter = Some delimiter; look = plain_look }) (nodes_of xs)

-- the number of the entry among those cited
abbrev pub citation_number : Look → Node
citation_number look = leaf (number (record { variable = variables.Number numbers.CitationNumber; form = number_forms.Numeric; text_case = None; look = look }))

-- the number of an item, in square brackets
unfoldable pub item_number : Node
item_number = citation_number (record plain_look { prefix = codes "["; suffix = codes "] " })

-- the title
abbrev pub title : Node
title = answer (variables.Standard texts.Title) plain_text

-- the word for a cite with the same locator
abbrev pub ibid : Node
ibid = leaf (text (of_term (terms.Other words.Ibid) term_forms.Long false) plain_text)

-- the short term for the label of the locator
abbrev pub locator_label : Node
locator_label = leaf (label (variables.Number numbers.Locator) (record { form = term_forms.Short; plural = plurals.Contextual; strips_periods = false; text_case = None; look = plain_look }))

-- the locator after its label
unfoldable pub locator : Node
locator = grouped (codes " ") (locator_label ∷ answer (variables.Number numbers.Locator) plain_text ∷ [])

-- the year of a date
abbrev pub year_part : DatePart
year_part = record { form = parts.Year lengths.Long; strips_periods = false; text_case = None; formatting = unchanged; prefix = []; suffix = []; range_delimiter = None }

-- the year in which the entry appeared
unfoldable pub year : Node
year =
    leaf (date (record {
      variable = dates.Issued;
      form = None;
      parts = cuts.YearMonthDay;
      own_parts = year_part ∷ [];
      part_changes = [];
      delimiter = None;
      text_case = None;
      merges_ranges = false;
      look = plain_look;
    }))

-- single names with these options
abbrev pub name_with : NameOptions → NameLook
name_with options = record { options = options; formatting = unchanged; prefix = []; suffix = []; given = None; family = None }

-- the people of a variable
abbrev pub people_of : NameVariable → Option NameLook → NamesNode
people_of v name = record { variables = v ∷ []; name = name; et_al = None; label = None; label_is_first = false; merges_editor_translator = false; delimiter = None; look = plain_look }

-- the editors
abbrev pub editors : Node
editors = names (people_of people.Editor None) no_nodes

-- the authors with options for their names, or else the editors with the same ones
abbrev pub authors_by : NameOptions → Node
authors_by options = names (people_of people.Author (Some (name_with options))) (nodes_of (editors ∷ []))

-- the authors with their whole names
unfoldable pub authors : Node
authors = authors_by (record open_options { and_term = Some ands.Text; form = Some name_forms.Long })

-- the family names of the authors, or of four and more that of the first
unfoldable pub short_authors : Node
short_authors = authors_by (record open_options { and_term = Some ands.Text; et_al_min = Some 4; et_al_use_first = Some 1; form = Some name_forms.Short })

-- where the entry appeared: the work that it is in, the volume, the pages, and who published it
unfoldable pub source : Node
source =
    grouped (codes ", ")
    (answer (variables.Standard texts.ContainerTitle) italic_text
    ∷ answer (variables.Number numbers.Volume) plain_text
    ∷ answer variables.Page plain_text
    ∷ answer (variables.Standard texts.Publisher) plain_text
    ∷ [])
