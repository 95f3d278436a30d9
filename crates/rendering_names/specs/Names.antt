-- How names are printed.
use Rattle.std.specs.Prelude.{ℕ, ◌+◌, ◌-◌, Bool, true, false, ◌==◌, ◌&&◌, ◌||◌, nat_le, nat_lt, List, [], ◌∷◌, ◌++◌, codes, map, length, replicate, take, drop, zip, if◌then◌else◌, is_some, Option, Some, None}
use Rattle.std.specs.List.{flat_map, enumerate_from}
use Rattle.std.specs.Option.{option_map_or, option_or, unwrap_or}
use Rattle.std.specs.Fmt.{decimal}
use Rattle.laws.specs.Characters.{space, ampersand}
use Rattle.literature_values.specs.PersonViews.{Named}
use Rattle.rendering_taxonomy.specs.Formats.{changed, unchanged}
use Rattle.rendering_tree.specs.Metas.{Answered, NameVariableOf, Name, Names}
use Rattle.rendering_locale.specs.Locales.{Locale}
use Rattle.rendering_locale.specs.Lookup.{term_text}
use Rattle.rendering_page.specs.Pages.{Manner, Frame, with_case}
use Rattle.rendering_page.specs.Pieces.{Piece, normal, framed}
use Rattle.rendering_style.specs.Options.{NameOptions, options_over, open_options}
use Rattle.rendering_style.specs.Nodes.{NameLook, EtAl, LabelLook, NamesNode}
use Rattle.rendering_people.specs.Properties.{VariableProperties, Properties, all_shown}
use Rattle.rendering_names.specs.Around.{NamesAround}
use Rattle.rendering_names.specs.NameParts.{person_pieces}
use Rattle.rendering_names.specs.Persons.{comma_and_space}
use Rattle.rendering_names.specs.Roles.{is_left_out, label_term, merging}
use Rattle.rendering_taxonomy.specs.declared.name.NameAnd.{NameAnd}
use Rattle.rendering_taxonomy.specs.declared.name.NameAnd.TheVariants as ands
use Rattle.rendering_taxonomy.specs.declared.name.DelimiterBehavior.{DelimiterBehavior}
use Rattle.rendering_taxonomy.specs.declared.name.DelimiterBehavior.TheVariants as behaviors
use Rattle.rendering_taxonomy.specs.declared.name.DisambiguatedNameForm.{DisambiguatedNameForm}
use Rattle.rendering_taxonomy.specs.declared.name.DisambiguatedNameForm.TheVariants as forms
use Rattle.rendering_taxonomy.specs.declared.name.EtAlTerm.{EtAlTerm}
use Rattle.rendering_taxonomy.specs.declared.name.EtAlTerm.TheVariants as et_al_terms
use Rattle.rendering_taxonomy.specs.declared.name.NameAsSortOrder.{NameAsSortOrder}
use Rattle.rendering_taxonomy.specs.declared.name.NameAsSortOrder.TheVariants as orders
use Rattle.rendering_taxonomy.specs.declared.name.NameForm.{NameForm}
use Rattle.rendering_taxonomy.specs.declared.name.NameForm.TheVariants as name_forms
use Rattle.rendering_taxonomy.specs.declared.number.LabelPluralize.{LabelPluralize}
use Rattle.rendering_taxonomy.specs.declared.number.LabelPluralize.TheVariants as plurals
use Rattle.rendering_taxonomy.specs.declared.term.OtherTerm.{OtherTerm}
use Rattle.rendering_taxonomy.specs.declared.term.OtherTerm.TheVariants as others
use Rattle.rendering_taxonomy.specs.declared.term.Term.{Term}
use Rattle.rendering_taxonomy.specs.declared.term.Term.TheVariants as terms
use Rattle.rendering_taxonomy.specs.declared.term.TermForm.TheVariants as term_forms
use Rattle.rendering_taxonomy.specs.declared.text_case.TextCase.{TextCase}
use Rattle.rendering_taxonomy.specs.declared.text_case.TextCase.TheVariants as text_cases
use Rattle.rendering_taxonomy.specs.declared.variable.NameVariable.{NameVariable}
use Rattle.rendering_taxonomy.specs.declared.variable.Variable.TheVariants as variables

-- the form of names by their options
abbrev pub form_by : NameForm → Bool → DisambiguatedNameForm
form_by name_forms.Count has_initials = forms.Count
form_by name_forms.Short true = forms.ShortInitialized
form_by name_forms.Short false = forms.ShortFull
form_by name_forms.Long true = forms.LongInitialized
form_by name_forms.Long false = forms.LongFull

-- the form that the options say
abbrev pub base_form : NameOptions → DisambiguatedNameForm
base_form o = form_by (unwrap_or o.form name_forms.Long) (is_some o.initialize_with)

-- how many of n are shown: so many as the options say from so many on, where that is fewer, else all
abbrev pub shown_by : Option ℕ → Option ℕ → ℕ → ℕ
shown_by (Some least) (Some first) n = if nat_le least n && nat_lt first n then first else n
shown_by least first n = n

-- in subsequent cites their own options count, or else those of the first
abbrev pub shown_of : NameOptions → Bool → ℕ → ℕ
shown_of o true n = shown_by o.et_al_min o.et_al_use_first n
shown_of o false n =
    shown_by (option_or o.et_al_subsequent_min o.et_al_min)
    (option_or o.et_al_subsequent_use_first o.et_al_use_first) n

-- what is printed of people by the options
abbrev pub own_properties : NameOptions → Bool → Answered → VariableProperties
own_properties o is_first a = record {
  variable = a.1;
  forms = replicate (length a.0) (base_form o);
  shown = shown_of o is_first (length a.0);
}

-- what is printed of the people of each variable by the options
abbrev pub properties_by : NameOptions → Bool → List Answered → Properties
properties_by o is_first people = map (own_properties o is_first) people

-- what stands between names
abbrev pub delimiter_by : NameOptions → List ℕ
delimiter_by o = unwrap_or o.delimiter comma_and_space

-- whether the name at an index is inverted
abbrev pub inverts : Option NameAsSortOrder → ℕ → Bool
inverts None i = false
inverts (Some orders.All) i = true
inverts (Some orders.First) i = i == 0

-- the sign or the word before the last name; a word that the locale lacks is none
abbrev pub and_text : List Locale → Option NameAnd → List ℕ
and_text ls None = []
and_text ls (Some ands.Symbol) = ampersand ∷ []
and_text ls (Some ands.Text) = term_text ls (terms.Other others.And) term_forms.Long false

-- whether the delimiter stands before the last of n names, where a word does
abbrev pub delimits_last : NameOptions → ℕ → DelimiterBehavior → Bool
delimits_last o n behaviors.Contextual = nat_le 3 n
delimits_last o n behaviors.Always = true
delimits_last o n behaviors.Never = false
delimits_last o n behaviors.AfterInvertedName = inverts o.name_as_sort_order (n - 2)

-- the delimiter or a space, the word, a space; without a word the delimiter
abbrev pub before_last_by : Manner → NameOptions → ℕ → List ℕ → List Piece
before_last_by m o n [] = normal m (delimiter_by o) ∷ []
before_last_by m o n (c ∷ cs) =
    let is_delimited =
    delimits_last o n (unwrap_or o.delimiter_precedes_last behaviors.Contextual) in
    normal m (if is_delimited then delimiter_by o else space ∷ [])
    ∷ normal m (c ∷ cs) ∷ normal m (space ∷ []) ∷ []

-- what stands before the name at an index among n: nothing before the first; before the last, if it is not the first, the word; the
-- delimiter before others
abbrev pub before_name : List Locale → Manner → NameOptions → ℕ → ℕ → List Piece
before_name ls m o n i =
    if i == 0 then []
    else (if i + 1 == n
    then before_last_by m o n (and_text ls o.and_term)
    else normal m (delimiter_by o) ∷ [])

-- How names are appended: the locales, the manner of the node, the look of single names, and the options.
pub record NameStyle : Type 0 where
  pub locales : List Locale
  pub manner : Manner
  pub look : NameLook
  pub et_al : EtAl
  pub options : NameOptions

-- how single names are appended
abbrev pub name_manner : NameStyle → Manner
name_manner s = record s.manner { formatting = changed s.look.formatting s.manner.formatting }

-- how the term for those left out is appended
abbrev pub et_al_manner : NameStyle → Manner
et_al_manner s = record s.manner { formatting = changed s.et_al.formatting s.manner.formatting }

-- the affixes of a single name
abbrev pub name_frame : NameStyle → Frame
name_frame s = record {
  display = None;
  meta = None;
  manner = s.manner;
  prefix = s.look.prefix;
  suffix = s.look.suffix;
}

-- a single name, in its own look and its affixes in that of the node, as the person at an index
abbrev pub name_pieces : NameStyle → NameVariable → ℕ → DisambiguatedNameForm → Named → List Piece
name_pieces s v i f p =
    framed (record (name_frame s) { meta = Some (Name v i) })
    (person_pieces (name_manner s) s.look s.options (inverts s.options.name_as_sort_order i) f p)

-- a person of a variable with a form, under its index
abbrev pub IndexedPerson : Type 0
IndexedPerson = ℕ × (DisambiguatedNameForm × Named)

-- the person at an index
abbrev pub indexed_pieces : NameStyle → NameVariable → IndexedPerson → List Piece
indexed_pieces s v p = name_pieces s v p.0 (p.1).0 (p.1).1

-- people of a variable that has n, each after what stands before it
abbrev pub shown_pieces : NameStyle → NameVariable → ℕ → List IndexedPerson → List Piece
shown_pieces s v n ps =
    flat_map (λ p. before_name s.locales s.manner s.options n p.0 ++ indexed_pieces s v p) ps

-- the last of n people
abbrev pub last_pieces : NameStyle → NameVariable → ℕ → List IndexedPerson → List Piece
last_pieces s v n ps = flat_map (indexed_pieces s v) (drop (n - 1) ps)

-- the term by its name
abbrev pub et_al_term : EtAlTerm → OtherTerm
et_al_term et_al_terms.EtAl = others.EtAl
et_al_term et_al_terms.AndOthers = others.AndOthers

-- whether the delimiter stands before the term for those left out, where so many are shown
abbrev pub delimits_et_al : NameOptions → ℕ → DelimiterBehavior → Bool
delimits_et_al o shown behaviors.Contextual = nat_le 2 shown
delimits_et_al o shown behaviors.Always = true
delimits_et_al o shown behaviors.Never = false
delimits_et_al o shown behaviors.AfterInvertedName =
    nat_lt 0 shown && inverts o.name_as_sort_order (shown - 1)

-- The term for those left out, after the delimiter or a space. Without a term there is neither.
abbrev pub et_al_by : NameStyle → ℕ → List ℕ → List Piece
et_al_by s shown [] = []
et_al_by s shown (c ∷ cs) =
    let behavior = unwrap_or s.options.delimiter_precedes_et_al behaviors.Contextual in
    let is_delimited = delimits_et_al s.options shown behavior in
    normal s.manner (if is_delimited then delimiter_by s.options else space ∷ [])
    ∷ normal (et_al_manner s) (c ∷ cs) ∷ []

-- what stands for those left out
abbrev pub et_al_pieces : NameStyle → ℕ → List Piece
et_al_pieces s shown =
    et_al_by s shown
    (term_text s.locales (terms.Other (et_al_term s.et_al.name)) term_forms.Long false)

-- the text before the last of many names, where that is shown
abbrev pub ellipsis : List ℕ
ellipsis = codes "…"

-- a name after the delimiter, an ellipsis and a space
abbrev pub after_ellipsis : NameStyle → List Piece → List Piece
after_ellipsis s ps =
    normal s.manner (delimiter_by s.options) ∷ normal s.manner ellipsis
    ∷ normal s.manner (space ∷ []) ∷ ps

-- After the shown names, where there are more: the last one, after an ellipsis, where it is wanted and two or more are left out;
-- else the term for them.
abbrev pub rest_pieces : NameStyle → NameVariable → ℕ → ℕ → List IndexedPerson → List Piece
rest_pieces s v n shown ps =
    if nat_le n shown then []
    else (if unwrap_or s.options.et_al_use_last false && nat_le 2 (n - shown)
    then after_ellipsis s (last_pieces s v n ps)
    else et_al_pieces s shown)

-- the first of the people, so many, and what stands for the rest
abbrev pub list_pieces : NameStyle → NameVariable → ℕ → List IndexedPerson → List Piece
list_pieces s v shown ps =
    shown_pieces s v (length ps) (take shown ps) ++ rest_pieces s v (length ps) shown ps

-- whether a label stands in the plural, where its value does or not
abbrev pub pluralizes : LabelPluralize → Bool → Bool
pluralizes plurals.Contextual plural = plural
pluralizes plurals.Always plural = true
pluralizes plurals.Never plural = false

-- how a label's text is appended: in its own look over that around it, and in its own case, where none is handed down
abbrev pub label_manner : Manner → LabelLook → Manner
label_manner m l = with_case l.text_case (record m {
  formatting = changed l.look.formatting m.formatting;
  strips_periods = m.strips_periods || l.strips_periods;
})

-- the affixes of a label
abbrev pub label_frame : Manner → LabelLook → Frame
label_frame m l = record {
  display = None;
  meta = None;
  manner = m;
  prefix = l.look.prefix;
  suffix = l.look.suffix;
}

-- a label by its term, in its affixes
abbrev pub label_text_pieces : Manner → LabelLook → List ℕ → List Piece
label_text_pieces m l text = framed (label_frame m l) (normal (label_manner m l) text ∷ [])

-- the label of so many people by its term
abbrev pub label_pieces : List Locale → Manner → Term → ℕ → Option LabelLook → List Piece
label_pieces ls m t n None = []
label_pieces ls m t n (Some l) =
    label_text_pieces m l (term_text ls t l.form (pluralizes l.plural (nat_lt 1 n)))

-- a label before or after what it belongs to
abbrev pub beside : Bool → List Piece → List Piece → List Piece
beside true label ps = label ++ ps
beside false label ps = ps ++ label

-- an element that says only what it stands for
abbrev pub variable_frame : Manner → NameVariable → Frame
variable_frame m v = record {
  display = None;
  meta = Some (NameVariableOf v);
  manner = m;
  prefix = [];
  suffix = [];
}

-- the people of a variable, by what is to be printed of them
abbrev pub variable_pieces : NameStyle → NamesNode → VariableProperties × Answered → List Piece
variable_pieces s h (p, a) =
    framed (variable_frame s.manner a.1)
    (beside h.label_is_first
    (label_pieces s.locales s.manner (label_term h a.1) (length a.0) h.label)
    (list_pieces s a.1 p.shown (enumerate_from 0 (zip p.forms a.0))))

-- the look of single names where nothing is specified for them
abbrev pub no_look : NameLook
no_look = record {
  options = open_options;
  formatting = unchanged;
  prefix = [];
  suffix = [];
  given = None;
  family = None;
}

-- the term for others where nothing is specified for it
abbrev pub plain_et_al : EtAl
plain_et_al = record { name = et_al_terms.EtAl; formatting = unchanged }

-- the options of a names node over those around it
abbrev pub own_over : NamesNode → NameOptions → NameOptions
own_over h around = option_map_or (λ n. options_over n.options around) h.name around

-- the same, and over them what overrides what the node says
abbrev pub node_options : NamesNode → NamesAround → NameOptions
node_options h around = options_over around.overriding (own_over h around.options)

-- how the names of a node are appended
abbrev pub style_of : List Locale → Manner → NamesNode → NamesAround → NameStyle
style_of ls m h around = record {
  locales = ls;
  manner = m;
  look = unwrap_or h.name no_look;
  et_al = unwrap_or h.et_al plain_et_al;
  options = node_options h around;
}

-- whether only the number is printed
abbrev pub is_count : Option NameForm → Bool
is_count (Some name_forms.Count) = true
is_count f = false

-- what stands between the people of two variables: what the node says, or else the options
abbrev pub people_delimiter : NameOptions → NamesNode → List ℕ
people_delimiter o h = unwrap_or (option_or h.delimiter o.names_delimiter) comma_and_space

-- what stands before the people of the variable at an index: the delimiter, but before the first nothing
abbrev pub before_people : Manner → NameOptions → NamesNode → ℕ → List Piece
before_people m o h i = if i == 0 then [] else normal m (people_delimiter o h) ∷ []

-- the people of the variable at an index, after what stands before them, unless people before it
-- are printed who are the same in their other role
abbrev pub next_variable : NameStyle → NamesNode → List Answered → ℕ →
    VariableProperties × Answered → List Piece
next_variable s h before i p =
    if is_left_out h before (p.1).1
    then []
    else before_people s.manner s.options h i ++ variable_pieces s h p

-- the same, among all
abbrev pub indexed_variable : NameStyle → NamesNode → List Answered →
    ℕ × (VariableProperties × Answered) → List Piece
indexed_variable s h people p = next_variable s h (take p.0 people) p.0 p.1

-- the people of each variable, or only how many are shown
abbrev pub people_pieces : NameStyle → NamesNode → Properties → List Answered → List Piece
people_pieces s h ps people =
    if is_count s.options.form
    then normal s.manner (decimal (all_shown ps)) ∷ []
    else flat_map (indexed_variable s h people) (enumerate_from 0 (zip ps people))

-- the element of a names node
abbrev pub names_frame : Manner → NamesNode → List Answered → Frame
names_frame m h people = record {
  display = h.look.display;
  meta = Some (Names people);
  manner = m;
  prefix = h.look.prefix;
  suffix = h.look.suffix;
}

-- what a names node hands down, to its people or to their substitute
abbrev pub names_manner : Manner → NamesNode → Manner
names_manner m h = record m { formatting = changed h.look.formatting m.formatting }

-- a case of all letters; the others, which are of a text as a whole, are none of its words
abbrev pub every_letter : Option TextCase → Option TextCase
every_letter (Some text_cases.Lowercase) = Some text_cases.Lowercase
every_letter (Some text_cases.Uppercase) = Some text_cases.Uppercase
every_letter case = None

-- how people are appended: in a case that is handed down, where it is one of all letters
abbrev pub people_manner : Manner → NamesNode → Manner
people_manner m h = record (names_manner m h) { text_case = every_letter m.text_case }

-- a names node with its people, by what is to be printed of them
abbrev pub names_pieces : List Locale → Manner → NamesNode → NamesAround → Properties →
    List Answered → List Piece
names_pieces ls m h around ps people =
    framed (names_frame m h people)
    (people_pieces (style_of ls (people_manner m h) h around) (merging h people) ps people)

-- a names node without its affixes
abbrev pub without_affixes : NamesNode → NamesNode
without_affixes h = record h { look = record h.look { prefix = []; suffix = [] } }

-- What a names node says of names where it is a substitute for another: without a name and without a term for others it takes those of that
-- node, and its label with the label's position, if it has none itself.
abbrev pub completed : NamesNode → NamesNode → NamesNode
completed outer h = if is_some h.name || is_some h.et_al then h else record h {
  name = outer.name;
  et_al = outer.et_al;
  label = option_or h.label outer.label;
  label_is_first = if is_some h.label then h.label_is_first else outer.label_is_first;
}
