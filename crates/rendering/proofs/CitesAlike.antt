-- Cites and items of entries that answer alike are one.
use Rattle.std.proofs.Common.{◌≡◌, ℕ, Bool, true, false, not, ◌&&◌, List, [], ◌∷◌, length, is_some, refl, ap, ◌∙◌, Option, Some, None, Contains, arith}
use Rattle.std.specs.Prelude.{if◌then◌else◌, filter_map, codes}
use Rattle.std.specs.List.{cons_option}
use Rattle.std.specs.Option.{option_map, option_map_or, unwrap_or}
use Rattle.laws.specs.Characters.{open_parenthesis, close_parenthesis}
use Rattle.literature_values.specs.declared.date.Date.{Date}
use Rattle.rendering_locale.specs.Lookup.{term}
use Rattle.rendering_dates.specs.Dates.{years_text}
use Rattle.rendering_page.specs.Pieces.{normal, begin, end}
use Rattle.rendering_page.specs.PageCharacters.{plain_manner}
use Rattle.rendering_entries.specs.Answers.{Answers}
use Rattle.rendering_style.specs.Options.{NameOptions}
use Rattle.rendering_style.specs.Nodes.{names, no_nodes, node}
use Rattle.rendering_style.specs.Styles.{Layout, Bibliography, Style}
use Rattle.rendering_context.specs.Contexts.{Context}
use Rattle.rendering_leaves.specs.NodeSettings.{SpecialForm, whole, author_only, without_author, first_date_only, authors_alone, without_names, State, append, noted}
use Rattle.rendering_context.specs.Answering.{is_english}
use Rattle.rendering_nodes.specs.Content.{contents, stage}
use Rattle.rendering_nodes.specs.Named.{Named, AreAlike, joined_named, variable_named, always_named, named}
use Rattle.rendering_nodes.specs.Laws.{with_answers}
use Rattle.rendering_nodes.proofs.AnswersAlike.{AlikeAt, AlikeIn, alike_in, first_alike, others_alike, has_same}
use Rattle.rendering_nodes.proofs.EntriesAlike.{labels_alike, surveys_same, contents_same}
use Rattle.rendering.specs.Purposes.{layout_nodes, context_of, setting_of, append_layout, layout_survey, append_citation, citation_survey, append_own, year_dates, first_dated, append_year, author_variable, elsewhere, author_node, append_made, author_last, author_elsewhere, append_author, is_published, author_form, rest_form, prints_identifiers, space_before, append_enclosed, spaced_frame, prose_frame, append_framed, append_between, append_prose, form_of, begun_in, rendered_aligned, rendered, rendered_item, full_of, rendered_for, layout_frame, item_of}
use Rattle.rendering.specs.Alike.{named_in_bibliography, layouts_named, style_named, AlikeCitesAreOne, AlikeItemsAreOne}
use Rattle.rendering_taxonomy.specs.declared.cite.CitePurpose.{CitePurpose}
use Rattle.rendering_taxonomy.specs.declared.cite.CitePurpose.TheVariants as purposes
use Rattle.rendering_taxonomy.specs.declared.cite.CollapseVerdict.{CollapseVerdict}
use Rattle.rendering_taxonomy.specs.declared.cite.CollapseVerdict.TheVariants as verdicts
use Rattle.rendering_taxonomy.specs.declared.term.OtherTerm.TheVariants as others
use Rattle.rendering_taxonomy.specs.declared.term.Term.TheVariants as terms
use Rattle.rendering_taxonomy.specs.declared.term.TermForm.TheVariants as forms
use Rattle.rendering_taxonomy.specs.declared.variable.DateVariable.TheVariants as date
use Rattle.rendering_taxonomy.specs.declared.variable.NameVariable.TheVariants as name
use Rattle.rendering_taxonomy.specs.declared.variable.StandardVariable.TheVariants as standard
use Rattle.rendering_taxonomy.specs.declared.variable.Variable.{Variable}
use Rattle.rendering_taxonomy.specs.declared.variable.Variable.TheVariants as variables

-- what every style names, at its index
nine_named : length always_named.variables ≡ 9
nine_named = refl

named_at : {w : Bool} (a b : Answers) (v : Variable) → AlikeIn w always_named a b → Contains always_named.variables v → AlikeAt w a b v
named_at a b v h k = h.variables v k

author_alike : {w : Bool} (a b : Answers) → AlikeIn w always_named a b → AlikeAt w a b (variables.Name name.Author)
author_alike a b h = named_at a b (variables.Name name.Author) h (0, omega (arith, nine_named), refl)

editor_alike : {w : Bool} (a b : Answers) → AlikeIn w always_named a b → AlikeAt w a b (variables.Name name.Editor)
editor_alike a b h = named_at a b (variables.Name name.Editor) h (1, omega (arith, nine_named), refl)

-- what they name beside authors
abbrev besides_author : Named
besides_author = record {
  variables =
      variables.Name name.Editor
      ∷ variables.Date date.Issued ∷ variables.Date date.Accessed ∷ variables.Date date.AvailableDate
      ∷ variables.Date date.EventDate ∷ variables.Date date.Submitted ∷ variables.Date date.OriginalDate
      ∷ variables.Standard standard.CitationLabel ∷ [];
  kinds = [];
  written = [];
}

author_node_alike : {w : Bool} (a b : Answers) → AlikeIn w always_named a b → AlikeIn w (named (node (names author_node no_nodes) no_nodes)) a b
author_node_alike a b h = first_alike (variable_named (variables.Name name.Author)) besides_author a b h

-- layouts
layout_same : (a b : Answers) (c : Context) (s : Style) (l : Layout) (options : NameOptions) (form : SpecialForm) (st : State) → AlikeIn c.is_published always_named a b → AlikeIn c.is_published (named (layout_nodes s l)) a b
    → append_layout s (with_answers a c) l options form st ≡ append_layout s (with_answers b c) l options form st
layout_same a b c s l options form st g h =
    ap (λ (e : Option Bool). contents (with_answers a c) (setting_of s (unwrap_or e c.in_english) l options form) true (layout_nodes s l) st) g.english
    ∙ contents_same a b c (setting_of s (is_english (with_answers b c)) l options form) true (layout_nodes s l) st (labels_alike a b g) h

asked_same : (a b : Answers) (c : Context) (s : Style) (l : Layout) (options : NameOptions) (form : SpecialForm) (st : State) → AlikeIn c.is_published always_named a b → AlikeIn c.is_published (named (layout_nodes s l)) a b
    → layout_survey s (with_answers a c) l options form st ≡ layout_survey s (with_answers b c) l options form st
asked_same a b c s l options form st g h = surveys_same a b (stage c (setting_of s (is_english c) l options form) st) (layout_nodes s l) (labels_alike a b g) h

-- the year alone
dates_same : {w : Bool} (a b : Answers) → AlikeIn w always_named a b → filter_map a.date year_dates ≡ filter_map b.date year_dates
dates_same a b h =
    let issued = named_at a b (variables.Date date.Issued) h (2, omega (arith, nine_named), refl) in
    let event = named_at a b (variables.Date date.EventDate) h (5, omega (arith, nine_named), refl) in
    let submitted = named_at a b (variables.Date date.Submitted) h (6, omega (arith, nine_named), refl) in
    let original = named_at a b (variables.Date date.OriginalDate) h (7, omega (arith, nine_named), refl) in
    λ i. cons_option (issued i) (cons_option (event i) (cons_option (submitted i) (cons_option (original i) [])))

year_same : (a b : Answers) (c : Context) (st : State) → AlikeIn c.is_published always_named a b → append_year (with_answers a c) st ≡ append_year (with_answers b c) st
year_same a b c st h =
    ap (λ (ds : List Date). append c (normal plain_manner (option_map_or (years_text c.locales) (first_dated ds) (unwrap_or (term c.locales (terms.Other others.NoDate) forms.Long false) (codes "n.d."))) ∷ []) st)
    (dates_same a b h)

-- the authors
variable_same : (a b : Answers) (c : Context) → AlikeIn c.is_published always_named a b → author_variable (with_answers a c) ≡ author_variable (with_answers b c)
variable_same a b c h =
    let authors = has_same a b c (variables.Name name.Author) (labels_alike a b h) (author_alike a b h) in
    let editors = has_same a b c (variables.Name name.Editor) (labels_alike a b h) (editor_alike a b h) in
    λ i. if not (authors i) && editors i then name.Editor else name.Author

made_same : (a b : Answers) (c : Context) (s : Style) (form : SpecialForm) (st : State) → AlikeIn c.is_published always_named a b → append_made s (with_answers a c) form st ≡ append_made s (with_answers b c) form st
made_same a b c s form st h =
    let authors = node (names author_node no_nodes) no_nodes in
    ap (λ (e : Option Bool). contents (with_answers a c) (setting_of s (unwrap_or e c.in_english) s.citation.layout s.citation.name_options form) true authors st) h.english
    ∙ contents_same a b c (setting_of s (is_english (with_answers b c)) s.citation.layout s.citation.name_options form) true authors st (labels_alike a b h) (author_node_alike a b h)

last_same : (a b : Answers) (c : Context) (s : Style) (form : SpecialForm) (o : Option Bibliography) (st : State) → AlikeIn c.is_published always_named a b → AlikeIn c.is_published (named_in_bibliography s o) a b
    → author_last s (with_answers a c) form o st ≡ author_last s (with_answers b c) form o st
last_same a b c s form None st g h = made_same a b c s form st g
last_same a b c s form (Some y) st g h =
    let asked = asked_same a b c s y.layout y.name_options form st g h in
    λ i. if (asked i).is_admitted
    then layout_same a b c s y.layout y.name_options form (noted (asked i).met st) g h i
    else made_same a b c s form (noted (asked i).met st) g i

-- what the layouts of a style name, and what is answered alike to it
record StyleAlike (w : Bool) (s : Style) (a b : Answers) : Type 0 where
  always : AlikeIn w always_named a b
  in_citation : AlikeIn w (named (layout_nodes s s.citation.layout)) a b
  in_bibliography : AlikeIn w (named_in_bibliography s s.bibliography) a b

-- what a style names is what its layouts name
pub layouts_alike : (s : Style) (a b : Answers) → AreAlike (style_named s) a b → AlikeIn (is_published s) (layouts_named s) a b
layouts_alike s a b h = alike_in (is_published s) (layouts_named s) a b h

style_alike : (s : Style) (a b : Answers) → AreAlike (style_named s) a b → StyleAlike (is_published s) s a b
style_alike s a b h =
    let cited = named (layout_nodes s s.citation.layout) in
    let listed = named_in_bibliography s s.bibliography in
    let all = layouts_alike s a b h in
    let more = others_alike always_named (joined_named cited listed) a b all in
    record { always = first_alike always_named (joined_named cited listed) a b all; in_citation = first_alike cited listed a b more; in_bibliography = others_alike cited listed a b more }

citation_same : (a b : Answers) (c : Context) (s : Style) (form : SpecialForm) (st : State) → StyleAlike c.is_published s a b → append_citation s (with_answers a c) form st ≡ append_citation s (with_answers b c) form st
citation_same a b c s form st h = layout_same a b c s s.citation.layout s.citation.name_options form st h.always h.in_citation

surveyed_same : (a b : Answers) (c : Context) (s : Style) (form : SpecialForm) (st : State) → StyleAlike c.is_published s a b → citation_survey s (with_answers a c) form st ≡ citation_survey s (with_answers b c) form st
surveyed_same a b c s form st h = asked_same a b c s s.citation.layout s.citation.name_options form st h.always h.in_citation

elsewhere_same : (a b : Answers) (c : Context) (s : Style) (form : SpecialForm) (st : State) → StyleAlike c.is_published s a b → author_elsewhere s (with_answers a c) form st ≡ author_elsewhere s (with_answers b c) form st
elsewhere_same a b c s form st h =
    let asked = surveyed_same a b (elsewhere c) s form st h in
    λ i. if (asked i).is_admitted
    then citation_same a b (elsewhere c) s form (noted (asked i).met st) h i
    else last_same a b c s form s.bibliography (noted (asked i).met st) h.always h.in_bibliography i

-- the authors in a form
abbrev author_in : Style → Context → SpecialForm → State → State
author_in s c form st =
    let asked = citation_survey s c form st in
    if asked.is_admitted then append_citation s c form (noted asked.met st) else author_elsewhere s c form (noted asked.met st)

author_in_same : (a b : Answers) (c : Context) (s : Style) (form : SpecialForm) (st : State) → StyleAlike c.is_published s a b → author_in s (with_answers a c) form st ≡ author_in s (with_answers b c) form st
author_in_same a b c s form st h =
    let asked = surveyed_same a b c s form st h in
    λ i. if (asked i).is_admitted
    then citation_same a b c s form (noted (asked i).met st) h i
    else elsewhere_same a b c s form (noted (asked i).met st) h i

author_same : (a b : Answers) (c : Context) (s : Style) (st : State) → StyleAlike c.is_published s a b → append_author s (with_answers a c) st ≡ append_author s (with_answers b c) st
author_same a b c s st h =
    ap (λ v. author_in s (with_answers a c) (if is_published s then authors_alone v else author_only v) st) (variable_same a b c h.always)
    ∙ author_in_same a b c s (author_form s (with_answers b c)) st h

-- the authors and the citation
enclosed_same : (a b : Answers) (c : Context) (s : Style) (form : SpecialForm) (prefix suffix : List ℕ) (st : State) → StyleAlike c.is_published s a b
    → append_enclosed s (with_answers a c) form prefix suffix st ≡ append_enclosed s (with_answers b c) form prefix suffix st
enclosed_same a b c s form prefix suffix st h =
    ap (append_own s c.quotes suffix) (citation_same a b c s form (append_own s c.quotes prefix (space_before prefix st)) h)

framed_same : (a b : Answers) (c : Context) (s : Style) (form : SpecialForm) (prefix suffix : List ℕ) (st : State) → StyleAlike c.is_published s a b
    → append_framed s (with_answers a c) form prefix suffix st ≡ append_framed s (with_answers b c) form prefix suffix st
framed_same a b c s form prefix suffix st h =
    let spaced = spaced_frame prefix st in
    let frame = prose_frame s prefix suffix in
    ap (λ done. append c (end spaced ∷ []) (append c (end frame ∷ []) done))
    (citation_same a b c s form (append c (begin frame ∷ []) (append c (begin spaced ∷ []) st)) h)

between_same : (a b : Answers) (c : Context) (s : Style) (form : SpecialForm) (prefix suffix : List ℕ) (st : State) → StyleAlike c.is_published s a b
    → append_between s (with_answers a c) form prefix suffix st ≡ append_between s (with_answers b c) form prefix suffix st
between_same a b c s form prefix suffix st h =
    λ i. if is_published s then framed_same a b c s form prefix suffix st h i else enclosed_same a b c s form prefix suffix st h i

rest_same : (a b : Answers) (c : Context) (s : Style) → AlikeIn c.is_published always_named a b → rest_form s (with_answers a c) ≡ rest_form s (with_answers b c)
rest_same a b c s h = ap (λ v. if is_published s then without_names v else without_author) (variable_same a b c h)

prose_same : (a b : Answers) (c : Context) (s : Style) (st : State) → StyleAlike c.is_published s a b → append_prose s (with_answers a c) st ≡ append_prose s (with_answers b c) st
prose_same a b c s st h =
    let authors = author_same a b c s st h in
    let rest = rest_same a b c s h.always in
    λ i. if prints_identifiers s
    then between_same a b c s whole (unwrap_or s.citation.layout.prefix []) (unwrap_or s.citation.layout.suffix []) (authors i) h i
    else between_same a b c s (rest i) (unwrap_or s.citation.layout.prefix (open_parenthesis ∷ [])) (unwrap_or s.citation.layout.suffix (close_parenthesis ∷ [])) (authors i) h i

-- what collapsing leaves of a cite
form_same : (a b : Answers) (c : Context) (s : Style) (verdict : Option CollapseVerdict) → AlikeIn c.is_published always_named a b → form_of s (with_answers a c) verdict ≡ form_of s (with_answers b c) verdict
form_same a b c s None h = refl
form_same a b c s (Some verdicts.First) h = ap (λ v. if is_published s then without_names v else first_date_only) (variable_same a b c h)
form_same a b c s (Some verdicts.YearSuffix) h = refl

left_same : (a b : Answers) (c : Context) (s : Style) (verdict : Option CollapseVerdict) → StyleAlike c.is_published s a b
    → rendered c.quotes (append_citation s (with_answers a c) (form_of s (with_answers a c) verdict) (begun_in s)) ≡ rendered c.quotes (append_citation s (with_answers b c) (form_of s (with_answers b c) verdict) (begun_in s))
left_same a b c s verdict h =
    ap (λ form. rendered c.quotes (append_citation s (with_answers a c) form (begun_in s))) (form_same a b c s verdict h.always)
    ∙ ap (rendered c.quotes) (citation_same a b c s (form_of s (with_answers b c) verdict) (begun_in s) h)

-- the whole item
full_same : (a b : Answers) (c : Context) (s : Style) (verdict : Option CollapseVerdict) (o : Option Bibliography) → StyleAlike c.is_published s a b → AlikeIn c.is_published (named_in_bibliography s o) a b
    → full_of s (with_answers a c) verdict o ≡ full_of s (with_answers b c) verdict o
full_same a b c s verdict None h k = left_same a b c s verdict h
full_same a b c s verdict (Some y) h k =
    ap (rendered_aligned c.quotes y.second_field_align) (layout_same a b c s y.layout y.name_options whole (begun_in s) h.always k)

purpose_same : (a b : Answers) (c : Context) (s : Style) (verdict : Option CollapseVerdict) (purpose : Option CitePurpose) → StyleAlike c.is_published s a b
    → rendered_for s (with_answers a c) verdict purpose ≡ rendered_for s (with_answers b c) verdict purpose
purpose_same a b c s verdict None h = left_same a b c s verdict h
purpose_same a b c s verdict (Some purposes.Author) h = ap (rendered c.quotes) (author_same a b c s (begun_in s) h)
purpose_same a b c s verdict (Some purposes.Year) h = ap (rendered c.quotes) (year_same a b c (begun_in s) h.always)
purpose_same a b c s verdict (Some purposes.Full) h = full_same a b c s verdict s.bibliography h h.in_bibliography
purpose_same a b c s verdict (Some purposes.Prose) h = ap (rendered c.quotes) (prose_same a b c s (begun_in s) h)

pub cites_alike : AlikeCitesAreOne
cites_alike x a b p locale purpose verdict h = purpose_same a b (context_of x locale false a p) x.style verdict purpose (style_alike x.style a b h)

-- an item of the bibliography
item_same : (a b : Answers) (c : Context) (s : Style) (o : Option Bibliography) → AlikeIn c.is_published always_named a b → AlikeIn c.is_published (named_in_bibliography s o) a b
    → option_map (item_of s (with_answers a c)) o ≡ option_map (item_of s (with_answers b c)) o
item_same a b c s None g h = refl
item_same a b c s (Some y) g h =
    ap (λ st. Some (rendered_item c.quotes (is_some y.substitute) (append c (end (layout_frame y.layout) ∷ []) st)))
    (layout_same a b c s y.layout y.name_options whole (append c (begin (layout_frame y.layout) ∷ []) (begun_in s)) g h)

pub items_alike : AlikeItemsAreOne
items_alike x a b p locale h =
    let k = style_alike x.style a b h in
    item_same a b (context_of x locale true a p) x.style x.style.bibliography k.always k.in_bibliography
