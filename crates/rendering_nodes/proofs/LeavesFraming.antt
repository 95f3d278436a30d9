-- What leaves and names append ends what it begins.
use Rattle.std.proofs.Common.{◌≡◌, ◌+◌, ℕ, Bool, true, false, ◌==◌, List, [], ◌∷◌, ◌++◌, length, take, refl, ◌∙◌, Option, Some, None}
use Rattle.std.specs.Prelude.{if◌then◌else◌, ◌-◌, ◌&&◌, ◌||◌, bytes_eq, drop, nat_le, nat_lt, zip}
use Rattle.std.specs.List.{flat_map, enumerate_from}
use Rattle.std.specs.Fmt.{decimal}
use Rattle.std.specs.Option.{unwrap_or}
use Rattle.laws.specs.Characters.{space}
use Rattle.laws.specs.Text.{is_filled}
use Rattle.literature_values.specs.PersonViews.{Named}
use Rattle.literature_values.specs.declared.date.Date.{Date}
use Rattle.literature_values.specs.declared.date.DateEnd.{DateEnd}
use Rattle.literature_values.specs.declared.date.DateEnd.TheVariants.{On, Open}
use Rattle.rendering_locale.specs.Locales.{Locale, DatePart}
use Rattle.rendering_locale.specs.Lookup.{term_text, quote_text}
use Rattle.rendering_tree.specs.Metas.{Meta, Answered}
use Rattle.rendering_tree.specs.Metas as metas
use Rattle.rendering_dates.specs.Dates as dates
use Rattle.rendering_dates.specs.Dates.{DateShape, cut_to, date_pieces}
use Rattle.rendering_dates.specs.Sides as sides
use Rattle.rendering_page.specs.Pages.{Page, Manner, uncased, Frame}
use Rattle.rendering_page.specs.Pieces.{Piece, normal}
use Rattle.rendering_style.specs.Options.{NameOptions}
use Rattle.rendering_style.specs.Nodes.{LabelLook, NameLook, TextSource, of_variable, of_term, of_value, TextLook, NumberNode, DateNode, NamesNode, Leaf}
use Rattle.rendering_style.specs.Nodes as nodes
use Rattle.rendering_names.specs.Around.{NamesAround}
use Rattle.rendering_names.specs.Names as names
use Rattle.rendering_names.specs.Names.{NameStyle, IndexedPerson, names_pieces}
use Rattle.rendering_names.specs.NameParts.{Word, has_parts, part_manner, person_pieces, person_words, word_pieces, words_pieces}
use Rattle.rendering_names.specs.Persons.{person_text}
use Rattle.rendering_names.specs.Roles as roles
use Rattle.rendering_people.specs.Properties.{VariableProperties, Properties, all_shown}
use Rattle.rendering_context.specs.Contexts.{Context}
use Rattle.rendering_context.specs.Answering.{Answer, no_answer, pieces, address, count, ranges, own, answer_to, asked_for, date_answer, is_plural_variable}
use Rattle.rendering_leaves.specs.NodeSettings.{with_variable, SpecialForm, suffix_only, NodeSetting, State, append, with_printed, standing}
use Rattle.rendering_leaves.specs.Values.{text_manner, number_manner, date_manner, frame, open_term, close_term, quote_before, quote_after, meaning, answer_pieces, identified, is_label_variable, is_number_variable, label_suffix, label_term, own_year_suffix, source_answer, source_pieces, text_pieces, is_blank, blank_pieces, value_pieces, number_pieces, label_pieces, date_inside, date_frame, date_suffix, day_pieces, shape_of, suppressing, using, after_variable, append_leaf, is_passed_over}
use Rattle.rendering_leaves.specs.Links.{before_link, linked_answer, look_before}
use Rattle.rendering_leaves.specs.Quoted.{are_inner}
use Rattle.rendering_taxonomy.specs.Variables.{is_variable}
use Rattle.rendering_taxonomy.specs.declared.date.LongShortForm.TheVariants as lengths
use Rattle.rendering_taxonomy.specs.declared.name.DisambiguatedNameForm.{DisambiguatedNameForm}
use Rattle.rendering_taxonomy.specs.declared.number.NumberForm.{NumberForm}
use Rattle.rendering_taxonomy.specs.declared.number.NumberForm.TheVariants as number_forms
use Rattle.rendering_taxonomy.specs.declared.term.Term.{Term}
use Rattle.rendering_taxonomy.specs.declared.term.Term.TheVariants as terms
use Rattle.rendering_taxonomy.specs.declared.term.TermForm.TheVariants as term_forms
use Rattle.rendering_taxonomy.specs.declared.variable.NameVariable.{NameVariable}
use Rattle.rendering_taxonomy.specs.declared.variable.NumberVariable.TheVariants as number
use Rattle.rendering_taxonomy.specs.declared.variable.StandardVariable.TheVariants as standard
use Rattle.rendering_taxonomy.specs.declared.variable.Variable.{Variable}
use Rattle.rendering_taxonomy.specs.declared.variable.Variable.TheVariants as variables
use Rattle.rendering_nodes.proofs.PiecesFraming.{AreLevel, level_to, EndAll, ends_none, ends_more, ends_both, ends_either, ends_normal, ends_quote, ends_link, ends_locator, ends_chunks, ends_framed, ends_each}

-- quotes
pub ends_quote_before : (c : Context) (m : Manner) (quotes inside : Bool) → EndAll (quote_before c m quotes inside)
ends_quote_before c m false inside = ends_none
ends_quote_before c m true inside = ends_normal m (quote_text c.locales (terms.Other (open_term inside)))

pub ends_quote_after : (c : Context) (m : Manner) (quotes inside : Bool) → EndAll (quote_after c m quotes inside)
ends_quote_after c m false inside = ends_none
ends_quote_after c m true inside = ends_quote m (quote_text c.locales (terms.Other (close_term inside)))

-- texts and numbers
ends_answer : (c : Context) (m : Manner) (form : NumberForm) (a : Answer) → EndAll (answer_pieces c m form a)
ends_answer c m form no_answer = ends_none
ends_answer c m form (pieces cs) = ends_chunks m cs
ends_answer c m form (address cs url) = ends_link m.formatting cs url
ends_answer c m form (count n) = ends_normal m _
ends_answer c m form (ranges ps) = ends_normal m _
ends_answer c m form own = ends_locator m.formatting c.properties.initial_idx

ends_meaning : (m : Manner) (meta : Meta) (ps : List Piece) → EndAll ps → EndAll (meaning m meta ps)
ends_meaning m meta ps h = ends_framed (record { display = None; meta = Some meta; manner = m; prefix = []; suffix = [] }) ps h

ends_identified : (m : Manner) (v : Variable) (ps : List Piece) → EndAll ps → EndAll (identified m v ps)
ends_identified m (variables.Number number.CitationNumber) ps h = ends_meaning m metas.CitationNumber ps h
ends_identified m (variables.Standard standard.CitationLabel) ps h = ends_meaning m metas.CitationLabel ps h
ends_identified m v ps h = h

ends_label_suffix : (c : Context) (m : Manner) (v : Variable) → EndAll (label_suffix c m v)
ends_label_suffix c m v = ends_either (is_label_variable v) (normal m (own_year_suffix c) ∷ []) [] (ends_normal m (own_year_suffix c)) ends_none

ends_source : (c : Context) (m : Manner) (source : TextSource) (printed : Answer) → EndAll (source_pieces c m source printed)
ends_source c m (of_variable v form) printed =
    let answer = answer_pieces c m number_forms.Numeric printed in
    ends_both (identified m v answer) (label_suffix c m v)
    (ends_identified m v answer (ends_answer c m number_forms.Numeric printed)) (ends_label_suffix c m v)
ends_source c m (of_term name form plural) printed = ends_normal m (term_text c.locales name form plural)
ends_source c m (of_value cs) printed = ends_normal m cs

ends_text : (c : Context) (s : NodeSetting) (vs : List Variable) (source : TextSource) (look : TextLook) → EndAll (text_pieces c s vs source look)
ends_text c s vs source look =
    let m = text_manner s.manner look in
    let before = quote_before c m look.quotes s.inside_quotes in
    let answer = source_answer c (are_inner look.quotes s.inside_quotes) vs source in
    let held = before_link c.is_published look answer in
    let inside = source_pieces c m source (linked_answer held answer) in
    let after = quote_after c m look.quotes s.inside_quotes in
    let begins = ends_both before inside (ends_quote_before c m look.quotes s.inside_quotes) (ends_source c m source (linked_answer held answer)) in
    ends_framed (frame s.manner (Some metas.Text) (look_before held look.look)) ((before ++ inside) ++ after)
    (ends_both (before ++ inside) after begins (ends_quote_after c m look.quotes s.inside_quotes))

-- a text of white space alone is in no element
ends_blank : (s : NodeSetting) (look : TextLook) (cs : List ℕ) → EndAll (blank_pieces s look cs)
ends_blank s look cs =
    ends_more _ _ (ends_normal (uncased s.manner) look.look.prefix)
    (ends_more _ _ (ends_normal (text_manner s.manner look) cs) (ends_normal (uncased s.manner) look.look.suffix))

ends_value : (c : Context) (s : NodeSetting) (look : TextLook) (cs : List ℕ) → EndAll (value_pieces c s look cs)
ends_value c s look cs =
    ends_either (c.is_published && is_blank cs) (blank_pieces s look cs) (text_pieces c s [] (of_value cs) look) (ends_blank s look cs) (ends_text c s [] (of_value cs) look)

ends_number : (c : Context) (s : NodeSetting) (vs : List Variable) (n : NumberNode) → EndAll (number_pieces c s vs n)
ends_number c s vs n =
    let m = number_manner s.manner n in
    let answer = answer_pieces c m n.form (answer_to c vs lengths.Long n.variable) in
    ends_framed (frame s.manner (Some metas.Number) n.look) (identified m n.variable answer)
    (ends_identified m n.variable answer (ends_answer c m n.form (answer_to c vs lengths.Long n.variable)))

ends_label : (c : Context) (s : NodeSetting) (v : Variable) (l : LabelLook) → EndAll (label_pieces c s v l)
ends_label c s v l =
    let cs = term_text c.locales (label_term c v) l.form (names.pluralizes l.plural (is_plural_variable c v)) in
    ends_framed (frame s.manner (Some metas.Label) l.look) (normal (names.label_manner s.manner l) cs ∷ []) (ends_normal (names.label_manner s.manner l) cs)

-- dates
abbrev EndEach : List (List Piece) → Type 0
EndEach [] = Unit {0}
EndEach (ps ∷ pss) = EndAll ps × EndEach pss

ends_each_after : (between : List Piece) (pss : List (List Piece)) → EndAll between → EndEach pss → EndAll (dates.each_after between pss)
ends_each_after between [] h k = ends_none
ends_each_after between (ps ∷ pss) h k =
    ends_both (between ++ ps) (dates.each_after between pss) (ends_both between ps h k.0) (ends_each_after between pss h k.1)

ends_joined : (between : List Piece) (pss : List (List Piece)) → EndAll between → EndEach pss → EndAll (dates.joined_with between pss)
ends_joined between [] h k = ends_none
ends_joined between (ps ∷ pss) h k = ends_both ps (dates.each_after between pss) k.0 (ends_each_after between pss h k.1)

ends_part : (m : Manner) (year_suffix : List ℕ) (p : DatePart) (cs : List ℕ) → EndAll (dates.text_pieces m year_suffix p cs)
ends_part m year_suffix p cs =
    let pm = dates.part_manner m p in
    let more = normal (uncased pm) (dates.year_suffix_of p.form year_suffix) ∷ [] in
    ends_framed (dates.part_frame m p) (normal pm cs ∷ more) (ends_more (normal pm cs) more (ends_normal pm cs) (ends_normal (uncased pm) (dates.year_suffix_of p.form year_suffix)))

one_if : (b : Bool) (ps : List Piece) (pss : List (List Piece)) → EndAll ps → EndEach pss → EndEach ((if b then ps ∷ [] else []) ++ pss)
one_if true ps pss h k = (h, k)
one_if false ps pss h k = k

ends_parts : (ls : List Locale) (m : Manner) (year_suffix : List ℕ) (d : Date) (ps : List DatePart) → EndEach (flat_map (dates.part_pieces ls m year_suffix d) ps)
ends_parts ls m year_suffix d [] = tt
ends_parts ls m year_suffix d (p ∷ ps) =
    let cs = dates.part_text ls d p.form in
    one_if (is_filled cs) (dates.text_pieces m year_suffix p cs) (flat_map (dates.part_pieces ls m year_suffix d) ps) (ends_part m year_suffix p cs) (ends_parts ls m year_suffix d ps)

ends_side : (ls : List Locale) (m : Manner) (shape : DateShape) (year_suffix : List ℕ) (d : Date) → EndAll (dates.side_pieces ls m shape year_suffix d)
ends_side ls m shape year_suffix d =
    ends_joined (normal m shape.delimiter ∷ []) (flat_map (dates.part_pieces ls m year_suffix d) shape.parts) (ends_normal m shape.delimiter) (ends_parts ls m year_suffix d shape.parts)

ends_apart : (m : Manner) (delimiter : List ℕ) (one other : List Piece) → EndAll one → EndAll other → EndAll (one ++ normal m delimiter ∷ [] ++ other)
ends_apart m delimiter one other h k =
    let between = normal m delimiter ∷ [] in
    ends_both (one ++ between) other (ends_both one between h (ends_normal m delimiter)) k

ends_whole : (ls : List Locale) (m : Manner) (shape : DateShape) (year_suffix : List ℕ) (first last : Date) → EndAll (dates.whole_sides ls m shape year_suffix first last)
ends_whole ls m shape year_suffix first last =
    ends_apart m (dates.range_delimiter first last shape.parts) (dates.side_pieces ls m shape [] first) (dates.side_pieces ls m shape year_suffix last)
    (ends_side ls m shape [] first) (ends_side ls m shape year_suffix last)

ends_merged : (ls : List Locale) (m : Manner) (shape : DateShape) (year_suffix : List ℕ) (first last : Date) → EndAll (dates.merged_sides ls m shape year_suffix first last)
ends_merged ls m shape year_suffix first last =
    ends_apart m (dates.range_delimiter first last shape.parts) (dates.first_half ls m shape year_suffix first last) (dates.last_half ls m shape year_suffix first last)
    (ends_side ls m (record shape { parts = sides.first_parts first last shape.parts }) (if sides.share_year first last then year_suffix else []) first)
    (ends_side ls m (record shape { parts = sides.last_parts first last shape.parts }) year_suffix last)

ends_sides : (ls : List Locale) (m : Manner) (shape : DateShape) (year_suffix : List ℕ) (first last : Date) → EndAll (dates.both_pieces ls m shape year_suffix first last)
ends_sides ls m shape year_suffix first last =
    let merged = dates.merged_sides ls m shape year_suffix first last in
    let whole = dates.whole_sides ls m shape year_suffix first last in
    ends_either (bytes_eq (dates.side_text ls m shape first) (dates.side_text ls m shape last)) (dates.side_pieces ls m shape year_suffix first) (dates.sides ls m shape year_suffix first last)
    (ends_side ls m shape year_suffix first)
    (ends_either shape.merges_ranges merged whole (ends_merged ls m shape year_suffix first last) (ends_whole ls m shape year_suffix first last))

ends_to : (ls : List Locale) (m : Manner) (shape : DateShape) (year_suffix : List ℕ) (d : Date) (e : Option DateEnd) → EndAll (dates.ended_pieces ls m shape year_suffix d e)
ends_to ls m shape year_suffix d None = ends_side ls m shape year_suffix d
ends_to ls m shape year_suffix d (Some (On y month day)) = ends_sides ls m shape year_suffix d (dates.last_side d y month day)
ends_to ls m shape year_suffix d (Some Open) =
    ends_both (dates.side_pieces ls m shape year_suffix d) (normal m dates.dash ∷ []) (ends_side ls m shape year_suffix d) (ends_normal m dates.dash)

ends_inside : (c : Context) (m : Manner) (form : SpecialForm) (d : DateNode) (year_suffix : List ℕ) (day : Date) → EndAll (date_inside c m form d year_suffix day)
ends_inside c m suffix_only d year_suffix day = ends_normal (uncased m) year_suffix
ends_inside c m form d year_suffix day = ends_to c.locales m (cut_to d.parts (shape_of c d)) year_suffix day day.end

ends_day : (c : Context) (s : NodeSetting) (has_date : Bool) (d : DateNode) (o : Option Date) → EndAll (day_pieces c s has_date d o)
ends_day c s has_date d None = ends_none
ends_day c s has_date d (Some day) =
    ends_framed (date_frame s s.form d) (date_inside c (date_manner s.manner d) s.form d (date_suffix c has_date) day)
    (ends_inside c (date_manner s.manner d) s.form d (date_suffix c has_date) day)

-- names
ends_before_last : (m : Manner) (o : NameOptions) (n : ℕ) (cs : List ℕ) → EndAll (names.before_last_by m o n cs)
ends_before_last m o n [] = ends_normal m (names.delimiter_by o)
ends_before_last m o n (c ∷ cs) = ends_more _ _ (ends_normal m _) (ends_more _ _ (ends_normal m (c ∷ cs)) (ends_normal m (space ∷ [])))

ends_before_name : (ls : List Locale) (m : Manner) (o : NameOptions) (n i : ℕ) → EndAll (names.before_name ls m o n i)
ends_before_name ls m o n i =
    let last = names.before_last_by m o n (names.and_text ls o.and_term) in
    let other = normal m (names.delimiter_by o) ∷ [] in
    ends_either (i == 0) [] (if i + 1 == n then last else other) ends_none
    (ends_either (i + 1 == n) last other (ends_before_last m o n (names.and_text ls o.and_term)) (ends_normal m (names.delimiter_by o)))

ends_word : (m : Manner) (before : List ℕ) (w : Word) → EndAll (word_pieces m before w)
ends_word m before w =
    ends_either (is_filled w.text)
    (normal m before ∷ normal (uncased m) w.prefix ∷ normal (part_manner m w.part) w.text ∷ normal (uncased m) w.suffix ∷ []) []
    (ends_more _ _ (ends_normal m before) (ends_more _ _ (ends_normal (uncased m) w.prefix) (ends_more _ _ (ends_normal (part_manner m w.part) w.text) (ends_normal (uncased m) w.suffix))))
    ends_none

ends_words : (m : Manner) (is_after : Bool) (ws : List Word) → EndAll (words_pieces m is_after ws)
ends_words m is_after [] = ends_none
ends_words m is_after (w ∷ ws) =
    ends_both (word_pieces m (if is_after then w.before else []) w) (words_pieces m (is_after || is_filled w.text) ws)
    (ends_word m (if is_after then w.before else []) w) (ends_words m (is_after || is_filled w.text) ws)

ends_person : (m : Manner) (l : NameLook) (o : NameOptions) (is_inverted : Bool) (f : DisambiguatedNameForm) (p : Named) → EndAll (person_pieces m l o is_inverted f p)
ends_person m l o is_inverted f p =
    ends_either (has_parts l) (words_pieces m false (person_words l o is_inverted f p)) (normal m (person_text o is_inverted f p) ∷ [])
    (ends_words m false (person_words l o is_inverted f p)) (ends_normal m (person_text o is_inverted f p))

ends_indexed : (s : NameStyle) (v : NameVariable) (p : IndexedPerson) → EndAll (names.indexed_pieces s v p)
ends_indexed s v p =
    let is_inverted = names.inverts s.options.name_as_sort_order p.0 in
    let f : Frame = record { display = None; meta = Some (metas.Name v p.0); manner = s.manner; prefix = s.look.prefix; suffix = s.look.suffix } in
    ends_framed f (person_pieces (names.name_manner s) s.look s.options is_inverted (p.1).0 (p.1).1)
    (ends_person (names.name_manner s) s.look s.options is_inverted (p.1).0 (p.1).1)

ends_shown : (s : NameStyle) (v : NameVariable) (n : ℕ) (ps : List IndexedPerson) → EndAll (names.shown_pieces s v n ps)
ends_shown s v n ps =
    ends_each (λ (p : IndexedPerson). names.before_name s.locales s.manner s.options n p.0 ++ names.indexed_pieces s v p)
    (λ p. ends_both (names.before_name s.locales s.manner s.options n p.0) (names.indexed_pieces s v p) (ends_before_name s.locales s.manner s.options n p.0) (ends_indexed s v p)) ps

ends_last : (s : NameStyle) (v : NameVariable) (n : ℕ) (ps : List IndexedPerson) → EndAll (names.last_pieces s v n ps)
ends_last s v n ps = ends_each (names.indexed_pieces s v) (ends_indexed s v) (drop (n - 1) ps)

ends_et_al : (s : NameStyle) (shown : ℕ) (cs : List ℕ) → EndAll (names.et_al_by s shown cs)
ends_et_al s shown [] = ends_none
ends_et_al s shown (c ∷ cs) = ends_more _ _ (ends_normal s.manner _) (ends_normal _ (c ∷ cs))

ends_after_ellipsis : (s : NameStyle) (ps : List Piece) → EndAll ps → EndAll (names.after_ellipsis s ps)
ends_after_ellipsis s ps h =
    ends_more _ _ (ends_normal s.manner (names.delimiter_by s.options)) (ends_more _ _ (ends_normal s.manner names.ellipsis) (ends_more _ _ (ends_normal s.manner (space ∷ [])) h))

ends_rest : (s : NameStyle) (v : NameVariable) (n shown : ℕ) (ps : List IndexedPerson) → EndAll (names.rest_pieces s v n shown ps)
ends_rest s v n shown ps =
    let last = names.after_ellipsis s (names.last_pieces s v n ps) in
    let others = names.et_al_pieces s shown in
    ends_either (nat_le n shown) [] (if unwrap_or s.options.et_al_use_last false && nat_le 2 (n - shown) then last else others) ends_none
    (ends_either (unwrap_or s.options.et_al_use_last false && nat_le 2 (n - shown)) last others
    (ends_after_ellipsis s (names.last_pieces s v n ps) (ends_last s v n ps))
    (ends_et_al s shown (term_text s.locales (terms.Other (names.et_al_term s.et_al.name)) term_forms.Long false)))

ends_list : (s : NameStyle) (v : NameVariable) (shown : ℕ) (ps : List IndexedPerson) → EndAll (names.list_pieces s v shown ps)
ends_list s v shown ps =
    ends_both (names.shown_pieces s v (length ps) (take shown ps)) (names.rest_pieces s v (length ps) shown ps)
    (ends_shown s v (length ps) (take shown ps)) (ends_rest s v (length ps) shown ps)

ends_name_label : (ls : List Locale) (m : Manner) (t : Term) (n : ℕ) (o : Option LabelLook) → EndAll (names.label_pieces ls m t n o)
ends_name_label ls m t n None = ends_none
ends_name_label ls m t n (Some l) =
    let cs = term_text ls t l.form (names.pluralizes l.plural (nat_lt 1 n)) in
    let f : Frame = record { display = None; meta = None; manner = m; prefix = l.look.prefix; suffix = l.look.suffix } in
    ends_framed f (normal (names.label_manner m l) cs ∷ []) (ends_normal (names.label_manner m l) cs)

ends_beside : (b : Bool) (label ps : List Piece) → EndAll label → EndAll ps → EndAll (names.beside b label ps)
ends_beside true label ps h k = ends_both label ps h k
ends_beside false label ps h k = ends_both ps label k h

ends_variable : (s : NameStyle) (h : NamesNode) (p : VariableProperties × Answered) → EndAll (names.variable_pieces s h p)
ends_variable s h (p, a) =
    let label = names.label_pieces s.locales s.manner (roles.label_term h a.1) (length a.0) h.label in
    let people = names.list_pieces s a.1 p.shown (enumerate_from 0 (zip p.forms a.0)) in
    ends_framed (names.variable_frame s.manner a.1) (names.beside h.label_is_first label people)
    (ends_beside h.label_is_first label people (ends_name_label s.locales s.manner (roles.label_term h a.1) (length a.0) h.label) (ends_list s a.1 p.shown (enumerate_from 0 (zip p.forms a.0))))

ends_before_people : (m : Manner) (o : NameOptions) (h : NamesNode) (i : ℕ) → EndAll (names.before_people m o h i)
ends_before_people m o h i =
    let cs = names.people_delimiter o h in
    ends_either (i == 0) [] (normal m cs ∷ []) ends_none (ends_normal m cs)

ends_indexed_variable : (s : NameStyle) (h : NamesNode) (people : List Answered) (p : ℕ × (VariableProperties × Answered)) → EndAll (names.indexed_variable s h people p)
ends_indexed_variable s h people p =
    ends_either (roles.is_left_out h (take p.0 people) ((p.1).1).1) [] (names.before_people s.manner s.options h p.0 ++ names.variable_pieces s h p.1)
    ends_none
    (ends_both (names.before_people s.manner s.options h p.0) (names.variable_pieces s h p.1) (ends_before_people s.manner s.options h p.0) (ends_variable s h p.1))

ends_people : (s : NameStyle) (h : NamesNode) (ps : Properties) (people : List Answered) → EndAll (names.people_pieces s h ps people)
ends_people s h ps people =
    ends_either (names.is_count s.options.form) (normal s.manner (decimal (all_shown ps)) ∷ []) (flat_map (names.indexed_variable s h people) (enumerate_from 0 (zip ps people)))
    (ends_normal s.manner (decimal (all_shown ps))) (ends_each (names.indexed_variable s h people) (ends_indexed_variable s h people) (enumerate_from 0 (zip ps people)))

pub ends_names : (ls : List Locale) (m : Manner) (h : NamesNode) (around : NamesAround) (ps : Properties) (people : List Answered) → EndAll (names_pieces ls m h around ps people)
ends_names ls m h around ps people =
    ends_framed (names.names_frame m h people) (names.people_pieces (names.style_of ls (names.people_manner m h) h around) (roles.merging h people) ps people)
    (ends_people (names.style_of ls (names.people_manner m h) h around) (roles.merging h people) ps people)

-- what is open on the page of a state is what was on the other one's
abbrev pub KeepsOpen : State → State → Type 0
KeepsOpen st done = AreLevel st.page.tokens done.page.tokens

pub keeps_append : (c : Context) (ps : List Piece) (st : State) → EndAll ps → KeepsOpen st (append c ps st)
keeps_append c ps st h = h.on_page c.quotes st.page

pub page_if : (b : Bool) (x y : State) (p : Page) → x.page ≡ p → y.page ≡ p → (if b then x else y).page ≡ p
page_if true x y p e f = e
page_if false x y p e f = f

-- what is remembered of what was printed in a substitute changes no page
pub page_printed : (v : Variable) (st : State) → (with_printed v st).page ≡ st.page
page_printed v st =
    page_if st.is_published (record st { printed = with_variable st.printed v }) (record st { suppressed = with_variable st.suppressed v }) st.page refl refl

pub page_standing : (st : State) → (standing st).page ≡ st.page
page_standing st = page_if st.is_published (record st { suppressed = st.printed }) st st.page refl refl

page_suppressing : (s : NodeSetting) (v : Variable) (st : State) → (suppressing s v st).page ≡ st.page
page_suppressing s v st = page_if s.in_substitute (with_printed v st) st st.page (page_printed v st) refl

page_using : (c : Context) (v : Variable) (st : State) → (using c v st).page ≡ st.page
page_using c v st =
    page_if c.is_bibliography st (record st { used = record { label = st.used.label || is_label_variable v; number = st.used.number || is_number_variable v } }) st.page refl refl

page_after : (c : Context) (s : NodeSetting) (v : Variable) (st : State) → (after_variable c s v st).page ≡ st.page
page_after c s v st =
    page_using c v (if is_variable v (asked_for c v) then suppressing s v st else st)
    ∙ page_if (is_variable v (asked_for c v)) (suppressing s v st) st st.page (page_suppressing s v st) refl

keeps_after : (c : Context) (s : NodeSetting) (v : Variable) (ps : List Piece) (st : State) → EndAll ps → KeepsOpen st (after_variable c s v (append c ps st))
keeps_after c s v ps st h = level_to st.page.tokens (append c ps st).page (after_variable c s v (append c ps st)).page (page_after c s v (append c ps st)) (keeps_append c ps st h)

pub keeps_leaf : (c : Context) (s : NodeSetting) (l : Leaf) (st : State) → KeepsOpen st (append_leaf c s l st)
keeps_leaf c s (nodes.text (of_variable v form) look) st =
    keeps_after c s v (text_pieces c s st.suppressed (of_variable v form) look) st (ends_text c s st.suppressed (of_variable v form) look)
keeps_leaf c s (nodes.text (of_term name form plural) look) st =
    keeps_append c (text_pieces c s st.suppressed (of_term name form plural) look) st (ends_text c s st.suppressed (of_term name form plural) look)
keeps_leaf c s (nodes.text (of_value cs) look) st = keeps_append c (value_pieces c s look cs) st (ends_value c s look cs)
keeps_leaf c s (nodes.number n) st = keeps_after c s n.variable (number_pieces c s st.suppressed n) st (ends_number c s st.suppressed n)
keeps_leaf c s (nodes.label v look) st = keeps_append c (label_pieces c s v look) st (ends_label c s v look)
keeps_leaf c s (nodes.date d) st =
    let answer = date_answer c st.suppressed d.variable in
    let is_later = is_passed_over c d st || st.has_date in
    let ps = day_pieces c s is_later d answer in
    level_to st.page.tokens (append c ps st).page (suppressing s (variables.Date d.variable) (append c ps st)).page
    (page_suppressing s (variables.Date d.variable) (append c ps st)) (keeps_append c ps st (ends_day c s is_later d answer))
