-- Of entries that answer alike to what is named all answers and tests are the same.
use Rattle.std.proofs.Common.{◌≡◌, ℕ, Bool, true, false, not, ◌&&◌, ◌||◌, List, [], ◌∷◌, map, refl, ap, Contains, Option, None, codes}
use Rattle.std.specs.Prelude.{if◌then◌else◌}
use Rattle.std.specs.List.{filter, list_any, list_all}
use Rattle.std.specs.Option.{option_map_or}
use Rattle.std.proofs.lemmas.List.Elements.{Contains-append_left, Contains-append_right, Contains-push}
use Rattle.literature_values.specs.PersonViews.{Named as Person}
use Rattle.literature_values.specs.declared.date.Date.{Date}
use Rattle.rendering_entries.specs.Answers.{Answers}
use Rattle.rendering_entries.specs.Library.{characters_of}
use Rattle.rendering_style.specs.Nodes.{Test, Condition}
use Rattle.rendering_style.specs.Nodes as nodes
use Rattle.rendering_tree.specs.Metas.{Answered}
use Rattle.rendering_context.specs.Contexts.{Context}
use Rattle.rendering_context.specs.Answering.{Answer, no_answer, or_no_answer, as_text, of_address, of_entry, text_answer_to, text_written, of_pieces, of_pages, number_answer, standard_answer, answer_of, exchanged_for, asked_for, answer_to, is_missing, date_answer, people_answer, with_people, all_people, is_plural_answer, is_plural_variable, is_numeric_answer, is_numeric_variable, has_answer}
use Rattle.rendering_context.specs.Choosing.{holds, match_holds, is_met}
use Rattle.rendering_nodes.specs.Named.{Named, joined_named, variable_named, people_named, named_in_test, named_in_tests, as_printed, AnswerAlike, AreAlike}
use Rattle.rendering_nodes.specs.Laws.{with_answers}
use Rattle.rendering_taxonomy.specs.Variables.{is_among}
use Rattle.rendering_taxonomy.specs.declared.choose.ChooseMatch.{ChooseMatch}
use Rattle.rendering_taxonomy.specs.declared.choose.ChooseMatch.TheVariants as matches
use Rattle.rendering_taxonomy.specs.declared.cite.IdentifierUsage.{IdentifierUsage}
use Rattle.rendering_taxonomy.specs.declared.cite.IdentifierUsage.TheVariants as usages
use Rattle.rendering_taxonomy.specs.declared.date.LongShortForm.{LongShortForm}
use Rattle.rendering_taxonomy.specs.declared.date.LongShortForm.TheVariants as lengths
use Rattle.rendering_taxonomy.specs.declared.kind.Kind.{Kind}
use Rattle.rendering_taxonomy.specs.declared.variable.DateVariable.{DateVariable}
use Rattle.rendering_taxonomy.specs.declared.variable.NameVariable.{NameVariable}
use Rattle.rendering_taxonomy.specs.declared.variable.NumberVariable.{NumberVariable}
use Rattle.rendering_taxonomy.specs.declared.variable.NumberVariable.TheVariants as number
use Rattle.rendering_taxonomy.specs.declared.variable.StandardVariable.{StandardVariable}
use Rattle.rendering_taxonomy.specs.declared.variable.StandardVariable.TheVariants as standard
use Rattle.rendering_taxonomy.specs.declared.variable.Variable.{Variable}
use Rattle.rendering_taxonomy.specs.declared.variable.Variable.TheVariants as variables

-- the text of a number or of pages as it was written, where it counts
abbrev counted : Bool → Answers → Variable → Option (List ℕ)
counted is_published a v = if is_published then a.written v else None

abbrev WrittenAlike : Bool → Answers → Answers → Variable → Type 0
WrittenAlike w a b v = counted w a v ≡ counted w b v

-- two entries answer one variable alike, and as it was written where that counts
abbrev pub AlikeAt : Bool → Answers → Answers → Variable → Type 0
AlikeAt w a b (variables.Standard v) = (form : LongShortForm) → a.standard form v ≡ b.standard form v
AlikeAt w a b (variables.Number v) = (a.number v ≡ b.number v) × WrittenAlike w a b (variables.Number v)
AlikeAt w a b variables.Page = (a.pages ≡ b.pages) × WrittenAlike w a b variables.Page
AlikeAt w a b (variables.Name v) = a.people v ≡ b.people v
AlikeAt w a b (variables.Date v) = a.date v ≡ b.date v

-- the same of all that is named
pub record AlikeIn (w : Bool) (n : Named) (a b : Answers) : Type 0 where
  pub variables : (v : Variable) → Contains n.variables v → AlikeAt w a b v
  pub kinds : (k : Kind) → Contains n.kinds k → a.kind k ≡ b.kind k
  pub english : a.english ≡ b.english

at_one : (w : Bool) (a b : Answers) (v : Variable) → AnswerAlike a b v → WrittenAlike w a b v → AlikeAt w a b v
at_one w a b (variables.Standard v) e t = e
at_one w a b (variables.Number v) e t = (e, t)
at_one w a b variables.Page e t = (e, t)
at_one w a b (variables.Name v) e t = e
at_one w a b (variables.Date v) e t = e

-- as a style prints it that is a published one or not
pub alike_in : (w : Bool) (n : Named) (a b : Answers) → AreAlike (as_printed w n) a b → AlikeIn w n a b
alike_in true n a b h = record { variables = λ v k. at_one true a b v (h.variables v k) (h.written v k); kinds = h.kinds; english = h.english }
alike_in false n a b h = record { variables = λ v k. at_one false a b v (h.variables v k) refl; kinds = h.kinds; english = h.english }

-- both have the same label
abbrev pub LabelsAlike : Answers → Answers → Type 0
LabelsAlike a b = AnswerAlike a b (variables.Standard standard.CitationLabel)

-- what is alike in all that two name is so in what each of them names
pub first_alike : {w : Bool} (m n : Named) (a b : Answers) → AlikeIn w (joined_named m n) a b → AlikeIn w m a b
first_alike m n a b h = record {
  variables = λ v k. h.variables v (Contains-append_left m.variables n.variables v k);
  kinds = λ k l. h.kinds k (Contains-append_left m.kinds n.kinds k l);
  english = h.english;
}

pub others_alike : {w : Bool} (m n : Named) (a b : Answers) → AlikeIn w (joined_named m n) a b → AlikeIn w n a b
others_alike m n a b h = record {
  variables = λ v k. h.variables v (Contains-append_right m.variables n.variables v k);
  kinds = λ k l. h.kinds k (Contains-append_right m.kinds n.kinds k l);
  english = h.english;
}

pub first_named : (m n : Named) (a b : Answers) → AreAlike (joined_named m n) a b → AreAlike m a b
first_named m n a b h = record {
  variables = λ v k. h.variables v (Contains-append_left m.variables n.variables v k);
  written = λ v k. h.written v (Contains-append_left m.written n.written v k);
  kinds = λ k l. h.kinds k (Contains-append_left m.kinds n.kinds k l);
  english = h.english;
}

pub others_named : (m n : Named) (a b : Answers) → AreAlike (joined_named m n) a b → AreAlike n a b
others_named m n a b h = record {
  variables = λ v k. h.variables v (Contains-append_right m.variables n.variables v k);
  written = λ v k. h.written v (Contains-append_right m.written n.written v k);
  kinds = λ k l. h.kinds k (Contains-append_right m.kinds n.kinds k l);
  english = h.english;
}

-- the one variable that is named
pub one_alike : {w : Bool} (v : Variable) (a b : Answers) → AlikeIn w (variable_named v) a b → AlikeAt w a b v
one_alike v a b h = h.variables v (Contains-push [] v)

number_same : (a b : Answers) (c : Context) (v : NumberVariable) → AlikeAt c.is_published a b (variables.Number v) → number_answer (with_answers a c) v ≡ number_answer (with_answers b c) v
number_same a b c number.CitationNumber e = refl
number_same a b c number.FirstReferenceNoteNumber e = refl
number_same a b c number.Locator e = refl
number_same a b c v e = λ i. of_entry (e.0 i) (e.1 i)

standard_same : (a b : Answers) (c : Context) (form : LongShortForm) (v : StandardVariable) → a.standard form v ≡ b.standard form v
    → standard_answer (with_answers a c) form v ≡ standard_answer (with_answers b c) form v
standard_same a b c form standard.Doi e = ap (or_no_answer (λ cs. of_address (codes "https://doi.org/") (characters_of cs))) e
standard_same a b c form standard.Url e = ap (or_no_answer (λ cs. of_address [] (characters_of cs))) e
standard_same a b c form standard.YearSuffix e = refl
standard_same a b c form v e = ap (or_no_answer of_pieces) e

-- the answers to a variable
pub answer_same : (a b : Answers) (c : Context) (form : LongShortForm) (v : Variable) → AlikeAt c.is_published a b v
    → answer_of (with_answers a c) form v ≡ answer_of (with_answers b c) form v
answer_same a b c form (variables.Standard v) e = standard_same a b c form v (e form)
answer_same a b c form (variables.Number v) e = number_same a b c v e
answer_same a b c form variables.Page e = ap (or_no_answer of_pages) e.0
answer_same a b c form (variables.Name v) e = refl
answer_same a b c form (variables.Date v) e = refl

-- the same of the variable that stands for it
exchanged_same : (a b : Answers) (c : Context) (form : LongShortForm) (usage : IdentifierUsage) (v : Variable) → LabelsAlike a b → AlikeAt c.is_published a b v
    → answer_of (with_answers a c) form (exchanged_for usage v) ≡ answer_of (with_answers b c) form (exchanged_for usage v)
exchanged_same a b c form usages.OnlyCitationLabel (variables.Number number.CitationNumber) l e = standard_same a b c form standard.CitationLabel (l form)
exchanged_same a b c form usages.OnlyCitationNumber (variables.Standard standard.CitationLabel) l e = refl
exchanged_same a b c form usage v l e = answer_same a b c form v e

asked_by : (a b : Answers) (c : Context) (form : LongShortForm) (exchanges : Bool) (usage : IdentifierUsage) (v : Variable) → LabelsAlike a b → AlikeAt c.is_published a b v
    → answer_of (with_answers a c) form (if exchanges then exchanged_for usage v else v) ≡ answer_of (with_answers b c) form (if exchanges then exchanged_for usage v else v)
asked_by a b c form true usage v l e = exchanged_same a b c form usage v l e
asked_by a b c form false usage v l e = answer_same a b c form v e

asked_same : (a b : Answers) (c : Context) (form : LongShortForm) (v : Variable) → LabelsAlike a b → AlikeAt c.is_published a b v
    → answer_of (with_answers a c) form (asked_for c v) ≡ answer_of (with_answers b c) form (asked_for c v)
asked_same a b c form v l e = asked_by a b c form c.is_bibliography c.properties.identifier_usage v l e

-- what is printed of a variable
pub printed_same : (a b : Answers) (c : Context) (vs : List Variable) (form : LongShortForm) (v : Variable) → LabelsAlike a b → AlikeAt c.is_published a b v
    → answer_to (with_answers a c) vs form v ≡ answer_to (with_answers b c) vs form v
printed_same a b c vs form v l e = ap (λ (h : Answer). if is_among vs v then no_answer else h) (asked_same a b c form v l e)

-- the text of the variable that is asked
text_same : (a b : Answers) (c : Context) (v : Variable) → AlikeAt c.is_published a b v → text_written (with_answers a c) v ≡ text_written (with_answers b c) v
text_same a b c (variables.Number number.CitationNumber) e = refl
text_same a b c (variables.Number number.FirstReferenceNoteNumber) e = refl
text_same a b c (variables.Number number.Locator) e = refl
text_same a b c (variables.Number v) e = e.1
text_same a b c variables.Page e = e.1
text_same a b c v e = refl

text_exchanged_same : (a b : Answers) (c : Context) (usage : IdentifierUsage) (v : Variable) → AlikeAt c.is_published a b v
    → text_written (with_answers a c) (exchanged_for usage v) ≡ text_written (with_answers b c) (exchanged_for usage v)
text_exchanged_same a b c usages.OnlyCitationLabel (variables.Number number.CitationNumber) e = refl
text_exchanged_same a b c usages.OnlyCitationNumber (variables.Standard standard.CitationLabel) e = refl
text_exchanged_same a b c usage v e = text_same a b c v e

text_asked_same : (a b : Answers) (c : Context) (exchanges : Bool) (usage : IdentifierUsage) (v : Variable) → AlikeAt c.is_published a b v
    → text_written (with_answers a c) (if exchanges then exchanged_for usage v else v) ≡ text_written (with_answers b c) (if exchanges then exchanged_for usage v else v)
text_asked_same a b c true usage v e = text_exchanged_same a b c usage v e
text_asked_same a b c false usage v e = text_same a b c v e

-- what a text node prints
pub text_printed_same : (a b : Answers) (c : Context) (vs : List Variable) (form : LongShortForm) (v : Variable) → LabelsAlike a b → AlikeAt c.is_published a b v
    → text_answer_to (with_answers a c) vs form v ≡ text_answer_to (with_answers b c) vs form v
text_printed_same a b c vs form v l e =
    λ i. as_text (text_asked_same a b c c.is_bibliography c.properties.identifier_usage v e i) (printed_same a b c vs form v l e i)

pub date_same : (a b : Answers) (c : Context) (vs : List Variable) (v : DateVariable) → AlikeAt c.is_published a b (variables.Date v)
    → date_answer (with_answers a c) vs v ≡ date_answer (with_answers b c) vs v
date_same a b c vs v e = ap (λ (o : Option Date). if is_among vs (variables.Date v) then None else o) e

people_same : (a b : Answers) (c : Context) (vs : List Variable) (v : NameVariable) → AlikeAt c.is_published a b (variables.Name v)
    → people_answer (with_answers a c) vs v ≡ people_answer (with_answers b c) vs v
people_same a b c vs v e = ap (λ (ps : List Person). if is_among vs (variables.Name v) then [] else ps) e

-- a variable with its people
abbrev people_of : Context → List Variable → NameVariable → Answered
people_of c sup v = (people_answer c sup v, v)

pairs_same : (a b : Answers) (c : Context) (sup : List Variable) (vs : List NameVariable) → AlikeIn c.is_published (people_named vs) a b
    → map (people_of (with_answers a c) sup) vs ≡ map (people_of (with_answers b c) sup) vs
pairs_same a b c sup [] h = refl
pairs_same a b c sup (v ∷ vs) h =
    let this = variable_named (variables.Name v) in
    let first = people_same a b c sup v (one_alike (variables.Name v) a b (first_alike this (people_named vs) a b h)) in
    let rest = pairs_same a b c sup vs (others_alike this (people_named vs) a b h) in
    λ i. (first i, v) ∷ rest i

pub all_people_same : (a b : Answers) (c : Context) (sup : List Variable) (vs : List NameVariable) → AlikeIn c.is_published (people_named vs) a b
    → all_people (with_answers a c) sup vs ≡ all_people (with_answers b c) sup vs
all_people_same a b c sup vs h = ap (filter with_people) (pairs_same a b c sup vs h)

-- whether there is an answer, a number, more than one
pub has_same : (a b : Answers) (c : Context) (v : Variable) → LabelsAlike a b → AlikeAt c.is_published a b v → has_answer (with_answers a c) v ≡ has_answer (with_answers b c) v
has_same a b c (variables.Name v) l e = ap (λ (ps : List Person). with_people (ps, v)) e
has_same a b c (variables.Date v) l e = ap (λ (o : Option Date). option_map_or (λ (d : Date). true) o false) e
has_same a b c v l e = ap (λ h. not (is_missing h)) (asked_same a b c lengths.Long v l e)

numeric_same : (a b : Answers) (c : Context) (v : Variable) → AlikeAt c.is_published a b v → is_numeric_variable (with_answers a c) v ≡ is_numeric_variable (with_answers b c) v
numeric_same a b c (variables.Number number.Locator) e = refl
numeric_same a b c v e = ap (is_numeric_answer c.is_published) (answer_same a b c lengths.Long v e)

pub plural_same : (a b : Answers) (c : Context) (v : Variable) → AlikeAt c.is_published a b v → is_plural_variable (with_answers a c) v ≡ is_plural_variable (with_answers b c) v
plural_same a b c (variables.Number number.Locator) e = refl
plural_same a b c v e = ap (is_plural_answer c.is_published) (answer_same a b c lengths.Long v e)

-- whether a test holds
holds_same : (a b : Answers) (c : Context) (t : Test) → LabelsAlike a b → AlikeIn c.is_published (named_in_test t) a b → holds (with_answers a c) t ≡ holds (with_answers b c) t
holds_same a b c (nodes.is_of_kind k) l h = h.kinds k (Contains-push [] k)
holds_same a b c (nodes.has_answer v) l h = has_same a b c v l (one_alike v a b h)
holds_same a b c (nodes.is_numeric v) l h = numeric_same a b c v (one_alike v a b h)
holds_same a b c (nodes.is_uncertain v) l h = ap (λ (o : Option Date). option_map_or (λ (d : Date). d.approximate) o false) (one_alike (variables.Date v) a b h)
holds_same a b c (nodes.has_locator m) l h = refl
holds_same a b c (nodes.stands_at position) l h = refl
holds_same a b c nodes.is_alike l h = refl

any_same : (a b : Answers) (c : Context) (ts : List Test) → LabelsAlike a b → AlikeIn c.is_published (named_in_tests ts) a b
    → list_any (holds (with_answers a c)) ts ≡ list_any (holds (with_answers b c)) ts
any_same a b c [] l h = refl
any_same a b c (t ∷ ts) l h =
    let first = holds_same a b c t l (first_alike (named_in_test t) (named_in_tests ts) a b h) in
    let rest = any_same a b c ts l (others_alike (named_in_test t) (named_in_tests ts) a b h) in
    λ i. first i || rest i

every_same : (a b : Answers) (c : Context) (ts : List Test) → LabelsAlike a b → AlikeIn c.is_published (named_in_tests ts) a b
    → list_all (holds (with_answers a c)) ts ≡ list_all (holds (with_answers b c)) ts
every_same a b c [] l h = refl
every_same a b c (t ∷ ts) l h =
    let first = holds_same a b c t l (first_alike (named_in_test t) (named_in_tests ts) a b h) in
    let rest = every_same a b c ts l (others_alike (named_in_test t) (named_in_tests ts) a b h) in
    λ i. first i && rest i

match_same : (a b : Answers) (c : Context) (m : ChooseMatch) (ts : List Test) → LabelsAlike a b → AlikeIn c.is_published (named_in_tests ts) a b
    → match_holds m (holds (with_answers a c)) ts ≡ match_holds m (holds (with_answers b c)) ts
match_same a b c matches.All ts l h = every_same a b c ts l h
match_same a b c matches.Any ts l h = any_same a b c ts l h
match_same a b c matches.None ts l h = ap not (any_same a b c ts l h)

-- whether a condition does
pub met_same : (a b : Answers) (c : Context) (condition : Condition) → LabelsAlike a b → AlikeIn c.is_published (named_in_tests condition.tests) a b
    → is_met (with_answers a c) condition ≡ is_met (with_answers b c) condition
met_same a b c condition l h = match_same a b c condition.required condition.tests l h
