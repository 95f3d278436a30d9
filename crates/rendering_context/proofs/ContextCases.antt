-- What is answered to the variable that is asked.
use Rattle.std.proofs.Common.{◌≡◌, ℕ, Bool, true, false, cond, not, ◌&&◌, List, [], codes, Option, Some, None, refl, sym, ap, ◌∙◌}
use Rattle.std.specs.Prelude.{Result, Ok, IfOk, if◌then◌else◌}
use Rattle.std.specs.List.{list_any}
use Rattle.std.proofs.lemmas.Result.{IfOk-weaker}
use Rattle.literature_numbers.specs.Numerics.{Numeral}
use Rattle.literature_numbers.specs.Pages.{Part}
use Rattle.literature_values.specs.TypedViews.{ValueOrText, Value, Text}
use Rattle.rendering_entries.specs.Library.{characters_of}
use Rattle.rendering_taxonomy.specs.Kinds.{is_locator}
use Rattle.rendering_taxonomy.specs.Variables.{is_among}
use Rattle.rendering_taxonomy.specs.declared.locator.Locator.TheVariants as locators
use Rattle.rendering_context.specs.Answering.{no_answer, answer_of, answer_to, as_text, asked_for, has_answer, is_missing, is_numeric_answer, is_plural_answer, is_range_sign, of_address, of_entry, of_locator, of_number, of_page_payload, of_payload, or_no_answer, ranges, spelled_pages, standard_answer, text_answer_to, text_written, written_in}
use Rattle.rendering_context.specs.Cites.{Payload, SpecificLocator, written, transparent}
use Rattle.rendering_context.specs.Contexts.{Context}
use Rattle.rendering_context.specs.Stretches.{is_numeric_text}
use Rattle.rendering_taxonomy.specs.declared.date.LongShortForm.{LongShortForm}
use Rattle.rendering_taxonomy.specs.declared.date.LongShortForm.TheVariants as lengths
use Rattle.rendering_taxonomy.specs.declared.variable.DateVariable.{DateVariable}
use Rattle.rendering_taxonomy.specs.declared.variable.NameVariable.{NameVariable}
use Rattle.rendering_taxonomy.specs.declared.variable.NumberVariable.{NumberVariable}
use Rattle.rendering_taxonomy.specs.declared.variable.NumberVariable.TheVariants as number
use Rattle.rendering_taxonomy.specs.declared.variable.StandardVariable.{StandardVariable}
use Rattle.rendering_taxonomy.specs.declared.variable.StandardVariable.TheVariants as standard
use Rattle.rendering_taxonomy.specs.declared.variable.Variable.{Variable}
use Rattle.rendering_taxonomy.specs.declared.variable.Variable.TheVariants as variables

-- what is equal to one thing is equal to another that is the same
pub if_same : {X T E : Type 0} (r : Result T E) (view : T → X) (y z : X) → y ≡ z → IfOk r (λ a. view a ≡ y) → IfOk r (λ a. view a ≡ z)
if_same r view y z e given = IfOk-weaker r (λ a. view a ≡ y) (λ a. view a ≡ z) (λ a same. same ∙ e) given

-- a variable that is printed answers what is asked
pub answer_asked : (c : Context) (suppressed : List Variable) (form : LongShortForm) (v w : Variable) → is_among suppressed v ≡ false → w ≡ asked_for c v
    → answer_of c form w ≡ answer_to c suppressed form v
answer_asked c suppressed form v w e f = ap (answer_of c form) f ∙ ap (λ b. cond b no_answer (answer_of c form (asked_for c v))) (sym e)

-- what is no person and no date is answered where something is printed
pub has_asked : (c : Context) (v w : Variable) → ((x : NameVariable) → v ≡ variables.Name x → ⊥) → ((x : DateVariable) → v ≡ variables.Date x → ⊥) → w ≡ asked_for c v
    → not (is_missing (answer_of c lengths.Long w)) ≡ has_answer c v
has_asked c (variables.Standard x) w n d f = ap (λ (u : Variable). not (is_missing (answer_of c lengths.Long u))) f
has_asked c (variables.Number x) w n d f = ap (λ (u : Variable). not (is_missing (answer_of c lengths.Long u))) f
has_asked c variables.Page w n d f = ap (λ (u : Variable). not (is_missing (answer_of c lengths.Long u))) f
has_asked c (variables.Name x) w n d f = absurd (n x refl)
has_asked c (variables.Date x) w n d f = absurd (d x refl)

-- an identifier is answered as an address after the text before it
pub doi_answer : (c : Context) (form : LongShortForm) (v : StandardVariable) (start : List ℕ) → v ≡ standard.Doi → start ≡ codes "https://doi.org/"
    → or_no_answer (λ cs. of_address start (characters_of cs)) (c.answers.standard form v) ≡ standard_answer c form v
doi_answer c form v start e f = rw (e, f) refl

-- an address is answered as it is
pub url_answer : (c : Context) (form : LongShortForm) (v : StandardVariable) (start : List ℕ) → v ≡ standard.Url → start ≡ []
    → or_no_answer (λ cs. of_address start (characters_of cs)) (c.answers.standard form v) ≡ standard_answer c form v
url_answer c form v start e f = rw (e, f) refl

-- in a style that is no published one and names no format for ranges of pages a locator answers its text
pub locator_without_format : (l : SpecificLocator) → of_locator None false l ≡ of_payload false l.payload
locator_without_format l = either (is_locator locators.Page l.label) l.payload
  where
    either : (b : Bool) (p : Payload) → (if b then of_page_payload None false p else of_payload false p) ≡ of_payload false p
    either true (written cs) = refl
    either true transparent = refl
    either false p = refl

-- in a style that is no published one a locator answers its text as it is
pub locator_as_it_is : (cs : List ℕ) → of_payload false (written cs) ≡ of_number (Text cs)
locator_as_it_is cs = refl

-- the pages that it spells, whatever noughts stand before their numbers
pub pages_spelled : (cs : List ℕ) (ps : List Part) → spelled_pages false cs (Ok ps) ≡ ranges (Value ps)
pages_spelled cs ps = refl

-- numbers and pages answer what the entry answers
module _ (c : Context) (not_published : c.is_published ≡ false) where
  nothing_written : (v : Variable) → written_in c v ≡ None
  nothing_written v = ap (λ (b : Bool). if b then c.answers.written v else None) not_published

  pub number_as_it_is : (v : NumberVariable) → of_entry (c.answers.number v) (written_in c (variables.Number v)) ≡ or_no_answer of_number (c.answers.number v)
  number_as_it_is v = ap (of_entry (c.answers.number v)) (nothing_written (variables.Number v)) ∙ without (c.answers.number v)
    where
      without : (n : Option (ValueOrText Numeral)) → of_entry n None ≡ or_no_answer of_number n
      without None = refl
      without (Some n) = refl

  no_text : (v : Variable) → text_written c v ≡ None
  no_text (variables.Number number.CitationNumber) = refl
  no_text (variables.Number number.FirstReferenceNoteNumber) = refl
  no_text (variables.Number number.Locator) = refl
  no_text (variables.Number v) = nothing_written (variables.Number v)
  no_text variables.Page = nothing_written variables.Page
  no_text v = refl

  -- text nodes print what number nodes print
  pub texts_as_numbers : (suppressed : List Variable) (form : LongShortForm) (v : Variable) → text_answer_to c suppressed form v ≡ answer_to c suppressed form v
  texts_as_numbers suppressed form v = ap (λ t. as_text t (answer_to c suppressed form v)) (no_text (asked_for c v))

  -- a text has no more than one
  pub texts_are_singular : (cs : List ℕ) → is_plural_answer c.is_published (ranges (Text cs)) ≡ false
  texts_are_singular cs = ap (λ (b : Bool). b && list_any is_range_sign cs) not_published

  -- and is no number
  pub texts_are_no_numbers : (cs : List ℕ) → is_numeric_answer c.is_published (ranges (Text cs)) ≡ false
  texts_are_no_numbers cs = ap (λ (b : Bool). b && is_numeric_text cs) not_published
