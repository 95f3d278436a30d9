-- What a cite without a locator answers to the variable of locators.
use Rattle.std.proofs.Common.{◌≡◌, Bool, true, false, List, refl, ap, ◌∙◌, if◌then◌else◌, Option, None, not, ◌&&◌}
use Rattle.std.proofs.lemmas.Bool.{false≢true}
use Rattle.rendering_context.specs.Answering.{Answer, answer_of, answer_to, asked_for, exchanged_for, is_missing, no_answer, of_locator, or_no_answer}
use Rattle.rendering_context.specs.Cites as cites
use Rattle.rendering_context.specs.Contexts.{Context}
use Rattle.rendering_taxonomy.specs.Variables.{is_among}
use Rattle.rendering_taxonomy.specs.declared.cite.IdentifierUsage.{IdentifierUsage}
use Rattle.rendering_taxonomy.specs.declared.cite.IdentifierUsage.TheVariants as usages
use Rattle.rendering_taxonomy.specs.declared.date.LongShortForm.{LongShortForm}
use Rattle.rendering_taxonomy.specs.declared.variable.NumberVariable.TheVariants as numbers
use Rattle.rendering_taxonomy.specs.declared.variable.Variable.{Variable}
use Rattle.rendering_taxonomy.specs.declared.variable.Variable.TheVariants as variables

-- the variable of locators
abbrev locator : Variable
locator = variables.Number numbers.Locator

-- nothing stands for it
itself : (u : IdentifierUsage) → exchanged_for u locator ≡ locator
itself usages.None = refl
itself usages.OnlyCitationLabel = refl
itself usages.OnlyCitationNumber = refl
itself usages.Mixed = refl

asked_itself : (b : Bool) (u : IdentifierUsage) → (if b then exchanged_for u locator else locator) ≡ locator
asked_itself true u = itself u
asked_itself false u = refl

missing_by : (b : Bool) (h : Answer) → is_missing h ≡ true → is_missing (if b then no_answer else h) ≡ true
missing_by true h e = refl
missing_by false h e = e

-- a cite without a locator answers nothing to it
pub no_locator : (c : Context) (suppressed : List Variable) (form : LongShortForm) → c.properties.locator ≡ None → is_missing (answer_to c suppressed form locator) ≡ true
no_locator c suppressed form none =
    missing_by (is_among suppressed locator) (answer_of c form (asked_for c locator))
    (ap (λ (v : Variable). is_missing (answer_of c form v)) (asked_itself c.is_bibliography c.properties.identifier_usage)
    ∙ ap (λ (l : Option cites.SpecificLocator). is_missing (or_no_answer (of_locator c.page_ranges c.is_published) l)) none)

-- what has no answer is not printed
pub missing_never : (a b : Bool) → a ≡ true → false ≡ (not a && b)
missing_never true b e = refl
missing_never false b e = absurd (false≢true e)
