-- What `clap` gives, as rows have it.
use Rattle.std.proofs.Common.{◌≡◌, ℕ, Bool, true, false, List, [], Option, Some, None, Result, Ok, Err, ap, codes, refl, sym, subst, ◌∙◌}
use Rattle.std.specs.Prelude.{unwrap_or}
use Rattle.std.specs.Str.{bytes_eq}
use Rattle.std.specs.Str.Parse.{ParsesBool}
use Rattle.std.proofs.lemmas.Slice.Eq.{bytes_eq-Decides}
use Rattle.clap.specs.Words.{App, HasKind, HasMatchesOf, ReadsOne, Row, Text, fault_of, first_of, found_of, is_simple, is_simple_and_free, matches_of, rows_of}
use Rattle.clap.specs.declared.error.Error.{Error}
use Rattle.clap.specs.declared.parser.matches.ArgMatches.{ArgMatches}
use Rattle.clap.proofs.OnLiterals.{clap_on_literals}
use Rattle.rendering_output.specs.declared.writing.BufWriteFormat.{BufWriteFormat}
use Rattle.laws.specs.Results.{◌>>=◌}
use Rattle.cite_csl_command.specs.Command.{asked_in, asked_with, cite_csl_app, format_in, is_given, value, values}
use Rattle.cite_csl_command.specs.Views.{IsAskedBy, IsAskedIn}
use Rattle.cite_csl_command.specs.declared.asked.Asked as code
use Rattle.cite_csl_command.specs.declared.asked.CommandFault.{CommandFault}
use Rattle.cite_csl_command.specs.declared.asked.CommandFault.TheVariants as faults

-- what is asked, by its format
asked_of : (rows : List Row) (format : BufWriteFormat) → format_in (first_of (codes "to") rows) ≡ Ok format → asked_in rows ≡ Ok (asked_with rows format)
asked_of rows format is = ap (λ (r : Result BufWriteFormat (List ℕ)). r >>= λ f. Ok (asked_with rows f)) is

-- the same of parts that are those of the rows
pub asked_is : (rows : List Row) (format : BufWriteFormat) (style document : List ℕ) (locales bibs sections : List (List ℕ)) (lang : Option (List ℕ)) (is_strict : Bool)
    → format_in (first_of (codes "to") rows) ≡ Ok format → style ≡ value (codes "style") rows → locales ≡ values (codes "locale") rows → lang ≡ first_of (codes "lang") rows
    → bibs ≡ values (codes "bib") rows → sections ≡ values (codes "section") rows → is_strict ≡ is_given (codes "strict") rows → document ≡ value (codes "document") rows
    → asked_in rows ≡ Ok (record { style = style; locales = locales; lang = lang; format = format; bibs = bibs; sections = sections; is_strict = is_strict; document = document })
asked_is rows format style document locales bibs sections lang is_strict is e1 e2 e3 e4 e5 e6 e7 = rw (e1, e2, e3, e4, e5, e6, e7) (asked_of rows format is)

-- a test that does not hold
not_so : (b : Bool) → (b ≡ true → ⊥) → false ≡ b
not_so true n = absurd (n refl)
not_so false n = refl

-- whether a flag is given, by what is read as its value
pub flag_is : (E : Type 0) (o : Option (List ℕ)) (r : Option Bool) → (o ≡ None → r ≡ None) → ((t : List ℕ) → o ≡ Some t → ReadsOne {E = E} ParsesBool t r)
    → unwrap_or r false ≡ bytes_eq (unwrap_or o []) (codes "true")
flag_is E None r none some = ap (λ (x : Option Bool). unwrap_or x false) (none refl)
flag_is E (Some t) None none some = not_so (bytes_eq t (codes "true")) (λ e. (some t refl).1.0 ((bytes_eq-Decides t (codes "true")).0 e))
flag_is E (Some t) (Some true) none some = sym (ap (λ (x : List ℕ). bytes_eq x (codes "true")) (some t refl))
flag_is E (Some t) (Some false) none some = sym (ap (λ (x : List ℕ). bytes_eq x (codes "true")) (some t refl))

-- the command is one of which matches and errors are known
free : is_simple_and_free cite_csl_app ≡ true
unfolding clap_on_literals
free = refl

simple : is_simple cite_csl_app ≡ true
unfolding clap_on_literals
simple = refl

-- the rows of matches of such a command
pub rows_are : (a : App) (words : List Text) (m : ArgMatches) → a ≡ cite_csl_app → HasMatchesOf a words m → rows_of (found_of m) ≡ matches_of cite_csl_app words
rows_are a words m is has = (has (ap is_simple is ∙ simple)).0 ∙ ap (λ (x : App). matches_of x words) is

-- what words ask for is what their matches ask for
pub asked_by_rows : (r : Result code.Asked CommandFault) (rows : List Row) (words : List Text) → rows ≡ matches_of cite_csl_app words → IsAskedIn r rows → IsAskedBy r words
asked_by_rows (Ok a) rows words is asked = ap asked_in (sym is) ∙ asked
asked_by_rows (Err (faults.Words error)) rows words is asked = absurd asked
asked_by_rows (Err (faults.Format line)) rows words is asked = ap asked_in (sym is) ∙ asked
asked_by_rows (Err faults.Memory) rows words is asked = tt

-- the kinds of the error of such a command
pub kinds_are : (a : App) (words : List Text) (e : Error) → a ≡ cite_csl_app → (is_simple_and_free a ≡ true → HasKind (fault_of a words) e) → HasKind (fault_of cite_csl_app words) e
kinds_are a words e is kinds = subst (λ (x : App). HasKind (fault_of x words) e) is (kinds (ap is_simple_and_free is ∙ free))
