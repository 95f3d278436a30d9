-- Cases of states, computed.
use Rattle.std.proofs.Common.{◌≡◌, ℕ, Bool, true, false, cond, ◌&&◌, List, [], ◌∷◌, ◌++◌, codes, refl, ap, Some, None}
use Rattle.std.specs.Prelude.{◌==◌, nat_lt}
use Rattle.literature_values.specs.PersonViews.{Named}
use Rattle.rendering_taxonomy.specs.Formats.{plain}
use Rattle.rendering_tree.specs.Metas as metas
use Rattle.rendering_tree.specs.Trees.{Children, Text, Elem, nothing, before}
use Rattle.rendering_style.specs.Styles.{Citation}
use Rattle.rendering_people.specs.Properties.{Properties, all_shown}
use Rattle.rendering_context.specs.Cites.{DisambiguateState, undisambiguated, by_names, by_choose, by_suffix, names_of}
use Rattle.driver_requests.specs.Suffixes.{Origin}
use Rattle.sorting.specs.Sorted.{sorted}
use Rattle.std.specs.List.{flat_map, list_any}
use Rattle.driver_names.specs.Prints.{given_to, Candidate, Printed}
use Rattle.driver_disambiguation.specs.States.{joined_for, states_after}
use Rattle.driver_disambiguation.specs.Classes.{entries_of, parts}
use Rattle.driver_disambiguation.specs.Rounds.{by_number, choose_beside, disambiguated, states_by_choose, states_by_suffixes, suffixes_for}
use Rattle.rendering_taxonomy.specs.declared.name.DisambiguatedNameForm.TheVariants as forms
use Rattle.rendering_taxonomy.specs.declared.variable.NameVariable.TheVariants as name

-- parts come in the order of their second members
in_parts : parts ◌==◌ (1 ∷ 2 ∷ 3 ∷ 2 ∷ 1 ∷ 1 ∷ []) ≡ (2 ∷ 2 ∷ []) ∷ (1 ∷ 1 ∷ 1 ∷ []) ∷ []
in_parts = refl

-- a style that adds year suffixes, and no given names
adding_suffix : Citation → Citation
adding_suffix c =
    record c { add_names = false; add_givenname = false; add_year_suffix = true; first_chooses_too = false; same_entry_is_no_rival = false; suffixes_by_number = false }

-- a date that prints a text
dated : List ℕ → Children
dated cs = before (Elem None (Some metas.Date) (before (Text plain cs) nothing)) nothing

-- a cite that prints a date alone
cite : Citation → ℕ → List ℕ → Candidate
cite c entry cs = record { entry = entry; number = entry; has_date = true; style = adding_suffix c; repeats = false; printed = λ state. dated cs; met_disambiguate = false; names = None }

two_alike : (c : Citation) → (disambiguated false 2 (cite c 0 (codes "A") ∷ cite c 1 (codes "A") ∷ cite c 1 (codes "A") ∷ [])).states ≡ by_suffix 0 ∷ by_suffix 1 ∷ []
unfolding cite dated adding_suffix
two_alike c = refl

one_entry : (c : Citation) → (disambiguated false 1 (cite c 0 (codes "A") ∷ cite c 0 (codes "A") ∷ [])).states ≡ undisambiguated ∷ []
unfolding cite dated adding_suffix
one_entry c = refl

four_pairs :
    (c : Citation)
    → (disambiguated false 8 (cite c 0 (codes "A") ∷ cite c 1 (codes "B") ∷ cite c 2 (codes "A") ∷ cite c 3 (codes "B") ∷ cite c 4 (codes "C") ∷ cite c 5 (codes "C") ∷ cite c 6 (codes "D") ∷ cite c 7 (codes "D") ∷ [])).states
    ≡ by_suffix 0 ∷ by_suffix 0 ∷ by_suffix 1 ∷ by_suffix 1 ∷ by_suffix 0 ∷ by_suffix 1 ∷ by_suffix 0 ∷ by_suffix 1 ∷ []
unfolding cite dated adding_suffix
four_pairs c = refl

-- what a style of branches prints: another text where branches disambiguate
branching : List ℕ → List ℕ → DisambiguateState → Children
branching cs ds by_choose = dated ds
branching cs ds state = dated cs

-- a cite for which the test `disambiguate` was evaluated
asked : Citation → ℕ → List ℕ → Candidate
asked c entry ds = record { entry = entry; number = entry; has_date = true; style = adding_suffix c; repeats = false; printed = branching (codes "Kwan") ds; met_disambiguate = true; names = None }

-- all cites of the first entry are passed over
but_the_first : (c : Citation) → (disambiguated false 2 (asked c 0 (codes "T") ∷ asked c 0 (codes "T") ∷ asked c 1 (codes "U") ∷ [])).states ≡ undisambiguated ∷ by_choose ∷ []
unfolding asked branching dated adding_suffix
but_the_first c = refl

-- a style that leaves none of them out
choosing_all : Citation → Citation
choosing_all c = record (adding_suffix c) { first_chooses_too = true }

-- the first entry takes the branch too
with_the_first :
    (c : Citation)
    → (disambiguated false 2 (record (asked c 0 (codes "T")) { style = choosing_all c } ∷ record (asked c 0 (codes "T")) { style = choosing_all c } ∷ record (asked c 1 (codes "U")) { style = choosing_all c } ∷ [])).states
    ≡ by_choose ∷ by_choose ∷ []
unfolding asked branching dated adding_suffix choosing_all
with_the_first c = refl

-- a cite whose entry has a number, in a style that gives year suffixes by these
numbered : Citation → ℕ → ℕ → List ℕ → Candidate
numbered c entry n cs = record (cite c entry cs) { number = n; style = record (adding_suffix c) { suffixes_by_number = true } }

-- year suffixes by numbers, not by first cites
by_numbers : (c : Citation) → (disambiguated false 3 (numbered c 0 2 (codes "A") ∷ numbered c 1 0 (codes "A") ∷ numbered c 2 1 (codes "A") ∷ numbered c 1 0 (codes "A") ∷ [])).states ≡ by_suffix 2 ∷ by_suffix 0 ∷ by_suffix 1 ∷ []
unfolding cite dated adding_suffix numbered
by_numbers c = refl

-- a person by the family name
person : List ℕ → Named
person cs = record { name = cs; given_name = None; prefix = None; suffix = None }

-- what is shown of two authors
two_shown : ℕ → Properties
two_shown n = record { variable = name.Author; forms = forms.ShortFull ∷ forms.ShortFull ∷ []; shown = n } ∷ []

-- what is printed of two authors where both are shown, or the first alone
shown_of : List ℕ → Bool → List ℕ
shown_of cs true = cs
shown_of cs false = codes "Roe"

-- two authors as a state shows them
authors : List ℕ → DisambiguateState → Children
authors cs state =
    before (Elem None (Some (metas.Names ((person (codes "Roe") ∷ person cs ∷ [], name.Author) ∷ [])))
    (before (Text plain (shown_of cs (nat_lt 1 (all_shown (names_of state))))) nothing)) nothing

-- a cite of two authors, of whom one is shown
authored : Citation → ℕ → List ℕ → Candidate
authored c entry cs = record { entry = entry; number = entry; has_date = true; style = adding_suffix c; repeats = false; printed = authors cs; met_disambiguate = false; names = Some (two_shown 1) }

more_names : (c : Citation) → (disambiguated true 2 (authored c 0 (codes "Lee") ∷ authored c 1 (codes "Poe") ∷ [])).states ≡ by_names (two_shown 2) ∷ by_names (two_shown 2) ∷ []
unfolding authored authors shown_of person two_shown adding_suffix
more_names c = refl

-- where names are not added they change nothing
no_names : (c : Citation) → (disambiguated false 2 (authored c 0 (codes "Lee") ∷ authored c 1 (codes "Poe") ∷ [])).states ≡ undisambiguated ∷ undisambiguated ∷ []
unfolding authored authors shown_of person two_shown adding_suffix
no_names c = refl

-- one style of a class that adds year suffixes is enough
one_style : (c : Citation) → (disambiguated false 2 (cite c 0 (codes "A") ∷ record (cite c 1 (codes "A")) { style = record (adding_suffix c) { add_year_suffix = false } } ∷ [])).states ≡ by_suffix 0 ∷ by_suffix 1 ∷ []
unfolding cite dated adding_suffix
one_style c = refl

-- what gives states in these cases
origin : Origin
origin = record { round = 0; class = 0 }

-- the greatest of a round, also where it was given first
greatest : joined_for 0 (given_to 0 (by_suffix 3) origin ∷ given_to 0 by_choose origin ∷ []) ≡ Some (by_suffix 3)
unfolding origin
greatest = refl

-- what is shown of two editors
edited : Properties
edited = record { variable = name.Editor; forms = forms.ShortFull ∷ forms.ShortFull ∷ []; shown = 1 } ∷ []

-- of equally great ones the last
last_of_equal : joined_for 0 (given_to 0 (by_names (two_shown 1)) origin ∷ given_to 0 (by_names edited) origin ∷ []) ≡ Some (by_names edited)
unfolding two_shown edited origin
last_of_equal = refl

-- the states of a round are instead of earlier ones, also of greater ones
in_place : states_after (given_to 0 (by_names []) origin ∷ []) (by_choose ∷ by_choose ∷ []) ≡ by_names [] ∷ by_choose ∷ []
unfolding origin
in_place = refl

-- what a cite prints undisambiguated, and what it prints by any
printed_first : List ℕ → DisambiguateState → List ℕ
printed_first cs undisambiguated = cs
printed_first cs state = codes "B"

-- two authors and a date
dated_authors : List ℕ → List ℕ → DisambiguateState → Children
dated_authors family cs state =
    before (Elem None (Some (metas.Names ((person (codes "Roe") ∷ person family ∷ [], name.Author) ∷ []))) (before (Text plain (printed_first cs state)) nothing)) (dated (codes "1"))

-- a cite of two authors, of whom one is shown, with a date
dated_cite : Citation → ℕ → List ℕ → List ℕ → Candidate
dated_cite c entry family cs = record { entry = entry; number = entry; has_date = true; style = adding_suffix c; repeats = false; printed = dated_authors family cs; met_disambiguate = false; names = Some (two_shown 1) }

-- names of two cites in the first round, of the third in the second, year suffixes of all in the third
third_round :
    (c : Citation)
    → (disambiguated true 3 (dated_cite c 0 (codes "Lee") (codes "A") ∷ dated_cite c 1 (codes "Poe") (codes "A") ∷ dated_cite c 2 (codes "Max") (codes "B") ∷ [])).states
    ≡ by_suffix 0 ∷ by_suffix 1 ∷ by_suffix 2 ∷ []
unfolding dated_cite dated_authors printed_first dated person two_shown adding_suffix
third_round c = refl

-- what a cite prints that only repeats the one before it
repeated : DisambiguateState → Children
repeated state = before (Text plain (codes "ibid.")) nothing

-- a cite that prints a date alone, and one after it that prints `ibid.`, in a style that lets this be alike to none or not
then_ibid : Bool → Citation → ℕ → List ℕ → List Candidate
then_ibid repeats c entry cs = cite c entry cs ∷ record (cite c entry cs) { repeats = repeats; printed = repeated } ∷ []

-- two entries, each of which is repeated by `ibid.`, remain as they are
ibids_apart : (c : Citation) → (disambiguated false 2 (then_ibid true c 0 (codes "A") ++ then_ibid true c 1 (codes "B"))).states ≡ undisambiguated ∷ undisambiguated ∷ []
unfolding cite dated adding_suffix repeated then_ibid
ibids_apart c = refl

-- in other styles they have year suffixes
ibids_alike : (c : Citation) → (disambiguated false 2 (then_ibid false c 0 (codes "A") ++ then_ibid false c 1 (codes "B"))).states ≡ by_suffix 0 ∷ by_suffix 1 ∷ []
unfolding cite dated adding_suffix repeated then_ibid
ibids_alike c = refl

-- a style that leaves out the first of alike cites, as before
first_left_out : (o : Origin) (s : Printed) (ss : List Printed) → states_by_choose o (record s { first_chooses_too = false } ∷ ss) ≡ flat_map (choose_beside o s.entry) ss
first_left_out o s ss = refl

-- styles that give year suffixes in the order of first cites, as before
by_first_cites : (has_dates : Bool) (o : Origin) (ss : List Printed) → list_any (λ s. s.suffixes_by_number) ss ≡ false
    → states_by_suffixes has_dates o ss ≡ cond (has_dates && list_any (λ s. s.adds_suffix) ss) (suffixes_for o (entries_of ss)) []
by_first_cites has_dates o ss none = ap (λ b. cond (has_dates && list_any (λ s. s.adds_suffix) ss) (suffixes_for o (entries_of (cond b (sorted by_number ss) ss))) []) none
