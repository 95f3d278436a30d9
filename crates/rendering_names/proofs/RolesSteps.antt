-- Editors who are the translators too.
use Rattle.std.proofs.Common.{◌≡◌, ℕ, ◌+◌, ◌<◌, ◌≤◌, Bool, true, false, ◌&&◌, List, [], ◌∷◌, ◌++◌, ◌≢◌, length, drop, get_or, sym, ap, ◌∙◌, arith, Result}
use Rattle.std.specs.Prelude.{if◌then◌else◌, OnOk}
use Rattle.std.specs.Cmp.Lexicographic.{pointwise, unequal}
use Rattle.std.specs.declared.borrow.Cow.{Cow}
use Rattle.std.proofs.lemmas.List.{drop_all, drop_more, get_or-map, length-map}
use Rattle.std.proofs.lemmas.Result.{on_ok_weaker}
use Rattle.laws.proofs.Equality.{Decides-moved}
use Rattle.literature_values.proofs.Equality.{Shows-Person}
use Rattle.literature_values.specs.PersonViews.{lent_person_view, person_view}
use Rattle.literature_values.specs.declared.person.Person.{Person}
use Rattle.literature_values.specs.contracts.person.PersonPartialEq.TheImpl as one_person
use Rattle.rendering_page.specs.Pages.{Page, Quotes}
use Rattle.rendering_page.specs.Pieces.{append_pieces}
use Rattle.rendering_people.specs.Properties.{VariableProperties}
use Rattle.rendering_people.specs.Views.{lent_people_view}
use Rattle.rendering_style.specs.Nodes.{NamesNode}
use Rattle.rendering_taxonomy.specs.Variables.{is_name_variable}
use Rattle.rendering_taxonomy.proofs.Indices.{Decides-is_name_variable, Decides-names}
use Rattle.rendering_taxonomy.specs.contracts.variable.NameVariablePartialEq.TheImpl as name_eq
use Rattle.rendering_taxonomy.specs.declared.variable.NameVariable.{NameVariable}
use Rattle.rendering_tree.specs.Metas.{Answered, is_person}
use Rattle.rendering_tree.proofs.SameDecided.{Decides-is_person}
use Rattle.rendering_tree.proofs.ViewsEquality.{agreed}
use Rattle.rendering_names.specs.Names.{NameStyle, before_people, next_variable, variable_pieces}
use Rattle.rendering_names.specs.Roles.{is_left_out}
use Rattle.rendering_names.proofs.PiecesAppended.{append-both}

-- `==` of variables and of people
pub same_variable : (v w : NameVariable) → name_eq.ghosts.eq w v ≡ is_name_variable v w
same_variable v w = agreed (name_eq.ghosts.eq w v) (is_name_variable v w) (Decides-moved (name_eq.ghosts.eq w v) (Decides-names w v) sym sym) (Decides-is_name_variable v w)

pub same_person : (p q : Person) → one_person.ghosts.eq p q ≡ is_person (person_view p) (person_view q)
same_person p q = agreed (one_person.ghosts.eq p q) (is_person (person_view p) (person_view q)) (Shows-Person p q) (Decides-is_person (person_view p) (person_view q))

long : (ps : List (Cow Person)) → length (lent_people_view ps) ≡ length ps
long ps = length-map ps lent_person_view

-- people are not the same where they are not as many
pub not_as_many : (ps qs : List (Cow Person)) → (length ps ≢ length qs) → false ≡ pointwise is_person (lent_people_view ps) (lent_people_view qs)
not_as_many ps qs other = sym (unequal is_person (lent_people_view ps) (lent_people_view qs) (λ e. other (sym (long ps) ∙ e ∙ long qs)))

-- what is left to compare
abbrev pub left_to_compare : ℕ → List (Cow Person) → List (Cow Person) → Bool
left_to_compare i ps qs = pointwise is_person (drop i (lent_people_view ps)) (drop i (lent_people_view qs))

here : (ps : List (Cow Person)) (i : ℕ) (p : Cow Person) → i < length ps → p ≡ get_or ps i p → drop i (lent_people_view ps) ≡ lent_person_view p ∷ drop (i + 1) (lent_people_view ps)
here ps i p less is =
    let there : i < length (lent_people_view ps) = omega (arith, less, long ps) in
    drop_more (lent_people_view ps) i (lent_person_view p) there
    ∙ ap (λ n. n ∷ drop (i + 1) (lent_people_view ps)) (get_or-map lent_person_view ps i p (lent_person_view p) less ∙ ap lent_person_view (sym is))

-- one more of both
pub compared : (ps qs : List (Cow Person)) (i : ℕ) (p q : Cow Person) → i < length ps → i < length qs → p ≡ get_or ps i p → q ≡ get_or qs i q
    → left_to_compare i ps qs ≡ is_person (lent_person_view p) (lent_person_view q) && left_to_compare (i + 1) ps qs
compared ps qs i p q less below is also = λ j. pointwise is_person (here ps i p less is j) (here qs i q below also j)

-- where one differs they are not the same; else the rest says so
pub differ : (ps qs : List (Cow Person)) (i : ℕ) (p q : Cow Person) (all : Bool) → i < length ps → i < length qs → p ≡ get_or ps i p → q ≡ get_or qs i q
    → is_person (lent_person_view p) (lent_person_view q) ≡ false → left_to_compare i ps qs ≡ all → false ≡ all
differ ps qs i p q all less below is also other h = sym (compared ps qs i p q less below is also ∙ ap (λ b. b && left_to_compare (i + 1) ps qs) other) ∙ h

pub goes_on : (ps qs : List (Cow Person)) (i : ℕ) (p q : Cow Person) (all : Bool) → i < length ps → i < length qs → p ≡ get_or ps i p → q ≡ get_or qs i q
    → is_person (lent_person_view p) (lent_person_view q) ≡ true → left_to_compare i ps qs ≡ all → left_to_compare (i + 1) ps qs ≡ all
goes_on ps qs i p q all less below is also same h = sym (compared ps qs i p q less below is also ∙ ap (λ b. b && left_to_compare (i + 1) ps qs) same) ∙ h

-- after all of them
pub all_same : (ps qs : List (Cow Person)) (i : ℕ) (all : Bool) → length ps ≤ i → length ps ≡ length qs → left_to_compare i ps qs ≡ all → true ≡ all
all_same ps qs i all past as_many h =
    let none : drop i (lent_people_view ps) ≡ [] = drop_all i (lent_people_view ps) (omega (arith, past, long ps)) in
    let neither : drop i (lent_people_view qs) ≡ [] = drop_all i (lent_people_view qs) (omega (arith, past, as_many, long qs)) in
    sym (λ j. pointwise is_person (none j) (neither j)) ∙ h

-- people who are left out
pub left_out : (quotes : Quotes) (s : NameStyle) (h : NamesNode) (before : List Answered) (i : ℕ) (p : VariableProperties × Answered) (page : Page) → is_left_out h before (p.1).1 ≡ true
    → page ≡ append_pieces quotes (next_variable s h before i p) page
left_out quotes s h before i p page is =
    ap (λ b. append_pieces quotes (if b then [] else before_people s.manner s.options h i ++ variable_pieces s h p) page) (sym is)

-- people who are not
pub printed_next : {A E : Type 0} (quotes : Quotes) (s : NameStyle) (h : NamesNode) (before : List Answered) (i k : ℕ) (p : VariableProperties × Answered) (old mid new : Page) (r : Result A E) → is_left_out h before (p.1).1 ≡ false → k ≡ i
    → mid ≡ append_pieces quotes (before_people s.manner s.options h k) old → OnOk r (new ≡ append_pieces quotes (variable_pieces s h p) mid)
    → OnOk r (new ≡ append_pieces quotes (next_variable s h before i p) old)
printed_next quotes s h before i k p old mid new r is same a b =
    on_ok_weaker r
    (λ e. append-both quotes (before_people s.manner s.options h i) (variable_pieces s h p) old mid new (a ∙ ap (λ n. append_pieces quotes (before_people s.manner s.options h n) old) same) e
    ∙ ap (λ c. append_pieces quotes (if c then [] else before_people s.manner s.options h i ++ variable_pieces s h p) old) (sym is))
    b
