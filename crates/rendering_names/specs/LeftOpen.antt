-- How names are printed where nothing is specified of what may be left open.
use Rattle.std.specs.Prelude.{◌≡◌, ℕ, Bool, true, false, nat_le, List, [], ◌∷◌, if◌then◌else◌, None}
use Rattle.std.specs.Option.{unwrap_or}
use Rattle.laws.specs.Characters.{space}
use Rattle.literature_values.specs.GivenNames.{given_by}
use Rattle.literature_values.specs.Initials.{style, initials_of}
use Rattle.literature_values.specs.PersonViews.{Named}
use Rattle.rendering_page.specs.Pages.{Manner}
use Rattle.rendering_page.specs.Pieces.{Piece, normal}
use Rattle.rendering_style.specs.Options.{NameOptions}
use Rattle.rendering_style.specs.Nodes.{NameLook, NamesNode}
use Rattle.rendering_names.specs.Around.{not_overriding}
use Rattle.rendering_names.specs.Names.{NameStyle, delimiter_by, et_al_by, et_al_manner, node_options, own_over, people_delimiter}
use Rattle.rendering_names.specs.NameParts.{person_pieces}
use Rattle.rendering_names.specs.Roles.{is_left_out, label_term, merging}
use Rattle.rendering_tree.specs.Metas.{Answered}
use Rattle.rendering_taxonomy.specs.declared.term.Term.TheVariants as terms
use Rattle.rendering_taxonomy.specs.declared.variable.NameVariable.{NameVariable}
use Rattle.rendering_taxonomy.specs.declared.variable.Variable.TheVariants as variables
use Rattle.rendering_names.specs.Persons.{comma_and_space, stop_and_space, given_of, initials_rule, initials_by, person_text}
use Rattle.rendering_taxonomy.specs.declared.name.DisambiguatedNameForm.{DisambiguatedNameForm}

-- the term for those left out, after the delimiter where two or more are shown, else after a space; without a term neither
abbrev pub et_al_from_two : NameStyle → ℕ → List ℕ → List Piece
et_al_from_two s shown [] = []
et_al_from_two s shown (c ∷ cs) =
    normal s.manner (if nat_le 2 shown then delimiter_by s.options else space ∷ [])
    ∷ normal (et_al_manner s) (c ∷ cs) ∷ []

-- Where nothing is specified of the delimiter before the term for those left out, it stands there where two or more are shown.
abbrev pub TermIsDelimitedFromTwo : Type 0
TermIsDelimitedFromTwo =
    (s : NameStyle) (shown : ℕ) (cs : List ℕ) → s.options.delimiter_precedes_et_al ≡ None
    → et_al_by s shown cs ≡ et_al_from_two s shown cs

-- Where nothing is specified of hyphens between initials, they stay.
abbrev pub HyphensStay : Type 0
HyphensStay =
    (o : NameOptions) (p : Named) → o.initialize_with_hyphen ≡ None
    → initials_by o p ≡ given_by (initials_rule o)
    (style (unwrap_or o.initialize_with stop_and_space) true) (given_of p)

-- Where nothing is specified of pieces of given names, and names are not kept from being cut, initials are those of runs.
abbrev pub RunsAreCut : Type 0
RunsAreCut =
    (o : NameOptions) (p : Named) → o.splits_initials ≡ None → unwrap_or o.initialize true ≡ true
    → initials_by o p ≡ initials_of
    (style (unwrap_or o.initialize_with stop_and_space) (unwrap_or o.initialize_with_hyphen true))
    (given_of p)

-- Where the options say nothing of what stands between the people of two variables, the node alone does.
abbrev pub NodeDelimitsPeople : Type 0
NodeDelimitsPeople =
    (o : NameOptions) (h : NamesNode) → o.names_delimiter ≡ None
    → people_delimiter o h ≡ unwrap_or h.delimiter comma_and_space

-- Where nothing overrides what a node says of names, that goes over what is said around it.
abbrev pub NodesSayTheirOwn : Type 0
NodesSayTheirOwn =
    (h : NamesNode) (o : NameOptions) → node_options h (not_overriding o) ≡ own_over h o

-- Where nothing is specified for the parts of a name, it is one text.
abbrev pub NamesAreOneText : Type 0
NamesAreOneText =
    (m : Manner) (l : NameLook) (o : NameOptions) (is_inverted : Bool)
    (f : DisambiguatedNameForm) (p : Named) → l.given ≡ None → l.family ≡ None
    → person_pieces m l o is_inverted f p ≡ normal m (person_text o is_inverted f p) ∷ []

-- Where a node does not print editors and translators once, it prints the people of each of its
-- variables, with a label of their own.
abbrev pub RolesArePrintedEach : Type 0
RolesArePrintedEach =
    (h : NamesNode) (people before : List Answered) (v : NameVariable)
    → h.merges_editor_translator ≡ false
    → (merging h people ≡ h) × (label_term h v ≡ terms.Variable (variables.Name v))
    × (is_left_out h before v ≡ false)
