-- What styles that are no published ones print is not changed by what published ones ask for.
use Rattle.std.specs.Prelude.{◌≡◌, Bool, false, List, [], ◌∷◌, if◌then◌else◌, Option}
use Rattle.rendering_context.specs.Contexts.{Context}
use Rattle.rendering_leaves.specs.NodeSettings.{SpecialForm, authors_alone, NodeSetting, State, append, with_variable}
use Rattle.rendering_leaves.specs.Values.{suppressing}
use Rattle.rendering_page.specs.Pieces.{end}
use Rattle.rendering_style.specs.Nodes.{Look, NamesNode, Nodes}
use Rattle.rendering_nodes.specs.Admission.{Survey, substitute_answers, substitute_form}
use Rattle.rendering_nodes.specs.Content.{accepted, bare, delimited, delimited_node, look_in, substituted_names}
use Rattle.rendering_taxonomy.specs.declared.variable.NameVariable.{NameVariable}
use Rattle.rendering_taxonomy.specs.declared.variable.Variable.{Variable}

-- a delimiter stands before each node that is admitted, but the first
abbrev pub AdmittedNodesAreDelimited : Type 0
AdmittedNodesAreDelimited =
    (c : Context) (s : NodeSetting) (is_first : Bool) (append_node : State → State) (st : State)
    → st.is_published ≡ false → delimited_node c s is_first append_node st ≡ append_node (delimited c s is_first st)

-- what a substitute prints is not printed again from then on
abbrev pub SubstitutesSuppressAtOnce : Type 0
SubstitutesSuppressAtOnce =
    (s : NodeSetting) (v : Variable) (st : State)
    → st.is_published ≡ false → suppressing s v st ≡ (if s.in_substitute then record st { suppressed = with_variable st.suppressed v } else st)

-- where a substitute stands, only its element ends
abbrev pub AcceptedSubstitutesEnd : Type 0
AcceptedSubstitutesEnd = (c : Context) (s : NodeSetting) (st : State) → st.is_published ≡ false → accepted c s st ≡ append c (end (bare s) ∷ []) st

-- in all forms but the one of authors alone nodes have their affixes
abbrev pub NodesHaveTheirAffixes : Type 0
NodesHaveTheirAffixes = (form : SpecialForm) (l : Look) → ((v : NameVariable) → form ≡ authors_alone v → ⊥) → look_in form l ≡ l

-- names take what is said of names from those alone whose substitute they are themselves
abbrev pub SubstitutesAloneTake : Type 0
SubstitutesAloneTake =
    (outer : Option NamesNode) (s : NodeSetting) → substituted_names false outer s ≡ outer

-- in all forms but the one of authors alone a substitute is printed in the form of its names, and is an answer where it calls one
abbrev pub SubstitutesKeepTheForm : Type 0
SubstitutesKeepTheForm =
    (form : SpecialForm) (vs : List NameVariable) (xs : Nodes) (inside : Survey)
    → ((v : NameVariable) → form ≡ authors_alone v → ⊥)
    → (substitute_form form vs xs ≡ form) × (substitute_answers form inside ≡ inside.is_answered)
