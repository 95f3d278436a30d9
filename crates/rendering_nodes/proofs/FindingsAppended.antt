-- What is known of the nodes that a node prints.
use Rattle.std.proofs.Common.{◌≡◌, ℕ, ◌+◌, ◌<◌, Bool, true, false, List, [], ◌∷◌, length, get_or, drop, sym, ap, ◌∙◌, subst, Option, None, Some, Vec, if◌then◌else◌, rules}
use Rattle.std.specs.Global.{Global}
use Rattle.std.specs.Option.{IfSome, option_map}
use Rattle.rendering_context.specs.Contexts.{Context}
use Rattle.rendering_leaves.specs.NodeSettings.{SpecialForm, NodeSetting, State}
use Rattle.rendering_style.specs.Nodes as nodes
use Rattle.rendering_style.specs.Nodes.{Branches, NamesNode, Node, Nodes, TextLook, node}
use Rattle.rendering_style.specs.Opening.{each_branch, each_node, open_node, part}
use Rattle.rendering_style.specs.Views.{node_view, nodes_view}
use Rattle.rendering_style.specs.Styles.{Macro}
use Rattle.rendering_style.specs.declared.node.Node as declared
use Rattle.rendering_taxonomy.specs.declared.variable.NameVariable.{NameVariable}
use Rattle.rendering_taxonomy.specs.declared.variable.Variable.{Variable}
use Rattle.rendering_nodes.specs.Admission.{Stage, has_people, in_substitute_of, is_shut_out, substitute_form}
use Rattle.rendering_nodes.specs.Content.{stage}
use Rattle.rendering_nodes.specs.Findings.{AreAll, AreFound, AreFoundInside, Asked, IsFound, IsSurveyed, beside_people, found, node_asked, stage_then}
use Rattle.rendering_nodes.specs.Taken.{taken}
use Rattle.rendering_nodes.specs.Views.{survey_view}
use Rattle.rendering_nodes.specs.declared.finding.Finding.{Finding}
use Rattle.rendering_nodes.specs.declared.finding.Findings.{Findings}
use Rattle.rendering_nodes.specs.declared.finding.NodeFinding.{NodeFinding}
use Rattle.rendering_nodes.specs.declared.survey.Survey as surveys
use Rattle.rendering_nodes.proofs.FindingsSteps.{choose_found, left_is}

-- what is known inside a node is known inside one that is the same
pub inside_as : (c : Context) (form : SpecialForm) (k : Findings) (x y : Node) → x ≡ y → AreFoundInside c form k x → AreFoundInside c form k y
inside_as c form k x y same = subst (λ (z : Node). AreFoundInside c form k z) same

-- of nodes in another setting of the same form
pub form_as : (c : Context) (s t : NodeSetting) (k : Findings) (xs : Nodes) → t.form ≡ s.form → AreFound c s.form k xs → AreFound c t.form k xs
form_as c s t k xs same = subst (λ (f : SpecialForm). AreFound c f k xs) (sym same)

-- what is known of nothing is nothing
never_all : (b : Bool) (f : Finding) (fs all : List Finding) → AreAll (f ∷ fs) (if b then [] else all) → AreAll (f ∷ fs) all
never_all true f fs all e = absurd (search (rules, e))
never_all false f fs all e = e

beside_all : (b out : Bool) (fs all : List Finding) → AreAll fs (beside_people b out all) → AreAll fs all
beside_all b out [] all e = tt
beside_all true out (f ∷ fs) all e = never_all true f fs all e
beside_all false out (f ∷ fs) all e = never_all out f fs all e

-- of the substitute of names
pub substitutes_as : (c : Context) (form : SpecialForm) (k : Findings) (h : NamesNode) (vs : List NameVariable) (xs : Nodes) (y : Node) → y ≡ nodes.names h xs → vs ≡ h.variables
    → AreFoundInside c form k y → AreFound c (substitute_form form vs xs) k xs
substitutes_as c form k h vs xs y same are known =
    let s = stage_then c form k in
    subst (λ (ws : List NameVariable). AreFound c (substitute_form form ws xs) k xs) (sym are)
    (beside_all (has_people s h) (is_shut_out s h xs) k.nodes.now (found (in_substitute_of h xs s) xs) (inside_as c form k y (nodes.names h xs) same known))

-- of the branch that is taken
pub taken_as : (c : Context) (form : SpecialForm) (k : Findings) (f : Node → Node) (bs : Branches) (xs : Nodes) (met : Bool) → (xs, met) ≡ taken c bs
    → AreFoundInside c form k (nodes.choose (each_branch f bs)) → AreFound c form k (each_node f xs)
taken_as c form k f bs xs met is = subst (λ (l : List Finding). AreAll k.nodes.now l) (sym (choose_found (stage_then c form k) f bs xs met is))

-- of the nodes of a macro
pub macro_as : (c : Context) (s t : NodeSetting) (k : Findings) (f : Node → Node) (name : List ℕ) (look : TextLook) (o : Option Nodes) (xs : Nodes) → t.form ≡ s.form → o ≡ Some xs
    → AreFoundInside c s.form k (part f name look o) → AreFound c t.form k (each_node f xs)
macro_as c s t k f name look o xs same is known =
    form_as c s t k (each_node f xs) same (subst (λ (p : Option Nodes). AreFoundInside c s.form k (part f name look p)) is known)

-- of what is left of nodes, one step on
pub known_more : (c : Context) (form : SpecialForm) (k : Findings) (f : Node → Node) (xs : List declared.Node) (i : ℕ) (x : declared.Node) → i < length xs → x ≡ get_or xs i x
    → AreFound c form k (each_node f (nodes_view (drop i xs)))
    → AreFound c form k (node (f (node_view x)) (each_node f (nodes_view (drop (i + 1) xs))))
known_more c form k f xs i x less is = subst (λ (ys : Nodes). AreFound c form k ys) (left_is f xs i x less is)

-- what is known of a node, where something is
pub some_found : (c : Context) (s : NodeSetting) (st : State) (o : Option NodeFinding) (n : NodeFinding) (x : Node) → o ≡ Some n → IfSome o (λ m. IsFound c s st m x) → IsFound c s st n x
some_found c s st o n x is = subst (λ (p : Option NodeFinding). IfSome p (λ m. IsFound c s st m x)) is

-- what a survey found of a node that is opened
pub surveyed_is : (c : Context) (s : NodeSetting) (st : State) (n : ℕ) (ms ns : List Macro) (x : declared.Node) (here : Stage) (v : surveys.Survey) (before : List Finding)
    (date : Bool) (suppressed : Vec Variable Global) (inside : Vec Finding Global)
    → before ≡ [] → (survey_view v, inside.items) ≡ node_asked here before (open_node n ms (node_view x)) → here ≡ stage c s st → ms ≡ ns
    → date ≡ st.has_date → suppressed.items ≡ st.suppressed
    → IsSurveyed c s st (record { is_admitted = v.is_admitted; met = v.met; has_date = date; suppressed = suppressed; inside = inside }) (open_node n ns (node_view x))
surveyed_is c s st n ms ns x here v before date suppressed inside none is index same dated copied =
    let all : (survey_view v, inside.items) ≡ node_asked (stage c s st) [] (open_node n ns (node_view x)) = is ∙ (λ i. node_asked (index i) (none i) (open_node n (same i) (node_view x))) in
    record {
      is_admitted = ap (λ (a : Asked). a.0.is_admitted) all;
      met = ap (λ (a : Asked). a.0.met) all;
      has_date = dated;
      suppressed = copied;
      inside = ap (λ (a : Asked). a.1) all;
    }

-- the nodes of a macro that there is
pub macro_some : {X : Type 0} (g : X → Nodes) (o : Option X) (x : X) (p : Option Nodes) → option_map g o ≡ p → o ≡ Some x → p ≡ Some (g x)
macro_some g o x p e is = sym e ∙ ap (option_map g) is

-- of one that there is not
pub macro_none : {X : Type 0} (g : X → Nodes) (o : Option X) (p : Option Nodes) → option_map g o ≡ p → o ≡ None → p ≡ None
macro_none g o p e is = sym e ∙ ap (option_map g) is
