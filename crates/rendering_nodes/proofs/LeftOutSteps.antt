-- Names of a variable in a substitute.
use Rattle.std.proofs.Common.{◌≡◌, ℕ, ◌+◌, ◌-◌, ◌<◌, ◌≢◌, suc, Bool, true, false, ◌||◌, List, length, drop, get_or, Option, None, Some, Vec, refl, sym, ap, ◌∙◌}
use Rattle.std.specs.Global.{Global}
use Rattle.std.specs.Prelude.{string_bytes}
use Rattle.rendering_style.specs.Nodes as nodes
use Rattle.rendering_style.specs.Nodes.{Nodes}
use Rattle.rendering_style.specs.Styles.{Macro}
use Rattle.rendering_style.specs.Opening.{each_node, macro_named, open_node, part}
use Rattle.rendering_style.specs.Views.{names_node_view, node_view, nodes_view, text_node_view, text_look_view}
use Rattle.rendering_style.specs.declared.node.Names.{Names}
use Rattle.rendering_style.specs.declared.node.Node.{Node}
use Rattle.rendering_style.specs.declared.node.Node.TheVariants as variants
use Rattle.rendering_style.specs.declared.node.Text.{Text}
use Rattle.rendering_style.specs.declared.node.TextTarget.{TextTarget}
use Rattle.rendering_style.specs.declared.node.TextTarget.TheVariants as targets
use Rattle.rendering_taxonomy.specs.declared.variable.NameVariable.{NameVariable}
use Rattle.rendering_nodes.specs.Admission.{have_names_of, is_names_of, is_of}
use Rattle.rendering_nodes.proofs.FindingsSteps.{left_is}
use Rattle.rendering_nodes.proofs.OpenedSteps.{open_names, open_text}

-- a macro, opened or not, is no names
part_is_not : (v : NameVariable) (f : nodes.Node → nodes.Node) (name : List ℕ) (look : nodes.TextLook) (o : Option Nodes)
    → false ≡ is_names_of v (part f name look o)
part_is_not v f name look None = refl
part_is_not v f name look (Some xs) = refl

target_is_not : (v : NameVariable) (n : ℕ) (ms : List Macro) (y : TextTarget) (look : nodes.TextLook)
    → false ≡ is_names_of v (open_node (suc n) ms (text_node_view y look))
target_is_not v n ms (targets.Variable w form) look = refl
target_is_not v n ms (targets.Macro name) look = part_is_not v (open_node n ms) (string_bytes name) look (macro_named ms (string_bytes name))
target_is_not v n ms (targets.Term t form plural) look = refl
target_is_not v n ms (targets.Value s) look = refl

-- a text is no names
pub text_is_no_names : (v : NameVariable) (n : ℕ) (ms : List Macro) (x : Node) (t : Text)
    → n ≢ 0 → x ≡ variants.Text t → false ≡ is_names_of v (open_node n ms (node_view x))
text_is_no_names v n ms x t some is =
    target_is_not v (n - 1) ms t.target (text_look_view t.look)
    ∙ ap (is_names_of v) (sym (ap (λ (y : Node). open_node n ms (node_view y)) is ∙ open_text n ms t some))

-- names are, where they are of the variable
pub names_are : (v : NameVariable) (n : ℕ) (ms : List Macro) (x : Node) (h : Names) (xs : Vec Node Global) (b : Bool)
    → n ≢ 0 → x ≡ variants.Names h xs → b ≡ is_of v (names_node_view h)
    → b ≡ is_names_of v (open_node n ms (node_view x))
names_are v n ms x h xs b some is e =
    e ∙ ap (is_names_of v) (sym (ap (λ (y : Node). open_node n ms (node_view y)) is ∙ open_names n ms h xs some))

-- one of those that are left is
pub names_here : (v : NameVariable) (f : nodes.Node → nodes.Node) (xs : List Node) (i : ℕ) (x : Node) (b all : Bool)
    → i < length xs → x ≡ get_or xs i x → b ≡ is_names_of v (f (node_view x)) → b ≡ true
    → have_names_of v (each_node f (nodes_view (drop i xs))) ≡ all → true ≡ all
names_here v f xs i x b all less is here so e =
    let rest = each_node f (nodes_view (drop (i + 1) xs)) in
    ap (λ y. y || have_names_of v rest) (sym so ∙ here)
    ∙ ap (λ (ys : Nodes). have_names_of v ys) (sym (left_is f xs i x less is))
    ∙ e

-- it is not, so one of those after it is or none
pub names_on : (v : NameVariable) (f : nodes.Node → nodes.Node) (xs : List Node) (i : ℕ) (x : Node) (b all : Bool)
    → i < length xs → x ≡ get_or xs i x → b ≡ is_names_of v (f (node_view x)) → b ≡ false
    → have_names_of v (each_node f (nodes_view (drop i xs))) ≡ all → have_names_of v (each_node f (nodes_view (drop (i + 1) xs))) ≡ all
names_on v f xs i x b all less is here so e =
    let rest = each_node f (nodes_view (drop (i + 1) xs)) in
    ap (λ y. y || have_names_of v rest) (sym so ∙ here)
    ∙ ap (λ (ys : Nodes). have_names_of v ys) (sym (left_is f xs i x less is))
    ∙ e
