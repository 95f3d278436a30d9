-- Nodes as they are opened, one level at a time.
use Rattle.std.proofs.Common.{◌≡◌, ℕ, zero, suc, ◌-◌, ◌≢◌, List, [], ◌∷◌, map, Vec, refl, ap, arith, rules}
use Rattle.std.specs.Global.{Global}
use Rattle.rendering_style.specs.Nodes as nodes
use Rattle.rendering_style.specs.Nodes.{nodes_of}
use Rattle.rendering_style.specs.Styles.{Macro}
use Rattle.rendering_style.specs.Opening.{open_node, each_node, each_branch, limit, opened_nodes}
use Rattle.rendering_style.specs.Views.{node_view, nodes_view, branch_view, branches_of, text_node_view, text_look_view, number_node_view, label_look_view, date_node_view, names_node_view, group_node_view}
use Rattle.rendering_style.specs.declared.node.Node.{Node, the_lemmas}
use Rattle.rendering_style.specs.declared.node.Node.TheVariants as variants
use Rattle.rendering_style.specs.declared.node.ChooseBranch.{ChooseBranch}
use Rattle.rendering_style.specs.declared.node.Date.{Date}
use Rattle.rendering_style.specs.declared.node.Group.{Group}
use Rattle.rendering_style.specs.declared.node.Label.{Label}
use Rattle.rendering_style.specs.declared.node.Names.{Names}
use Rattle.rendering_style.specs.declared.node.Number.{Number}
use Rattle.rendering_style.specs.declared.node.Text.{Text}

viewed-text : (t : Text) → node_view (variants.Text t) ≡ text_node_view t.target (text_look_view t.look)
viewed-text t = search (rules, the_lemmas)

viewed-number : (n : Number) → node_view (variants.Number n) ≡ nodes.leaf (nodes.number (number_node_view n))
viewed-number n = search (rules, the_lemmas)

viewed-label : (l : Label) → node_view (variants.Label l) ≡ nodes.leaf (nodes.label l.variable (label_look_view l.label))
viewed-label l = search (rules, the_lemmas)

viewed-date : (d : Date) → node_view (variants.Date d) ≡ nodes.leaf (nodes.date (date_node_view d))
viewed-date d = search (rules, the_lemmas)

viewed-names : (h : Names) (xs : Vec Node Global) → node_view (variants.Names h xs) ≡ nodes.names (names_node_view h) (nodes_view xs.items)
viewed-names h xs = search (rules, the_lemmas)

viewed-choose : (bs : Vec ChooseBranch Global) (xs : Vec Node Global) → node_view (variants.Choose bs xs) ≡ nodes.choose (branches_of (map branch_view bs.items) (nodes_view xs.items))
viewed-choose bs xs = search (rules, the_lemmas)

viewed-group : (g : Group) (xs : Vec Node Global) → node_view (variants.Group g xs) ≡ nodes.group (group_node_view g) (nodes_view xs.items)
viewed-group g xs = search (rules, the_lemmas)

less_one : (n : ℕ) → suc n - 1 ≡ n
less_one n = omega arith

pub open_text : (n : ℕ) (ms : List Macro) (t : Text) → n ≢ 0 → open_node n ms (node_view (variants.Text t)) ≡ open_node (suc (n - 1)) ms (text_node_view t.target (text_look_view t.look))
open_text zero ms t some = absurd (some refl)
open_text (suc n) ms t some = rw (viewed-text t, less_one n)

pub open_number : (n : ℕ) (ms : List Macro) (x : Number) → n ≢ 0 → open_node n ms (node_view (variants.Number x)) ≡ nodes.leaf (nodes.number (number_node_view x))
open_number zero ms x some = absurd (some refl)
open_number (suc n) ms x some = rw (viewed-number x)

pub open_label : (n : ℕ) (ms : List Macro) (x : Label) → n ≢ 0 → open_node n ms (node_view (variants.Label x)) ≡ nodes.leaf (nodes.label x.variable (label_look_view x.label))
open_label zero ms x some = absurd (some refl)
open_label (suc n) ms x some = rw (viewed-label x)

pub open_date : (n : ℕ) (ms : List Macro) (x : Date) → n ≢ 0 → open_node n ms (node_view (variants.Date x)) ≡ nodes.leaf (nodes.date (date_node_view x))
open_date zero ms x some = absurd (some refl)
open_date (suc n) ms x some = rw (viewed-date x)

pub open_names : (n : ℕ) (ms : List Macro) (h : Names) (xs : Vec Node Global) → n ≢ 0
    → open_node n ms (node_view (variants.Names h xs)) ≡ nodes.names (names_node_view h) (each_node (open_node (n - 1) ms) (nodes_view xs.items))
open_names zero ms h xs some = absurd (some refl)
open_names (suc n) ms h xs some = rw (viewed-names h xs, less_one n)

pub open_choose : (n : ℕ) (ms : List Macro) (bs : Vec ChooseBranch Global) (xs : Vec Node Global) → n ≢ 0
    → open_node n ms (node_view (variants.Choose bs xs)) ≡ nodes.choose (each_branch (open_node (n - 1) ms) (branches_of (map branch_view bs.items) (nodes_view xs.items)))
open_choose zero ms bs xs some = absurd (some refl)
open_choose (suc n) ms bs xs some = rw (viewed-choose bs xs, less_one n)

pub open_group : (n : ℕ) (ms : List Macro) (g : Group) (xs : Vec Node Global) → n ≢ 0
    → open_node n ms (node_view (variants.Group g xs)) ≡ nodes.group (group_node_view g) (each_node (open_node (n - 1) ms) (nodes_view xs.items))
open_group zero ms g xs some = absurd (some refl)
open_group (suc n) ms g xs some = rw (viewed-group g xs, less_one n)

-- each node of a list as it stands in a node
each-of : (f : nodes.Node → nodes.Node) (xs : List nodes.Node) → each_node f (nodes_of xs) ≡ nodes_of (map f xs)
each-of f [] = refl
each-of f (x ∷ xs) = ap (λ ys. nodes.node (f x) ys) (each-of f xs)

-- nodes as they are printed
pub opened_all : (ms : List Macro) (xs : List Node) → each_node (open_node 200 ms) (nodes_view xs) ≡ opened_nodes ms (map node_view xs)
opened_all ms xs = each-of (open_node limit ms) (map node_view xs)
