-- What a node that is opened appends, by what the functions for its kind append.
use Rattle.std.proofs.Common.{◌≡◌, ℕ, suc, ◌-◌, ◌≢◌, true, List, [], map, Vec, Result, Option, sym, ap, ◌∙◌}
use Rattle.std.specs.Global.{Global}
use Rattle.std.specs.Prelude.{OnOk, IfOk, String, string_bytes}
use Rattle.std.proofs.lemmas.Result.{IfOk-weaker, on_ok_weaker}
use Rattle.rendering_context.specs.Contexts.{Context}
use Rattle.rendering_leaves.specs.NodeSettings.{NodeSetting, State}
use Rattle.rendering_style.specs.Nodes as nodes
use Rattle.rendering_style.specs.Nodes.{Nodes, NamesNode}
use Rattle.rendering_style.specs.Styles.{Macro}
use Rattle.rendering_style.specs.Opening.{open_node, each_node, each_branch, macro_named, opened_nodes, part}
use Rattle.rendering_style.specs.Views.{node_view, nodes_view, branch_view, branches_of, text_node_view, names_node_view, group_node_view}
use Rattle.rendering_style.specs.declared.node.Node.{Node}
use Rattle.rendering_style.specs.declared.node.Node.TheVariants as variants
use Rattle.rendering_style.specs.declared.node.ChooseBranch.{ChooseBranch}
use Rattle.rendering_style.specs.declared.node.Group.{Group}
use Rattle.rendering_style.specs.declared.node.Names.{Names}
use Rattle.rendering_style.specs.declared.node.TextTarget.{TextTarget}
use Rattle.rendering_style.specs.declared.node.TextTarget.TheVariants as targets
use Rattle.rendering_nodes.specs.Admission.{Stage, Survey, surveys}
use Rattle.rendering_nodes.specs.Content.{content, contents, entered, group_frame, inside_group, left}
use Rattle.rendering_nodes.specs.Findings.{Asked, all_asked}
use Rattle.rendering_nodes.specs.declared.finding.Finding.{Finding}
use Rattle.rendering_nodes.proofs.OpenedSteps.{open_names, open_choose, open_group, opened_all}

-- what a node appends is what one that is the same does
content_same : {T E : Type 0} (r : Result T E) (c : Context) (o : Option NamesNode) (s : NodeSetting) (st new : State) (x y : nodes.Node)
    → x ≡ y → OnOk r (new ≡ content c o s y st) → OnOk r (new ≡ content c o s x st)
content_same r c o s st new x y same = on_ok_weaker r (λ (e : new ≡ content c o s y st). e ∙ ap (λ (z : nodes.Node). content c o s z st) (sym same))

-- names, and their substitute, as a slice
pub names_node_appended : {T E : Type 0} (r : Result T E) (c : Context) (o : Option NamesNode) (s : NodeSetting) (st new : State) (n : ℕ) (ms : List Macro) (x : Node) (h : Names) (xs : Vec Node Global) (ys : List Node)
    → n ≢ 0 → x ≡ variants.Names h xs → ys ≡ xs.items
    → OnOk r (new ≡ content c o s (nodes.names (names_node_view h) (each_node (open_node (n - 1) ms) (nodes_view ys))) st)
    → OnOk r (new ≡ content c o s (open_node n ms (node_view x)) st)
names_node_appended r c o s st new n ms x h xs ys some is same =
    content_same r c o s st new (open_node n ms (node_view x)) (nodes.names (names_node_view h) (each_node (open_node (n - 1) ms) (nodes_view ys)))
    (ap (λ (y : Node). open_node n ms (node_view y)) is
    ∙ (open_names n ms h xs some ∙ ap (λ (zs : List Node). nodes.names (names_node_view h) (each_node (open_node (n - 1) ms) (nodes_view zs))) (sym same)))

-- branches, and the nodes after them, as slices
pub choose_node_appended : {T E : Type 0} (r : Result T E) (c : Context) (o : Option NamesNode) (s : NodeSetting) (st new : State) (n : ℕ) (ms : List Macro) (x : Node) (bs : Vec ChooseBranch Global) (xs : Vec Node Global) (ds : List ChooseBranch) (ys : List Node)
    → n ≢ 0 → x ≡ variants.Choose bs xs → ds ≡ bs.items → ys ≡ xs.items
    → OnOk r (new ≡ content c o s (nodes.choose (each_branch (open_node (n - 1) ms) (branches_of (map branch_view ds) (nodes_view ys)))) st)
    → OnOk r (new ≡ content c o s (open_node n ms (node_view x)) st)
choose_node_appended r c o s st new n ms x bs xs ds ys some is branches rest =
    content_same r c o s st new (open_node n ms (node_view x)) (nodes.choose (each_branch (open_node (n - 1) ms) (branches_of (map branch_view ds) (nodes_view ys))))
    (ap (λ (y : Node). open_node n ms (node_view y)) is
    ∙ (open_choose n ms bs xs some
    ∙ (ap (λ (es : List ChooseBranch). nodes.choose (each_branch (open_node (n - 1) ms) (branches_of (map branch_view es) (nodes_view xs.items)))) (sym branches)
    ∙ ap (λ (zs : List Node). nodes.choose (each_branch (open_node (n - 1) ms) (branches_of (map branch_view ds) (nodes_view zs)))) (sym rest))))

-- a group, and its nodes as a slice
pub group_node_appended : {T E : Type 0} (r : Result T E) (c : Context) (o : Option NamesNode) (s : NodeSetting) (st new : State) (n : ℕ) (ms : List Macro) (x : Node) (g : Group) (xs : Vec Node Global) (ys : List Node)
    → n ≢ 0 → x ≡ variants.Group g xs → ys ≡ xs.items
    → OnOk r (new ≡ content c o s (nodes.group (group_node_view g) (each_node (open_node (n - 1) ms) (nodes_view ys))) st)
    → OnOk r (new ≡ content c o s (open_node n ms (node_view x)) st)
group_node_appended r c o s st new n ms x g xs ys some is same =
    content_same r c o s st new (open_node n ms (node_view x)) (nodes.group (group_node_view g) (each_node (open_node (n - 1) ms) (nodes_view ys)))
    (ap (λ (y : Node). open_node n ms (node_view y)) is
    ∙ (open_group n ms g xs some ∙ ap (λ (zs : List Node). nodes.group (group_node_view g) (each_node (open_node (n - 1) ms) (nodes_view zs))) (sym same)))

pub macro_appended : {T E : Type 0} (r : Result T E) (c : Context) (o : Option NamesNode) (s : NodeSetting) (st new : State) (n : ℕ) (ms : List Macro) (look : nodes.TextLook) (y : TextTarget) (w : String Global) (bs : List ℕ)
    → y ≡ targets.Macro w → bs ≡ string_bytes w
    → OnOk r (new ≡ content c o s (part (open_node n ms) bs look (macro_named ms bs)) st)
    → OnOk r (new ≡ content c o s (open_node (suc n) ms (text_node_view y look)) st)
macro_appended r c o s st new n ms look y w bs is same =
    content_same r c o s st new (open_node (suc n) ms (text_node_view y look)) (part (open_node n ms) bs look (macro_named ms bs))
    (ap (λ (t : TextTarget). open_node (suc n) ms (text_node_view t look)) is ∙ ap (λ (cs : List ℕ). part (open_node n ms) cs look (macro_named ms cs)) (sym same))

-- a group: its element begins, its nodes follow, its element ends
pub grouped_appended : {T E : Type 0} (r : Result T E) (c : Context) (o : Option NamesNode) (s inside : NodeSetting) (st begun done new : State) (g : nodes.GroupNode) (xs : Nodes)
    → begun ≡ entered c (group_frame s g) [] st
    → inside ≡ inside_group s g
    → done ≡ contents c inside true xs begun
    → OnOk r (new ≡ left c (group_frame s g) [] done)
    → OnOk r (new ≡ content c o s (nodes.group g xs) st)
grouped_appended r c o s inside st begun done new g xs begins same follow =
    let ends : State → State = left c (group_frame s g) [] in
    on_ok_weaker r
    (λ (e : new ≡ ends done). e ∙ ap ends (follow ∙ (ap (λ (i : NodeSetting). contents c i true xs begun) same ∙ ap (contents c (inside_group s g) true xs) begins)))

-- nodes as they are printed
pub all_surveyed : {X E : Type 0} (r : Result X E) (view : X → Survey) (before after : List Finding) (here there : Stage) (ms ns : List Macro) (xs : List Node) → here ≡ there → ms ≡ ns
    → IfOk r (λ v. (view v, after) ≡ all_asked here before (each_node (open_node 200 ms) (nodes_view xs)))
    → IfOk r (λ v. view v ≡ surveys there (opened_nodes ns (map node_view xs)))
all_surveyed r view before after here there ms ns xs index same =
    IfOk-weaker r (λ v. (view v, after) ≡ all_asked here before (each_node (open_node 200 ms) (nodes_view xs))) (λ v. view v ≡ surveys there (opened_nodes ns (map node_view xs)))
    (λ v e. ap (λ (a : Asked). a.0) e
    ∙ (ap (λ (k : Stage). surveys k (each_node (open_node 200 ms) (nodes_view xs))) index
    ∙ (ap (λ (ls : List Macro). surveys there (each_node (open_node 200 ls) (nodes_view xs))) same
    ∙ ap (surveys there) (opened_all ns xs))))

pub all_appended : {T E : Type 0} (r : Result T E) (c : Context) (s : NodeSetting) (st new : State) (ms : List Macro) (xs : List Node)
    → OnOk r (new ≡ contents c s true (each_node (open_node 200 ms) (nodes_view xs)) st)
    → OnOk r (new ≡ contents c s true (opened_nodes ms (map node_view xs)) st)
all_appended r c s st new ms xs =
    on_ok_weaker r (λ (e : new ≡ contents c s true (each_node (open_node 200 ms) (nodes_view xs)) st). e ∙ ap (λ (ys : Nodes). contents c s true ys st) (opened_all ms xs))
