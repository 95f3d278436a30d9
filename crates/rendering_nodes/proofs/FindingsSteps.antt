-- What is found of one more node, and of the nodes inside one.
use Rattle.std.proofs.Common.{◌≡◌, ℕ, ◌+◌, ◌<◌, ◌≤◌, Bool, true, false, ◌||◌, List, [], ◌∷◌, ◌++◌, length, drop, get_or, Result, IfOk, refl, sym, ap, ◌∙◌, arith, if◌then◌else◌}
use Rattle.std.proofs.lemmas.List.{append_assoc, append-nil, at_drop_all, drop_more, length-append}
use Rattle.std.proofs.lemmas.Result.{IfOk-weaker}
use Rattle.rendering_context.specs.Choosing.{is_met, asks_disambiguate}
use Rattle.rendering_style.specs.Nodes as nodes
use Rattle.rendering_style.specs.Nodes.{GroupNode, Leaf, NamesNode, Node, Nodes, Branches, TextLook, otherwise, branch, no_nodes, node}
use Rattle.rendering_style.specs.Opening.{each_node, each_branch}
use Rattle.rendering_style.specs.Views.{node_view, nodes_view}
use Rattle.rendering_style.specs.declared.node.Node as viewed
use Rattle.rendering_nodes.specs.Admission.{Stage, Survey, both, containing, group_survey, has_people, in_substitute_of, is_shut_out, leaf_survey, names_survey, nothing, substitute_survey, survey, surveys, variable_survey}
use Rattle.rendering_nodes.specs.Findings.{Asked, all_asked, beside_people, branch_found, found, found_inside, next_asked, node_asked, with_finding}
use Rattle.rendering_nodes.specs.Taken.{TakenNodes, taken, taken_after}
use Rattle.rendering_nodes.specs.Views.{survey_view}
use Rattle.rendering_nodes.specs.declared.finding.Finding.{Finding}
use Rattle.rendering_nodes.specs.declared.survey.Survey as declared
use Rattle.rendering_nodes.proofs.SurveySteps.{both_three, choose_taken, opened_taken, or_none}

-- what is asked of a node is asked of one that is the same
pub node_as : {E : Type 0} (r : Result declared.Survey E) (s : Stage) (before after : List Finding) (x y : Node) → x ≡ y
    → IfOk r (λ v. (survey_view v, after) ≡ node_asked s before x) → IfOk r (λ v. (survey_view v, after) ≡ node_asked s before y)
node_as r s before after x y same =
    IfOk-weaker r (λ v. (survey_view v, after) ≡ node_asked s before x) (λ v. (survey_view v, after) ≡ node_asked s before y) (λ v e. e ∙ ap (node_asked s before) same)

-- nothing is found inside a node that contains no others
pub leaf_is : (s : Stage) (before : List Finding) (v : Survey) (l : Leaf) (y : Node) → y ≡ nodes.leaf l → v ≡ leaf_survey s l → (v, before) ≡ node_asked s before y
leaf_is s before v l y same e = (λ i. (e i, sym (append-nil before) i)) ∙ ap (node_asked s before) (sym same)

pub leaf_as : {E : Type 0} (r : Result declared.Survey E) (s : Stage) (before : List Finding) (l : Leaf) (y : Node) → y ≡ nodes.leaf l
    → IfOk r (λ v. survey_view v ≡ leaf_survey s l) → IfOk r (λ v. (survey_view v, before) ≡ node_asked s before y)
leaf_as r s before l y same =
    IfOk-weaker r (λ v. survey_view v ≡ leaf_survey s l) (λ v. (survey_view v, before) ≡ node_asked s before y) (λ v e. leaf_is s before (survey_view v) l y same e)

-- nor of a node that is never asked
pub nothing_is : (s : Stage) (before : List Finding) (v : Survey) (y : Node) → survey s y ≡ nothing → found_inside s y ≡ [] → v ≡ nothing → (v, before) ≡ node_asked s before y
nothing_is s before v y none empty e = (λ i. ((e ∙ sym none) i, (sym (append-nil before) ∙ ap (λ l. before ++ l) (sym empty)) i))

-- a group
pub group_is : (s : Stage) (before after : List Finding) (v inside : Survey) (g : GroupNode) (xs : Nodes) (y : Node)
    → v ≡ group_survey inside → (inside, after) ≡ all_asked s before xs → y ≡ nodes.group g xs → (v, after) ≡ node_asked s before y
group_is s before after v inside g xs y e is same =
    (λ i. (e i, after)) ∙ ap (λ (a : Asked). (group_survey a.0, a.1)) is ∙ ap (node_asked s before) (sym same)

-- an opened macro
pub macro_is : (s : Stage) (before after : List Finding) (v inside : Survey) (look : TextLook) (xs : Nodes) (y : Node)
    → v ≡ containing inside.is_admitted inside → (inside, after) ≡ all_asked s before xs → y ≡ nodes.opened look xs → (v, after) ≡ node_asked s before y
macro_is s before after v inside look xs y e is same =
    (λ i. (e i, after)) ∙ ap (λ (a : Asked). (containing a.0.is_admitted a.0, a.1)) is ∙ ap (node_asked s before) (sym same)

-- names with people
pub names_with_people : (s : Stage) (before : List Finding) (v : Survey) (h : NamesNode) (xs : Nodes) (b a : Bool)
    → b ≡ has_people s h → b ≡ true → v ≡ variable_survey a → a ≡ (names_survey s h true (is_shut_out s h xs) (surveys (in_substitute_of h xs s) xs)).is_admitted
    → (v, before) ≡ node_asked s before (nodes.names h xs)
names_with_people s before v h xs b a is so e allowed =
    (λ i. ((e ∙ ap variable_survey allowed) i, sym (append-nil before) i))
    ∙ ap (λ (p : Bool). (names_survey s h p (is_shut_out s h xs) (surveys (in_substitute_of h xs s) xs), before ++ beside_people p (is_shut_out s h xs) (found (in_substitute_of h xs s) xs))) (sym so ∙ is)

-- names that are shut out
pub names_shut_out : (s : Stage) (before : List Finding) (v : Survey) (h : NamesNode) (xs : Nodes) (b out : Bool)
    → b ≡ has_people s h → b ≡ false → out ≡ is_shut_out s h xs → out ≡ true → v ≡ variable_survey false
    → (v, before) ≡ node_asked s before (nodes.names h xs)
names_shut_out s before v h xs b out is so shut out_is e =
    (λ i. (e i, sym (append-nil before) i))
    ∙ ap (λ (p : Bool). (if p then variable_survey false else substitute_survey s.form (surveys (in_substitute_of h xs s) xs), before ++ (if p then [] else found (in_substitute_of h xs s) xs))) (sym out_is ∙ shut)
    ∙ ap (λ (p : Bool). (names_survey s h p (is_shut_out s h xs) (surveys (in_substitute_of h xs s) xs), before ++ beside_people p (is_shut_out s h xs) (found (in_substitute_of h xs s) xs))) (sym so ∙ is)

-- the substitute of names
pub names_substituted : (s : Stage) (before after : List Finding) (v inside : Survey) (h : NamesNode) (xs : Nodes) (b out : Bool)
    → b ≡ has_people s h → b ≡ false → out ≡ is_shut_out s h xs → out ≡ false → v ≡ substitute_survey s.form inside → (inside, after) ≡ all_asked (in_substitute_of h xs s) before xs
    → (v, after) ≡ node_asked s before (nodes.names h xs)
names_substituted s before after v inside h xs b out is so shut clear e asked =
    (λ i. (e i, after))
    ∙ ap (λ (a : Asked). (substitute_survey s.form a.0, a.1)) asked
    ∙ ap (λ (p : Bool). (if p then variable_survey false else substitute_survey s.form (surveys (in_substitute_of h xs s) xs), before ++ (if p then [] else found (in_substitute_of h xs s) xs))) (sym clear ∙ shut)
    ∙ ap (λ (p : Bool). (names_survey s h p (is_shut_out s h xs) (surveys (in_substitute_of h xs s) xs), before ++ beside_people p (is_shut_out s h xs) (found (in_substitute_of h xs s) xs))) (sym so ∙ is)

found_by : (b : Bool) (s : Stage) (xs : Nodes) (fs : List Finding) (m : Bool) (t : TakenNodes) → fs ≡ found s t.0 → (if b then found s xs else fs) ≡ found s (if b then (xs, m) else t).0
found_by true s xs fs m t e = refl
found_by false s xs fs m t e = e

-- what is found of branches is what is found of the branch that is taken
pub branch_found_taken : (s : Stage) (m : Bool) (bs : Branches) → branch_found s bs ≡ found s (taken_after s.context m bs).0
branch_found_taken s m (otherwise xs) = refl
branch_found_taken s m (branch c xs bs) =
    found_by (is_met s.context c) s xs (branch_found s bs) (m || asks_disambiguate c) (taken_after s.context (m || asks_disambiguate c) bs)
    (branch_found_taken s (m || asks_disambiguate c) bs)

pub choose_found : (s : Stage) (f : Node → Node) (bs : Branches) (xs : Nodes) (met : Bool) → (xs, met) ≡ taken s.context bs
    → found s (each_node f xs) ≡ branch_found s (each_branch f bs)
choose_found s f bs xs met is =
    ap (λ (t : TakenNodes). found s (each_node f t.0)) is
    ∙ ap (λ (t : TakenNodes). found s t.0) (sym (opened_taken s.context f false bs))
    ∙ sym (branch_found_taken s false (each_branch f bs))

-- a choose
pub choose_is : (s : Stage) (before after : List Finding) (v inside : Survey) (f : Node → Node) (bs : Branches) (xs : Nodes) (met : Bool)
    → v ≡ both (record nothing { met = met }) inside → (xs, met) ≡ taken s.context bs → (inside, after) ≡ all_asked s before (each_node f xs)
    → (v, after) ≡ node_asked s before (nodes.choose (each_branch f bs))
choose_is s before after v inside f bs xs met e is asked =
    λ i. (
      (e ∙ choose_taken s f bs xs met inside is (ap (λ (a : Asked). a.0) asked)) i,
      (ap (λ (a : Asked). a.1) asked ∙ ap (λ l. before ++ l) (choose_found s f bs xs met is)) i,
    )

-- a node among several, once its own finding stands before those of the nodes inside it
pub next_is : (s : Stage) (before pushed after new : List Finding) (f : Finding) (v : Survey) (x : Node)
    → pushed ≡ before ++ f ∷ [] → (v, after) ≡ node_asked s pushed x
    → ((inside : List Finding) → after ≡ before ++ f ∷ inside → new ≡ before ++ with_finding v inside)
    → (v, new) ≡ next_asked s before x
next_is s before pushed after new f v x is asked append =
    let behind : after ≡ before ++ f ∷ found_inside s x =
    ap (λ (a : Asked). a.1) asked ∙ ap (λ l. l ++ found_inside s x) is ∙ append_assoc before (f ∷ []) (found_inside s x) in
    let same : v ≡ survey s x = ap (λ (a : Asked). a.0) asked in
    λ i. (same i, (append (found_inside s x) behind ∙ ap (λ w. before ++ with_finding w (found_inside s x)) same) i)

-- its index is there
pub next_there : (s : Stage) (before pushed after : List Finding) (f : Finding) (v : Survey) (x : Node) (index : ℕ)
    → index ≡ length before → pushed ≡ before ++ f ∷ [] → (v, after) ≡ node_asked s pushed x → index < length after
next_there s before pushed after f v x index at is asked =
    let behind : after ≡ before ++ f ∷ found_inside s x =
    ap (λ (a : Asked). a.1) asked ∙ ap (λ l. l ++ found_inside s x) is ∙ append_assoc before (f ∷ []) (found_inside s x) in
    omega (arith, at, ap length behind ∙ length-append before (f ∷ found_inside s x))

-- one more of several
pub several_on : (s : Stage) (before after : List Finding) (sofar v : Survey) (x : Node) (xs : Nodes) (all : Asked)
    → (v, after) ≡ next_asked s before x → (both sofar (surveys s (node x xs)), before ++ found s (node x xs)) ≡ all
    → (both (both sofar v) (surveys s xs), after ++ found s xs) ≡ all
several_on s before after sofar v x xs all asked e =
    (λ i. (both_three sofar v (surveys s xs) i, after ++ found s xs))
    ∙ ap (λ (a : Asked). (both sofar (both a.0 (surveys s xs)), a.1 ++ found s xs)) asked
    ∙ (λ i. (both sofar (surveys s (node x xs)), append_assoc before (with_finding (survey s x) (found_inside s x)) (found s xs) i))
    ∙ e

-- what is left of nodes is the next one and those after it
pub left_is : (f : Node → Node) (xs : List viewed.Node) (i : ℕ) (x : viewed.Node) → i < length xs → x ≡ get_or xs i x
    → each_node f (nodes_view (drop i xs)) ≡ node (f (node_view x)) (each_node f (nodes_view (drop (i + 1) xs)))
left_is f xs i x less is =
    ap (λ (ys : List viewed.Node). each_node f (nodes_view ys)) (drop_more xs i x less)
    ∙ ap (λ (y : viewed.Node). node (f (node_view y)) (each_node f (nodes_view (drop (i + 1) xs)))) (sym is)

-- one more of those that are left
pub several_more : (s : Stage) (f : Node → Node) (xs : List viewed.Node) (i : ℕ) (x : viewed.Node) (before after : List Finding) (sofar v w : Survey) (all : Asked)
    → i < length xs → x ≡ get_or xs i x → (v, after) ≡ next_asked s before (f (node_view x)) → w ≡ both sofar v
    → (both sofar (surveys s (each_node f (nodes_view (drop i xs)))), before ++ found s (each_node f (nodes_view (drop i xs)))) ≡ all
    → (both w (surveys s (each_node f (nodes_view (drop (i + 1) xs)))), after ++ found s (each_node f (nodes_view (drop (i + 1) xs)))) ≡ all
several_more s f xs i x before after sofar v w all less is asked same e =
    let rest = each_node f (nodes_view (drop (i + 1) xs)) in
    ap (λ (y : Survey). (both y (surveys s rest), after ++ found s rest)) same
    ∙ several_on s before after sofar v (f (node_view x)) rest all asked
    (ap (λ (ys : Nodes). (both sofar (surveys s ys), before ++ found s ys)) (sym (left_is f xs i x less is)) ∙ e)

both_none : (v : Survey) → v ≡ both v nothing
both_none v = λ i. record {
  is_admitted = sym (or_none v.is_admitted) i;
  calls = sym (or_none v.calls) i;
  is_answered = sym (or_none v.is_answered) i;
  met = sym (or_none v.met) i;
}

-- none is left
pub several_all : (s : Stage) (f : Node → Node) (xs : List viewed.Node) (i : ℕ) (after : List Finding) (v : Survey) (all : Asked)
    → length xs ≤ i
    → (both v (surveys s (each_node f (nodes_view (drop i xs)))), after ++ found s (each_node f (nodes_view (drop i xs)))) ≡ all
    → (v, after) ≡ all
several_all s f xs i after v all past e =
    (λ k. (both_none v k, sym (append-nil after) k))
    ∙ sym (at_drop_all (λ (ys : List viewed.Node). (both v (surveys s (each_node f (nodes_view ys))), after ++ found s (each_node f (nodes_view ys)))) xs i past)
    ∙ e
