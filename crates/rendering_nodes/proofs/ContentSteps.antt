-- What one more node adds to a page.
use Rattle.std.proofs.Common.{◌≡◌, ℕ, ◌+◌, ◌<◌, Bool, true, false, not, ◌&&◌, ◌||◌, List, [], length, drop, get_or, None, refl, sym, ap, ◌∙◌, if◌then◌else◌}
use Rattle.std.proofs.lemmas.Bool.{false≢true}
use Rattle.rendering_context.specs.Contexts.{Context}
use Rattle.rendering_context.specs.Choosing.{is_met, asks_disambiguate}
use Rattle.rendering_leaves.specs.NodeSettings.{NodeSetting, State, noted}
use Rattle.rendering_style.specs.Nodes as nodes
use Rattle.rendering_style.specs.Nodes.{NamesNode, Nodes, Branches, otherwise, branch}
use Rattle.rendering_style.specs.Opening.{each_node, each_branch}
use Rattle.rendering_style.specs.Views.{node_view, nodes_view}
use Rattle.rendering_style.specs.declared.node.Node as viewed
use Rattle.rendering_nodes.specs.Content.{accepted, chosen, content, contents, delimited, delimited_frame, delimited_node, delimits_printed, entered, first_substitute, left, stage}
use Rattle.rendering_nodes.specs.Admission.{survey}
use Rattle.rendering_nodes.specs.Taken.{TakenNodes, taken_after, taken}
use Rattle.rendering_nodes.specs.Turns.{asked, attempt, in_delimited, is_next, append_next, append_substitute, is_substitute}
use Rattle.rendering_page.specs.Pages.{Frame, prints}
use Rattle.rendering_nodes.proofs.FindingsSteps.{left_is}
use Rattle.rendering_nodes.proofs.SurveySteps.{or_assoc, or_none, opened_taken}

noted_twice : (a b : Bool) (st : State) → noted b (noted a st) ≡ noted (a || b) st
noted_twice a b st = λ k. record st { met_disambiguate = or_assoc st.met_disambiguate a b k }

pub noted_none : (st : State) → noted false st ≡ st
noted_none st = λ k. record st { met_disambiguate = or_none st.met_disambiguate k }

chosen_by : (b : Bool) (c : Context) (s : NodeSetting) (t u : TakenNodes) (st v w : State)
    → v ≡ contents c s true t.0 (noted t.1 st) → w ≡ contents c s true u.0 (noted u.1 st)
    → (if b then v else w) ≡ (let r = (if b then t else u) in contents c s true r.0 (noted r.1 st))
chosen_by true c s t u st v w e f = e
chosen_by false c s t u st v w e f = f

-- what branches append is what the one that is taken appends
pub chosen_taken : (c : Context) (s : NodeSetting) (m : Bool) (bs : Branches) (st : State)
    → chosen c s bs (noted m st) ≡ contents c s true (taken_after c m bs).0 (noted (taken_after c m bs).1 st)
chosen_taken c s m (otherwise xs) st = refl
chosen_taken c s m (branch k xs bs) st =
    chosen_by (is_met c k) c s (xs, m || asks_disambiguate k) (taken_after c (m || asks_disambiguate k) bs) st
    (contents c s true xs (noted (asks_disambiguate k) (noted m st))) (chosen c s bs (noted (asks_disambiguate k) (noted m st)))
    (ap (contents c s true xs) (noted_twice m (asks_disambiguate k) st))
    (ap (chosen c s bs) (noted_twice m (asks_disambiguate k) st) ∙ chosen_taken c s (m || asks_disambiguate k) bs st)

-- the same of branches that are opened
pub choose_appended : (c : Context) (s : NodeSetting) (f : nodes.Node → nodes.Node) (bs : Branches) (xs : Nodes) (met : Bool) (st middle new : State)
    → (xs, met) ≡ taken c bs → middle ≡ noted met st → new ≡ contents c s true (each_node f xs) middle
    → new ≡ chosen c s (each_branch f bs) st
choose_appended c s f bs xs met st middle new is m e =
    e
    ∙ ap (contents c s true (each_node f xs)) m
    ∙ ap (λ (t : TakenNodes). contents c s true (each_node f t.0) (noted t.1 st)) is
    ∙ ap (λ (t : TakenNodes). contents c s true t.0 (noted t.1 st)) (sym (opened_taken c f false bs))
    ∙ sym (chosen_taken c s false (each_branch f bs) st)
    ∙ ap (chosen c s (each_branch f bs)) (noted_none st)

-- a node that is not admitted
pub next_passed : (c : Context) (s : NodeSetting) (is_first b : Bool) (x : nodes.Node) (st new : State)
    → b ≡ is_next c s x st → b ≡ false → new ≡ asked c s x st → new ≡ append_next c s is_first x st
next_passed c s is_first b x st new is so append =
    append ∙ ap (λ y. if y then delimited_node c s is_first (content c None s x) (asked c s x st) else asked c s x st) (sym so ∙ is)

-- a node that is admitted
pub next_admitted : (c : Context) (s : NodeSetting) (is_first b : Bool) (x : nodes.Node) (st middle new : State)
    → b ≡ is_next c s x st → b ≡ true → middle ≡ asked c s x st → new ≡ delimited_node c s is_first (content c None s x) middle
    → new ≡ append_next c s is_first x st
next_admitted c s is_first b x st middle new is so e append =
    append
    ∙ ap (delimited_node c s is_first (content c None s x)) e
    ∙ ap (λ y. if y then delimited_node c s is_first (content c None s x) (asked c s x st) else asked c s x st) (sym so ∙ is)

-- a node after the delimiter
pub delimited_on : (c : Context) (s : NodeSetting) (is_first b : Bool) (x : nodes.Node) (st before new : State)
    → b ≡ delimits_printed s st → b ≡ false → before ≡ delimited c s is_first st → new ≡ content c None s x before
    → new ≡ delimited_node c s is_first (content c None s x) st
delimited_on c s is_first b x st before new is so e append =
    append
    ∙ ap (content c None s x) e
    ∙ ap (λ y. if y then in_delimited c s x st else content c None s x (delimited c s is_first st)) (sym so ∙ is)

-- a node in an element with the delimiter
pub delimited_in : (c : Context) (s : NodeSetting) (is_first b : Bool) (x : nodes.Node) (st new : State)
    → b ≡ delimits_printed s st → b ≡ true → new ≡ in_delimited c s x st
    → new ≡ delimited_node c s is_first (content c None s x) st
delimited_in c s is_first b x st new is so append =
    append
    ∙ ap (λ y. if y then in_delimited c s x st else content c None s x (delimited c s is_first st)) (sym so ∙ is)

-- the element with the delimiter: it begins, the node follows, it ends
pub delimited_by : (c : Context) (s : NodeSetting) (x : nodes.Node) (f : Frame) (st begun done new : State)
    → f ≡ delimited_frame s st → begun ≡ entered c f [] st → done ≡ content c None s x begun → new ≡ left c f [] done
    → new ≡ in_delimited c s x st
delimited_by c s x f st begun done new same begins follow ends =
    let inside = follow ∙ ap (content c None s x) (begins ∙ ap (λ (g : Frame). entered c g [] st) same) in
    ends ∙ (λ i. left c (same i) [] (inside i))

-- what is left of nodes, one step on
pub contents_more : (c : Context) (s : NodeSetting) (f : nodes.Node → nodes.Node) (xs : List viewed.Node) (i : ℕ) (x : viewed.Node) (is_first b w : Bool) (st new end : State)
    → i < length xs → x ≡ get_or xs i x → b ≡ is_next c s (f (node_view x)) st → w ≡ (is_first && not b) → new ≡ append_next c s is_first (f (node_view x)) st
    → contents c s is_first (each_node f (nodes_view (drop i xs))) st ≡ end
    → contents c s w (each_node f (nodes_view (drop (i + 1) xs))) new ≡ end
contents_more c s f xs i x is_first b w st new end less is admitted same append e =
    let rest = each_node f (nodes_view (drop (i + 1) xs)) in
    (λ k. contents c s ((same ∙ ap (λ a. is_first && not a) admitted) k) rest (append k))
    ∙ ap (λ (ys : Nodes). contents c s is_first ys st) (sym (left_is f xs i x less is))
    ∙ e

on_by : (a p : Bool) (c : Context) (h : NamesNode) (s : NodeSetting) (xs : Nodes) (m d : Bool) (st done : State) → (a && p) ≡ false
    → first_substitute c h s xs (if a then (if p then done else noted d (noted m st)) else noted m st) ≡ (if a && p then done else first_substitute c h s xs (noted (m || a && d) st))
on_by true true c h s xs m d st done never = absurd (false≢true (sym never))
on_by true false c h s xs m d st done never = ap (first_substitute c h s xs) (noted_twice m d st)
on_by false p c h s xs m d st done never = ap (λ e. first_substitute c h s xs (noted e st)) (sym (or_none m))

-- what is left of a substitute, once one of its nodes prints nothing
pub substitute_more : (c : Context) (h : NamesNode) (s : NodeSetting) (f : nodes.Node → nodes.Node) (xs : List viewed.Node) (i : ℕ) (x : viewed.Node) (b : Bool) (st new end : State)
    → i < length xs → x ≡ get_or xs i x → b ≡ is_substitute c h s (f (node_view x)) st → b ≡ false → new ≡ append_substitute c h s (f (node_view x)) st
    → first_substitute c h s (each_node f (nodes_view (drop i xs))) st ≡ end
    → first_substitute c h s (each_node f (nodes_view (drop (i + 1) xs))) new ≡ end
substitute_more c h s f xs i x b st new end less is tries fails append e =
    let rest = each_node f (nodes_view (drop (i + 1) xs)) in
    let y = f (node_view x) in
    let done = attempt c h s y st in
    ap (first_substitute c h s rest) append
    ∙ on_by (is_next c s y st) (prints 0 done.page.tokens) c h s rest (survey (stage c s st) y).met done.met_disambiguate st (accepted c s done) (sym tries ∙ fails)
    ∙ ap (λ (ys : Nodes). first_substitute c h s ys st) (sym (left_is f xs i x less is))
    ∙ e

-- whether both of two hold is what the second says where the first does, and else what the first says
pub and_then : (a b w : Bool) → a ≡ true → w ≡ b → w ≡ (a && b)
and_then a b w so e = e ∙ ap (λ x. x && b) (sym so)

pub and_else : (a b w : Bool) → a ≡ false → w ≡ a → w ≡ (a && b)
and_else a b w so e = e ∙ so ∙ ap (λ x. x && b) (sym so)
