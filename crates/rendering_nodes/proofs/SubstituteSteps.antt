-- Names with people, and their substitute, from what each call appends.
use Rattle.std.proofs.Common.{◌≡◌, ℕ, Bool, true, false, ◌&&◌, ◌||◌, eqb, eqb-true, suc-ne-zero, List, [], ◌∷◌, length, refl, sym, ap, ◌∙◌, if◌then◌else◌, Option, None, Some, is_some}
use Rattle.std.specs.Option.{option_or}
use Rattle.std.proofs.lemmas.Bool.{false≢true}
use Rattle.rendering_context.specs.Answering.{all_people}
use Rattle.rendering_context.specs.Contexts.{Context}
use Rattle.rendering_leaves.specs.NodeSettings.{NodeSetting, State}
use Rattle.rendering_names.specs.Names.{completed, names_frame}
use Rattle.rendering_people.specs.Views.{all_lent_answered_view}
use Rattle.rendering_people.specs.declared.people.Answered.{Answered}
use Rattle.rendering_page.specs.Pages.{prints}
use Rattle.rendering_style.specs.Nodes as nodes
use Rattle.rendering_style.specs.Nodes.{NamesNode, Nodes}
use Rattle.rendering_taxonomy.specs.declared.variable.Variable.{Variable}
use Rattle.rendering_tree.specs.Metas as metas
use Rattle.rendering_nodes.specs.Content.{content, entered, first_substitute, inside_names, left, names_in, names_or_substitute, append_people, substituted_names, taken, tried}
use Rattle.rendering_nodes.specs.Turns.{asked, attempt, is_next, names_appended, settled, append_substitute, is_substitute, substituted}

-- the people of a names node, by variables that are the same
people_as : (c : Context) (h : NamesNode) (sup : List Variable) (people : List metas.Answered) (st : State)
    → sup ≡ st.suppressed → people ≡ all_people c sup h.variables → people ≡ all_people c st.suppressed h.variables
people_as c h sup people st e is = is ∙ ap (λ vs. all_people c vs h.variables) e

-- names without people
pub names_without : (c : Context) (s : NodeSetting) (h : NamesNode) (xs : Nodes) (sup : List Variable) (people : List Answered) (n : ℕ) (b : Bool) (st new : State)
    → sup ≡ st.suppressed → all_lent_answered_view people ≡ all_people c sup h.variables → n ≡ length people → b ≡ eqb n 0 → b ≡ true
    → new ≡ substituted c s (names_in s.form h) xs st → new ≡ names_appended c s h xs st
names_without c s h xs sup [] n b st new e is count test so append =
    let own = names_in s.form h in
    append ∙ ap (λ ps. names_or_substitute c s own (first_substitute c own (inside_names s own xs) xs) ps st) (people_as c h sup (all_lent_answered_view []) st e is)
names_without c s h xs sup (p ∷ ps) n b st new e is count test so append = absurd (suc-ne-zero (length ps) (sym count ∙ eqb-true n 0 (sym test ∙ so)))

-- names with people
pub names_with : (c : Context) (s : NodeSetting) (h : NamesNode) (xs : Nodes) (sup : List Variable) (people shown : List Answered) (n : ℕ) (b : Bool) (st new : State)
    → sup ≡ st.suppressed → all_lent_answered_view people ≡ all_people c sup h.variables → n ≡ length people → b ≡ eqb n 0 → b ≡ false → shown ≡ people
    → new ≡ append_people c s (names_in s.form h) (all_lent_answered_view shown) st → new ≡ names_appended c s h xs st
names_with c s h xs sup [] shown n b st new e is count test so one append = absurd (false≢true (sym so ∙ (test ∙ ap (λ (m : ℕ). eqb m 0) count)))
names_with c s h xs sup (p ∷ ps) shown n b st new e is count test so one append =
    let own = names_in s.form h in
    append
    ∙ ap (λ qs. append_people c s own (all_lent_answered_view qs) st) one
    ∙ ap (λ qs. names_or_substitute c s own (first_substitute c own (inside_names s own xs) xs) qs st) (people_as c h sup (all_lent_answered_view (p ∷ ps)) st e is)

-- names that are completed are of the same variables
completed_if : (b : Bool) (h g : NamesNode) → g.variables ≡ h.variables → (if b then h else g).variables ≡ h.variables
completed_if true h g same = refl
completed_if false h g same = same

completed_variables : (outer h : NamesNode) → (completed outer h).variables ≡ h.variables
completed_variables outer h =
    completed_if (is_some h.name || is_some h.et_al) h
    (record h { name = outer.name; et_al = outer.et_al; label = option_or h.label outer.label; label_is_first = if is_some h.label then h.label_is_first else outer.label_is_first })
    refl

pub taken_variables : (outer : Option NamesNode) (h : NamesNode) → (taken outer h).variables ≡ h.variables
taken_variables None h = refl
taken_variables (Some o) h = completed_variables o h

-- names in a substitute are appended as those with what they take from the names around
pub taken_content : (c : Context) (outer : Option NamesNode) (s : NodeSetting) (h : NamesNode) (xs : Nodes) (st : State)
    → names_appended c s (taken (substituted_names c.is_published outer s) h) xs st ≡ content c outer s (nodes.names h xs) st
taken_content c outer s h xs st =
    let around = substituted_names c.is_published outer s in
    let own = names_in s.form (taken around h) in
    ap (λ vs. names_or_substitute c s own (first_substitute c own (inside_names s own xs) xs) (all_people c st.suppressed vs) st) (taken_variables around h)

-- names by their parts
pub names_by : (c : Context) (outer : Option NamesNode) (s : NodeSetting) (h g : NamesNode) (xs : Nodes) (st new : State) → g ≡ taken (substituted_names c.is_published outer s) h
    → new ≡ names_appended c s g xs st → new ≡ content c outer s (nodes.names h xs) st
names_by c outer s h g xs st new same append = append ∙ ap (λ y. names_appended c s y xs st) same ∙ taken_content c outer s h xs st

-- the element of names with their substitute
pub substituted_by : (c : Context) (s t : NodeSetting) (h : NamesNode) (xs : Nodes) (st begun middle new : State)
    → t ≡ inside_names s h xs → begun ≡ entered c (names_frame s.manner h []) [] st → middle ≡ first_substitute c h t xs begun → new ≡ left c (names_frame s.manner h []) [] middle
    → new ≡ substituted c s h xs st
substituted_by c s t h xs st begun middle new same e f g = g ∙ ap (left c (names_frame s.manner h []) []) (f ∙ (λ k. first_substitute c h (same k) xs (e k)))

-- a node that is tried
pub tried_by : (c : Context) (h : NamesNode) (s : NodeSetting) (x : nodes.Node) (st copy begun new : State)
    → copy ≡ st → begun ≡ tried c s copy → new ≡ content c (Some h) s x begun → new ≡ content c (Some h) s x (tried c s st)
tried_by c h s x st copy begun new e f g = g ∙ ap (content c (Some h) s x) (f ∙ ap (tried c s) e)

-- a node that is admitted, once it was tried
pub substitute_tried : (c : Context) (h : NamesNode) (s : NodeSetting) (x : nodes.Node) (b : Bool) (st middle done new : State)
    → b ≡ is_next c s x st → b ≡ true → middle ≡ asked c s x st → done ≡ content c (Some h) s x (tried c s middle) → new ≡ settled c s done middle
    → new ≡ append_substitute c h s x st
substitute_tried c h s x b st middle done new is so e f g =
    g
    ∙ (λ k. settled c s ((f ∙ ap (λ z. content c (Some h) s x (tried c s z)) e) k) (e k))
    ∙ ap (λ y. if y then settled c s (attempt c h s x st) (asked c s x st) else asked c s x st) (sym so ∙ is)

-- whether it is a substitute
pub is_substitute_tried : (c : Context) (h : NamesNode) (s : NodeSetting) (x : nodes.Node) (b printed : Bool) (st middle done : State)
    → b ≡ is_next c s x st → b ≡ true → middle ≡ asked c s x st → done ≡ content c (Some h) s x (tried c s middle) → printed ≡ prints 0 done.page.tokens
    → printed ≡ is_substitute c h s x st
is_substitute_tried c h s x b printed st middle done is so e f shows =
    shows
    ∙ ap (λ (z : State). prints 0 z.page.tokens) (f ∙ ap (λ z. content c (Some h) s x (tried c s z)) e)
    ∙ ap (λ y. y && prints 0 (attempt c h s x st).page.tokens) (sym so ∙ is)

-- a node that is not admitted does not
pub is_substitute_passed : (c : Context) (h : NamesNode) (s : NodeSetting) (x : nodes.Node) (b : Bool) (st : State) → b ≡ is_next c s x st → b ≡ false → false ≡ is_substitute c h s x st
is_substitute_passed c h s x b st is so = ap (λ y. y && prints 0 (attempt c h s x st).page.tokens) (sym so ∙ is)

pub substitute_passed : (c : Context) (h : NamesNode) (s : NodeSetting) (x : nodes.Node) (b : Bool) (st new : State)
    → b ≡ is_next c s x st → b ≡ false → new ≡ asked c s x st → new ≡ append_substitute c h s x st
substitute_passed c h s x b st new is so append =
    append ∙ ap (λ y. if y then settled c s (attempt c h s x st) (asked c s x st) else asked c s x st) (sym so ∙ is)
