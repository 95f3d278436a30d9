-- What is known of nodes from what surveys found.
use Rattle.std.proofs.Common.{◌≡◌, ℕ, ◌-◌, Bool, true, false, ◌&&◌, List, [], ◌∷◌, ◌++◌, length, take, drop, get_or, slice_set, refl, sym, ap, ◌∙◌, subst, arith, rules}
use Rattle.std.proofs.Math.Seq.{take-append_seam, drop-append_seam, set-append_seam}
use Rattle.std.proofs.lemmas.Bool.{false≢true}
use Rattle.std.proofs.lemmas.List.{length-append}
use Rattle.std.specs.Cmp.Lexicographic.{pointwise}
use denote.Enum.Bare.{same_true}
use Rattle.rendering_context.specs.Contexts.{Context}
use Rattle.rendering_leaves.specs.NodeSettings.{SpecialForm, NodeSetting, State}
use Rattle.rendering_style.specs.Nodes.{Node, Nodes, node}
use Rattle.rendering_taxonomy.proofs.Indices.{Decides-names}
use Rattle.rendering_taxonomy.specs.contracts.variable.StandardVariable.{the_type as standard_type}
use Rattle.rendering_taxonomy.specs.contracts.variable.NumberVariable.{the_type as number_type}
use Rattle.rendering_taxonomy.specs.contracts.variable.DateVariable.{the_type as date_type}
use Rattle.rendering_taxonomy.specs.contracts.variable.VariablePartialEq.TheImpl as variable_eq
use Rattle.rendering_taxonomy.specs.declared.variable.Variable.{Variable}
use Rattle.rendering_taxonomy.specs.declared.variable.Variable.TheVariants as variables
use Rattle.rendering_nodes.specs.Admission.{Stage, Survey, survey}
use Rattle.rendering_nodes.specs.Content.{stage}
use Rattle.rendering_nodes.specs.Findings.{AreAll, AreFound, IsFound, IsSurveyed, found, found_inside, stage_then, with_finding}
use Rattle.rendering_nodes.specs.declared.finding.Finding.{Finding}
use Rattle.rendering_nodes.specs.declared.finding.Findings.{Findings}
use Rattle.rendering_nodes.specs.declared.finding.NodeFinding.{NodeFinding}
use Rattle.rendering_nodes.specs.declared.finding.Surveyed.{Surveyed}

-- variables of which `==` is true are one
one_variable : (v w : Variable) → variable_eq.ghosts.eq v w ≡ true → v ≡ w
one_variable (variables.Standard v) (variables.Standard w) so = ap variables.Standard (same_true standard_type (search rules) v w so)
one_variable (variables.Number v) (variables.Number w) so = ap variables.Number (same_true number_type (search rules) v w so)
one_variable variables.Page variables.Page so = refl
one_variable (variables.Name v) (variables.Name w) so = ap variables.Name ((Decides-names v w).0 so)
one_variable (variables.Date v) (variables.Date w) so = ap variables.Date (same_true date_type (search rules) v w so)
one_variable v w so = absurd (false≢true so)

both_true : (a b : Bool) → (a && b) ≡ true → (a ≡ true) × (b ≡ true)
both_true true b so = (refl, so)
both_true false b so = absurd (false≢true so)

-- and so are lists of them
pub one_list : (vs ws : List Variable) → pointwise variable_eq.ghosts.eq vs ws ≡ true → vs ≡ ws
one_list [] [] so = refl
one_list [] (w ∷ ws) so = absurd (false≢true so)
one_list (v ∷ vs) [] so = absurd (false≢true so)
one_list (v ∷ vs) (w ∷ ws) so =
    let p = both_true (variable_eq.ghosts.eq v w) (pointwise variable_eq.ghosts.eq vs ws) so in
    λ i. one_variable v w p.0 i ∷ one_list vs ws p.1 i

-- what is the same is all
pub all_same : (fs gs : List Finding) → fs ≡ gs → AreAll fs gs
all_same [] gs e = tt
all_same (f ∷ fs) gs e = e

-- what was found of a node, of those inside it, and of those after it
pub record IsParted (f : Finding) (others own after : List Finding) (v : Survey) : Type 0 where
  pub is_admitted : f.is_admitted ≡ v.is_admitted
  pub met : f.met ≡ v.met
  pub inside : take f.inside others ≡ own
  pub rest : drop f.inside others ≡ after

pub parted : (f : Finding) (others own after : List Finding) (v : Survey) → f ∷ others ≡ with_finding v own ++ after → IsParted f others own after v
parted f others own after v e =
    let first : f ≡ record { is_admitted = v.is_admitted; met = v.met; inside = length own } = ap (λ (l : List Finding). get_or l 0 f) e in
    let behind : others ≡ own ++ after = ap (λ (l : List Finding). drop 1 l) e in
    let count : f.inside ≡ length own = ap (λ (g : Finding). g.inside) first in
    record {
      is_admitted = ap (λ (g : Finding). g.is_admitted) first;
      met = ap (λ (g : Finding). g.met) first;
      inside = (λ i. take (count i) (behind i)) ∙ take-append_seam own after;
      rest = (λ i. drop (count i) (behind i)) ∙ drop-append_seam own after;
    }

-- of the first of nodes, that is known now, where a survey of it finds what it found
pub found_first : (c : Context) (s : NodeSetting) (st : State) (x : Node) (xs : Nodes) (k : Findings) (n : NodeFinding) (f : Finding) (others : List Finding)
    → survey (stage_then c s.form k) x ≡ survey (stage c s st) x → k.nodes.now ≡ f ∷ others
    → n.is_admitted ≡ f.is_admitted → n.met ≡ f.met → n.inside.has_date ≡ k.has_date → n.inside.suppressed.now ≡ k.suppressed.now → n.inside.nodes.now ≡ take f.inside others
    → AreFound c s.form k (node x xs) → IsFound c s st n x
found_first c s st x xs k n f others now is admitted met date suppressed inside known =
    let here : Stage = stage_then c s.form k in
    let p : IsParted f others (found_inside here x) (found here xs) (survey here x) =
    parted f others (found_inside here x) (found here xs) (survey here x) (subst (λ (l : List Finding). AreAll l (found here (node x xs))) is known) in
    let same : stage_then c s.form n.inside ≡ here = λ i. record { context = c; form = s.form; has_date = date i; suppressed = suppressed i } in
    record {
      is_admitted = admitted ∙ p.is_admitted ∙ ap (λ (v : Survey). v.is_admitted) now;
      met = met ∙ p.met ∙ ap (λ (v : Survey). v.met) now;
      inside = all_same n.inside.nodes.now (found_inside (stage_then c s.form n.inside) x) (inside ∙ p.inside ∙ sym (ap (λ (t : Stage). found_inside t x) same));
    }

-- of those after the first
pub found_others : (c : Context) (form : SpecialForm) (x : Node) (xs : Nodes) (k n : Findings) (f : Finding) (others : List Finding)
    → k.nodes.now ≡ f ∷ others → n.has_date ≡ k.has_date → n.suppressed.now ≡ k.suppressed.now → n.nodes.now ≡ drop f.inside others
    → AreFound c form k (node x xs) → AreFound c form n xs
found_others c form x xs k n f others is date suppressed nodes known =
    let here : Stage = stage_then c form k in
    let p : IsParted f others (found_inside here x) (found here xs) (survey here x) =
    parted f others (found_inside here x) (found here xs) (survey here x) (subst (λ (l : List Finding). AreAll l (found here (node x xs))) is known) in
    let same : stage_then c form n ≡ here = λ i. record { context = c; form = form; has_date = date i; suppressed = suppressed i } in
    all_same n.nodes.now (found (stage_then c form n) xs) (nodes ∙ p.rest ∙ sym (ap (λ (t : Stage). found t xs) same))

-- of nodes of which nothing is known
pub none_found : (c : Context) (form : SpecialForm) (k : Findings) (xs : Nodes) → k.nodes.now ≡ [] → AreFound c form k xs
none_found c form k xs none = subst (λ (l : List Finding). AreAll l (found (stage_then c form k) xs)) (sym none) tt

-- what a survey of a node found is known of it
pub finding_is : (c : Context) (s : NodeSetting) (st : State) (n : NodeFinding) (m : Surveyed) (x : Node)
    → n.is_admitted ≡ m.is_admitted → n.met ≡ m.met → n.inside.has_date ≡ m.has_date → n.inside.suppressed.now ≡ m.suppressed.items → n.inside.nodes.now ≡ m.inside.items
    → IsSurveyed c s st m x → IsFound c s st n x
finding_is c s st n m x admitted met date suppressed inside is =
    let same : stage_then c s.form n.inside ≡ stage c s st = λ i. record { context = c; form = s.form; has_date = (date ∙ is.has_date) i; suppressed = (suppressed ∙ is.suppressed) i } in
    record {
      is_admitted = admitted ∙ is.is_admitted;
      met = met ∙ is.met;
      inside = all_same n.inside.nodes.now (found_inside (stage_then c s.form n.inside) x) (inside ∙ is.inside ∙ sym (ap (λ (t : Stage). found_inside t x) same));
    }

-- what is put at an index is put before what follows it
pub appended_at : (items before inside : List Finding) (f : Finding) (index n : ℕ) (v : Survey)
    → index ≡ length before → items ≡ before ++ f ∷ inside → n ≡ length items
    → slice_set items index (record { is_admitted = v.is_admitted; met = v.met; inside = n - index - 1 }) ≡ before ++ with_finding v inside
appended_at items before inside f index n v at is count =
    let some : n - index - 1 ≡ length inside = omega (arith, at, count ∙ ap length is ∙ length-append before (f ∷ inside)) in
    (λ i. slice_set (is i) (at i) (record { is_admitted = v.is_admitted; met = v.met; inside = some i })) ∙ set-append_seam before f inside (record { is_admitted = v.is_admitted; met = v.met; inside = length inside })
