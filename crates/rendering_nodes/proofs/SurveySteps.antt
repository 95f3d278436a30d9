-- What is asked of one more node, and of the branch that is taken.
use Rattle.std.proofs.Common.{◌≡◌, Bool, true, false, ◌||◌, ◌&&◌, refl, sym, ap, ◌∙◌, if◌then◌else◌}
use Rattle.rendering_context.specs.Contexts.{Context}
use Rattle.rendering_context.specs.Choosing.{is_met, asks_disambiguate}
use Rattle.rendering_style.specs.Nodes as nodes
use Rattle.rendering_style.specs.Nodes.{Nodes, Branches, otherwise, branch}
use Rattle.rendering_style.specs.Opening.{each_node, each_branch}
use Rattle.rendering_nodes.specs.Admission.{Survey, Stage, nothing, both, surveys, branch_survey}
use Rattle.rendering_nodes.specs.Taken.{TakenNodes, taken_after, taken}

pub or_assoc : (a b c : Bool) → ((a || b) || c) ≡ (a || (b || c))
or_assoc true b c = refl
or_assoc false b c = refl

pub or_none : (a : Bool) → (a || false) ≡ a
or_none true = refl
or_none false = refl

pub both_three : (a b c : Survey) → both (both a b) c ≡ both a (both b c)
both_three a b c = λ i. record {
  is_admitted = or_assoc a.is_admitted b.is_admitted c.is_admitted i;
  calls = or_assoc a.calls b.calls c.calls i;
  is_answered = or_assoc a.is_answered b.is_answered c.is_answered i;
  met = or_assoc a.met b.met c.met i;
}

-- what is asked before nodes
abbrev asked_before : Bool → Survey
asked_before met = record nothing { met = met }

branch_by : (b : Bool) (m n : Bool) (v w : Survey) (x y : TakenNodes) (s : Stage)
    → both (asked_before (m || n)) v ≡ both (asked_before x.1) (surveys s x.0)
    → both (asked_before (m || n)) w ≡ both (asked_before y.1) (surveys s y.0)
    → both (asked_before m) (both (asked_before n) (if b then v else w)) ≡ (let t = (if b then x else y) in both (asked_before t.1) (surveys s t.0))
branch_by true m n v w x y s e f = sym (both_three (asked_before m) (asked_before n) v) ∙ e
branch_by false m n v w x y s e f = sym (both_three (asked_before m) (asked_before n) w) ∙ f

-- the survey of branches is that of the branch that is taken
pub branch_taken : (s : Stage) (m : Bool) (bs : Branches)
    → both (asked_before m) (branch_survey s bs) ≡ both (asked_before (taken_after s.context m bs).1) (surveys s (taken_after s.context m bs).0)
branch_taken s m (otherwise xs) = refl
branch_taken s m (branch c xs bs) =
    branch_by (is_met s.context c) m (asks_disambiguate c) (surveys s xs) (branch_survey s bs)
    (xs, m || asks_disambiguate c) (taken_after s.context (m || asks_disambiguate c) bs) s refl
    (branch_taken s (m || asks_disambiguate c) bs)

opened_by : (b : Bool) (f : nodes.Node → nodes.Node) (xs ys : Nodes) (m : Bool) (t u : TakenNodes) → u ≡ (each_node f t.0, t.1)
    → (if b then (each_node f xs, m) else u) ≡ (each_node f (if b then (xs, m) else t).0, (if b then (xs, m) else t).1)
opened_by true f xs ys m t u e = refl
opened_by false f xs ys m t u e = e

-- the branch that is taken does not depend on what nodes come to
pub opened_taken : (c : Context) (f : nodes.Node → nodes.Node) (m : Bool) (bs : Branches)
    → taken_after c m (each_branch f bs) ≡ (each_node f (taken_after c m bs).0, (taken_after c m bs).1)
opened_taken c f m (otherwise xs) = refl
opened_taken c f m (branch k xs bs) =
    opened_by (is_met c k) f xs xs (m || asks_disambiguate k) (taken_after c (m || asks_disambiguate k) bs) (taken_after c (m || asks_disambiguate k) (each_branch f bs))
    (opened_taken c f (m || asks_disambiguate k) bs)

-- the survey of a choose is that of the branch that is taken, once it is opened
pub choose_taken : (s : Stage) (f : nodes.Node → nodes.Node) (bs : Branches) (xs : Nodes) (met : Bool) (inside : Survey)
    → (xs, met) ≡ taken s.context bs → inside ≡ surveys s (each_node f xs)
    → both (asked_before met) inside ≡ branch_survey s (each_branch f bs)
choose_taken s f bs xs met inside is e =
    ap (both (asked_before met)) e
    ∙ ap (λ (t : TakenNodes). both (asked_before t.1) (surveys s (each_node f t.0))) is
    ∙ ap (λ (t : TakenNodes). both (asked_before t.1) (surveys s t.0)) (sym (opened_taken s.context f false bs))
    ∙ sym (branch_taken s false (each_branch f bs))

-- what is not allowed is not printed
pub never : (a b : Bool) → b ≡ false → false ≡ (a && b)
never true b e = sym e
never false b e = refl
