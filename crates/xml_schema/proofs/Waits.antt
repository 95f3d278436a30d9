-- What waits, step by step.
use Rattle.std.proofs.Common.{◌≡◌, ℕ, ◌+◌, ◌<◌, List, [], ◌∷◌, ◌++◌, map, Option, Some, None, Vec, Global, String, vec_len, option_to_list, MatchOption, refl, sym, ap, ◌∙◌, arith, append_assoc}
use Rattle.std.proofs.lemmas.List.{reverse-append, nil_from_length}
use Rattle.xml_tree.specs.Trees as trees
use Rattle.xml_tree.specs.Trees.{Tagged, Content, Last, Next, content_of}
use Rattle.laws.specs.Text.{characters}
use Rattle.xml_tree.specs.Views.{element_view, children_of, children_view}
use Rattle.xml_tree.specs.declared.tree.Element.{Element, out-Element}
use Rattle.xml_schema.specs.Faults.{Fault, fault, name_of, left_at, own_wrongs, own_faults, standing, faults_where_it_stands, ruled_faults, content_faults, element_faults, first_of}
use Rattle.xml_schema.specs.Waiting as specs
use Rattle.xml_schema.specs.Waiting.{waits, bare, inside, waiting_faults, weight, content_weight, waiting_weight}
use Rattle.xml_schema.specs.Views.{waiting_at, waiting_view, waiting_of, waiting_list}
use Rattle.xml_schema.specs.declared.finding.Waiting.{Waiting}
use Rattle.xml_schema.specs.Tables.{Rule, Schema}
use Rattle.xml_schema.proofs.Contents.{element_opened}
use Rattle.xml_schema.proofs.Firsts.{none_first, some_first}

-- the last text of an element says nothing
pub bare_is : (ps : List (List ℕ × trees.Element)) (t : List ℕ) → bare (content_of ps t) ≡ content_of ps []
bare_is [] t = refl
bare_is (p ∷ ps) t = ap (Next p.0 p.1) (bare_is ps t)

pub bare_faults : (s : Schema) (rule : Rule) (c : Content) → content_faults s rule (bare c) ≡ content_faults s rule c
bare_faults s rule (Last t) = refl
bare_faults s rule (Next t e c) = ap (λ (fs : List Fault). faults_where_it_stands rule (standing s rule (name_of e)) (left_at e) (λ r. ruled_faults s r e) ++ fs) (bare_faults s rule c)

pub bare_weight : (c : Content) → content_weight (bare c) ≡ content_weight c
bare_weight (Last t) = refl
bare_weight (Next t e c) = ap (λ (n : ℕ). weight e + n) (bare_weight c)

-- an element with a fault of its own, and one without
pub into_some : (s : Schema) (rule : Rule) (e : trees.Element) (old : List specs.Waiting) (f : Fault) → Some f ≡ first_of (own_faults s rule e) → Some f ≡ first_of (ruled_faults s rule e ++ waiting_faults s old)
into_some s rule (Tagged left name attributes content) old f is =
    let own : List Fault = map (fault left) (own_wrongs s rule attributes content) in
    some_first f (own ++ content_faults s rule content) (waiting_faults s old) (some_first f own (content_faults s rule content) is)

pub into_none : (s : Schema) (rule : Rule) (e : trees.Element) (old : List specs.Waiting) → None ≡ first_of (own_faults s rule e)
    → first_of (waiting_faults s (inside rule e ∷ old)) ≡ first_of (ruled_faults s rule e ++ waiting_faults s old)
into_none s rule (Tagged left name attributes content) old is =
    let none : map (fault left) (own_wrongs s rule attributes content) ≡ [] = none_first (map (fault left) (own_wrongs s rule attributes content)) is in
    ap (λ (fs : List Fault). first_of (fs ++ waiting_faults s old)) (bare_faults s rule content ∙ sym (ap (λ (os : List Fault). os ++ content_faults s rule content) none))

-- what is in an element takes less steps than the element
pub into_fewer : (rule : Rule) (e : trees.Element) (old : List specs.Waiting) → waiting_weight (inside rule e ∷ old) < waiting_weight old + weight e
into_fewer rule (Tagged left name attributes content) old =
    let same : content_weight (bare content) ≡ content_weight content = bare_weight content in
    omega arith

pub some_weight : (e : trees.Element) (old : List specs.Waiting) → waiting_weight old < waiting_weight old + weight e
some_weight (Tagged left name attributes content) old = omega arith

-- the first of the elements that waited last, and the others
pub child_faults : (s : Schema) (rule : Rule) (ps rest : List (String Global × Element)) (child : String Global × Element) (old : List specs.Waiting) → ps ≡ child ∷ rest
    → waiting_faults s (waiting_at rule ps ∷ old)
    ≡ element_faults s rule (standing s rule (name_of (element_view child.1))) (element_view child.1) ++ waiting_faults s (waiting_at rule rest ∷ old)
child_faults s rule ps rest child old e =
    ap (λ (qs : List (String Global × Element)). waiting_faults s (waiting_at rule qs ∷ old)) e
    ∙ append_assoc (element_faults s rule (standing s rule (name_of (element_view child.1))) (element_view child.1)) (content_faults s rule (content_of (children_of rest) [])) (waiting_faults s old)

pub child_weight : (rule : Rule) (ps rest : List (String Global × Element)) (child : String Global × Element) (old : List specs.Waiting) → ps ≡ child ∷ rest
    → waiting_weight (waiting_at rule ps ∷ old) ≡ waiting_weight (waiting_at rule rest ∷ old) + weight (element_view child.1)
child_weight rule ps rest child old e =
    let w : ℕ = weight (element_view child.1) in
    let r : ℕ = content_weight (content_of (children_of rest) []) in
    let o : ℕ = waiting_weight old in
    let sums : w + r + 1 + o ≡ r + 1 + o + w = omega arith in
    ap (λ (qs : List (String Global × Element)). waiting_weight (waiting_at rule qs ∷ old)) e ∙ sums

-- one more that waits
pub waiting_pushed : (ws : List Waiting) (w : Waiting) → waiting_of (ws ++ w ∷ []) ≡ waiting_view w ∷ waiting_of ws
waiting_pushed ws w = ap (map waiting_view) (reverse-append ws (w ∷ []))

-- what waited last is taken, if anything waits
pub waiting_popped : (v n : Vec Waiting Global) (r : Option Waiting) → v.items ≡ n.items ++ option_to_list r → MatchOption r ((vec_len v ≡ 0) × (vec_len n ≡ 0)) (λ _. vec_len n + 1 ≡ vec_len v)
    → MatchOption r (waiting_list v ≡ []) (λ w. waiting_list v ≡ waiting_view w ∷ waiting_list n)
waiting_popped v n None e (old, new) = ap waiting_of (nil_from_length v.items (sym v.ok.0 ∙ old))
waiting_popped v n (Some w) e counted = ap waiting_of e ∙ waiting_pushed n.items w

-- what is in an element waits
pub inside_is : (rule : Rule) (e : Element) (ps : List (String Global × Element)) → ps ≡ (out-Element e).children.items → waiting_at rule ps ≡ inside rule (element_view e)
inside_is rule e ps same =
    let bared : bare (content_of (children_view (out-Element e).children) (characters (out-Element e).text)) ≡ content_of (children_view (out-Element e).children) [] =
    bare_is (children_view (out-Element e).children) (characters (out-Element e).text) in
    ap (waiting_at rule) same ∙ sym (ap (inside rule) (element_opened e) ∙ ap (λ (c : Content). waits rule c) bared)

pub content_put : (old new : List Waiting) (rule : Rule) (e : Element) (w : Waiting) → w.rule ≡ rule → w.rest.now ≡ (out-Element e).children.items → new ≡ old ++ w ∷ []
    → waiting_of new ≡ inside rule (element_view e) ∷ waiting_of old
content_put old new rule e w ruled same pushed =
    ap waiting_of pushed ∙ (waiting_pushed old w ∙ ap (λ (x : specs.Waiting). x ∷ waiting_of old) (ap (λ (r : Rule). waiting_at r w.rest.now) ruled ∙ inside_is rule e w.rest.now same))
