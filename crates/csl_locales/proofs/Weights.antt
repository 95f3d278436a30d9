-- An element weighs more than those in it.
use Rattle.std.proofs.Common.{◌≡◌, ℕ, zero, suc, ◌+◌, ◌*◌, ◌<◌, ◌≤◌, List, [], ◌∷◌, length, get_or, String, Global, refl, ap, ◌∙◌, arith}
use Rattle.xml_tree.specs.Trees as trees
use Rattle.xml_tree.specs.Trees.{Tagged, Content, Last, Next, content_of}
use Rattle.xml_tree.specs.Views.{element_view, children_of}
use Rattle.xml_tree.specs.declared.tree.Element.{Element}
use Rattle.csl_words.specs.Elements.{content_in}

abbrev mutual
  pub weight : trees.Element → ℕ
  weight (Tagged left name attributes content) = content_weight content + 2

  pub content_weight : Content → ℕ
  content_weight (Last t) = 0
  content_weight (Next t e c) = weight e + content_weight c

-- elements that the code has
abbrev pub children_weight : List (String Global × Element) → ℕ
children_weight ps = content_weight (content_of (children_of ps) [])

same_weight : (ps : List (List ℕ × trees.Element)) (t : List ℕ) → content_weight (content_of ps t) ≡ content_weight (content_of ps [])
same_weight [] t = refl
same_weight (p ∷ ps) t = ap (λ (n : ℕ). weight p.1 + n) (same_weight ps t)

content_lighter : (e : trees.Element) → content_weight (content_in e) + 2 ≡ weight e
content_lighter (Tagged left name attributes content) = refl

pub children_lighter : (e : trees.Element) (ps : List (String Global × Element)) (t : List ℕ) → content_in e ≡ content_of (children_of ps) t → 2 * children_weight ps + 1 < 2 * weight e
children_lighter e ps t is =
    let c : content_weight (content_in e) ≡ children_weight ps = ap content_weight is ∙ same_weight (children_of ps) t in
    let l : content_weight (content_in e) + 2 ≡ weight e = content_lighter e in
    omega (arith, c, l)

child_light : (ps : List (String Global × Element)) (i : ℕ) (d : String Global × Element) → i < length ps → weight (element_view (get_or ps i d).1) ≤ children_weight ps
child_light [] i d less = omega (arith, less)
child_light (p ∷ ps) zero d less = omega arith
child_light (p ∷ ps) (suc i) d less = let h : weight (element_view (get_or ps i d).1) ≤ children_weight ps = child_light ps i d (omega (arith, less)) in omega (arith, h)

pub child_lighter : (ps : List (String Global × Element)) (i : ℕ) (p : String Global × Element) → i < length ps → p ≡ get_or ps i p → 2 * weight (element_view p.1) < 2 * children_weight ps + 1
child_lighter ps i p less same =
    let h : weight (element_view (get_or ps i p).1) ≤ children_weight ps = child_light ps i p less in
    let s : weight (element_view p.1) ≡ weight (element_view (get_or ps i p).1) = ap (λ (q : String Global × Element). weight (element_view q.1)) same in
    omega (arith, h, s)
