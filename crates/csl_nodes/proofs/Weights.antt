-- An element weighs more than those in it.
use Rattle.std.proofs.Common.{◌≡◌, ℕ, zero, suc, ◌+◌, ◌<◌, ◌≤◌, Bool, true, false, cond, List, [], ◌∷◌, length, get_or, String, Global, Option, Some, None, ap, arith}
use Rattle.std.specs.Option.{option_map_or}
use Rattle.xml_tree.specs.Trees as trees
use Rattle.xml_tree.specs.Trees.{Tagged, Content, Last, Next, content_of}
use Rattle.xml_tree.specs.Views.{element_view, children_of}
use Rattle.xml_tree.specs.declared.tree.Element.{Element}
use Rattle.xml_schema.specs.Faults.{name_of}
use Rattle.xml_schema.specs.Waiting.{weight, content_weight}
use Rattle.csl_words.specs.Elements.{is_called, content_in, first_called}

-- how much there is in an element that the code has
abbrev pub heft : Element → ℕ
heft e = weight (element_view e)

pub content_lighter : (e : trees.Element) → content_weight (content_in e) < weight e
content_lighter (Tagged left name attributes content) = omega arith

-- the first element of a name
pub found_light : (name : List ℕ) (c : Content) (e : trees.Element) → Some e ≡ first_called name c → weight e ≤ content_weight c
found_light name (Last t) e is = absurd cc
found_light name (Next t x c) e is = by_test (is_called name (name_of x)) (found_light name c e) is
  where
    by_test : (b : Bool) → (Some e ≡ first_called name c → weight e ≤ content_weight c) → Some e ≡ cond b (Some x) (first_called name c) → weight e ≤ weight x + content_weight c
    by_test true rest here = let same : weight e ≡ weight x = ap (λ (o : Option trees.Element). option_map_or weight o 0) here in omega (arith, same)
    by_test false rest here = let h : weight e ≤ content_weight c = rest here in omega (arith, h)

pub found_lighter : (name : List ℕ) (e : trees.Element) (found : Element) → Some (element_view found) ≡ first_called name (content_in e) → heft found < weight e
found_lighter name e found is =
    let h : heft found ≤ content_weight (content_in e) = found_light name (content_in e) (element_view found) is in
    let l : content_weight (content_in e) < weight e = content_lighter e in
    omega (arith, h, l)

-- one of several
pub child_light : (ps : List (String Global × Element)) (t : List ℕ) (i : ℕ) (d : String Global × Element) → i < length ps → heft (get_or ps i d).1 ≤ content_weight (content_of (children_of ps) t)
child_light [] t i d less = omega (arith, less)
child_light (p ∷ ps) t zero d less = omega arith
child_light (p ∷ ps) t (suc i) d less = let h : heft (get_or ps i d).1 ≤ content_weight (content_of (children_of ps) t) = child_light ps t i d (omega (arith, less)) in omega (arith, h)

pub child_lighter : (e : trees.Element) (ps : List (String Global × Element)) (t : List ℕ) (i : ℕ) (p : String Global × Element) → content_in e ≡ content_of (children_of ps) t → i < length ps → p ≡ get_or ps i p
    → heft p.1 < weight e
child_lighter e ps t i p is less same =
    let h : heft (get_or ps i p).1 ≤ content_weight (content_of (children_of ps) t) = child_light ps t i p less in
    let s : heft p.1 ≡ heft (get_or ps i p).1 = ap (λ (q : String Global × Element). heft q.1) same in
    let c : content_weight (content_in e) ≡ content_weight (content_of (children_of ps) t) = ap content_weight is in
    let l : content_weight (content_in e) < weight e = content_lighter e in
    omega (arith, h, s, c, l)
