-- How much there is in a tree: a measure of what is asked one inside the other.
use Rattle.std.proofs.Common.{◌≡◌, ℕ, zero, suc, ◌+◌, ◌<◌, ◌≤◌, List, [], ◌∷◌, map, length, get_or, sym, ap, ◌∙◌, Vec, arith}
use Rattle.std.specs.Global.{Global}
use Rattle.literature.specs.Trees.{Tree, Trees, nothing, before, trees_of}
use Rattle.literature.specs.Trees as trees
use Rattle.literature.specs.Views.{tree_view}
use Rattle.literature.specs.declared.node.Node.{Node, Not, Binding, Attributes, Alternatives, Multi, Ancestry}
use Rattle.literature.proofs.Views as views

abbrev mutual
  pub weight : Tree → ℕ
  weight trees.Any = 1
  weight (trees.Entry t) = 1
  weight (trees.Not x) = suc (weight x)
  weight (trees.Binding n x) = suc (weight x)
  weight (trees.Attributes x names) = suc (weight x)
  weight (trees.Alternatives xs) = suc (weights xs)
  weight (trees.Multi xs) = suc (weights xs)
  weight (trees.Ancestry x y) = suc (weight x + weight y)

  pub weights : Trees → ℕ
  weights nothing = 0
  weights (before x xs) = weight x + weights xs

-- the measure of a node, and of several
abbrev pub heft : Node → ℕ
heft n = weight (tree_view n)

abbrev pub hefts : List Node → ℕ
hefts ns = weights (trees_of (map tree_view ns))

some : (x : Tree) → 0 < weight x
some trees.Any = omega arith
some (trees.Entry t) = omega arith
some (trees.Not x) = omega arith
some (trees.Binding n x) = omega arith
some (trees.Attributes x names) = omega arith
some (trees.Alternatives xs) = omega arith
some (trees.Multi xs) = omega arith
some (trees.Ancestry x y) = omega arith

pub heft_not : (n : Node) (x : _) → n ≡ Not x → heft x.value < heft n
heft_not n x is = let e : heft n ≡ suc (heft x.value) = ap heft is ∙ ap weight (views.view_not x) in omega (arith, e)

pub heft_binding : (n : Node) (name : _) (x : _) → n ≡ Binding name x → heft x.value < heft n
heft_binding n name x is = let e : heft n ≡ suc (heft x.value) = ap heft is ∙ ap weight (views.view_binding name x) in omega (arith, e)

pub heft_attributes : (n : Node) (x : _) (names : _) → n ≡ Attributes x names → heft x.value < heft n
heft_attributes n x names is = let e : heft n ≡ suc (heft x.value) = ap heft is ∙ ap weight (views.view_attributes x names) in omega (arith, e)

pub heft_alternatives : (n : Node) (xs : Vec Node Global) → n ≡ Alternatives xs → hefts xs.items < heft n
heft_alternatives n xs is = let e : heft n ≡ suc (hefts xs.items) = ap heft is ∙ ap weight (views.view_alternatives xs) in omega (arith, e)

pub heft_multi : (n : Node) (xs : Vec Node Global) → n ≡ Multi xs → hefts xs.items < heft n
heft_multi n xs is = let e : heft n ≡ suc (hefts xs.items) = ap heft is ∙ ap weight (views.view_multi xs) in omega (arith, e)

pub heft_ancestry : (n : Node) (x y : _) → n ≡ Ancestry x y → heft x.value + heft y.value < heft n
heft_ancestry n x y is = let e : heft n ≡ suc (heft x.value + heft y.value) = ap heft is ∙ ap weight (views.view_ancestry x y) in omega (arith, e)

-- one of several weighs no more than they do
pub heft_at : (ns : List Node) (i : ℕ) (d : Node) → i < length ns → heft (get_or ns i d) ≤ hefts ns
heft_at [] i d less = omega (arith, less)
heft_at (n ∷ ns) zero d less = omega arith
heft_at (n ∷ ns) (suc i) d less = let h = heft_at ns i d (omega (arith, less)) in omega (arith, h)

pub heft_first : (ns : List Node) (n : Node) (others : List Node) → ns ≡ n ∷ others → heft n + hefts others ≡ hefts ns
heft_first ns n others is = sym (ap hefts is)

-- a node weighs something
pub heft_some : (n : Node) → 0 < heft n
heft_some n = some (tree_view n)
