-- A selector, node by node.
use Rattle.std.proofs.Common.{◌≡◌, Vec, rules}
use Rattle.std.specs.Global.{Global}
use Rattle.std.specs.Prelude.{String, Box, map}
use Rattle.literature.specs.Trees.{trees_of}
use Rattle.literature.specs.Trees as trees
use Rattle.literature.specs.Views.{tree_view}
use Rattle.laws.specs.Text.{characters}
use Rattle.literature_values.specs.declared.entry_type.EntryType.{EntryType}
use Rattle.literature.specs.declared.node.Node.{Node, Any, Entry, Not, Binding, Attributes, Alternatives, Multi, Ancestry, the_lemmas}

pub view_any : tree_view Any ≡ trees.Any
view_any = search (rules, the_lemmas)

pub view_entry : (t : EntryType) → tree_view (Entry t) ≡ trees.Entry t
view_entry t = search (rules, the_lemmas)

pub view_not : (x : Box Node Global) → tree_view (Not x) ≡ trees.Not (tree_view x.value)
view_not x = search (rules, the_lemmas)

pub view_binding : (n : String Global) (x : Box Node Global) → tree_view (Binding n x) ≡ trees.Binding (characters n) (tree_view x.value)
view_binding n x = search (rules, the_lemmas)

pub view_attributes : (x : Box Node Global) (ns : Vec (String Global) Global) → tree_view (Attributes x ns) ≡ trees.Attributes (tree_view x.value) (map characters ns.items)
view_attributes x ns = search (rules, the_lemmas)

pub view_alternatives : (xs : Vec Node Global) → tree_view (Alternatives xs) ≡ trees.Alternatives (trees_of (map tree_view xs.items))
view_alternatives xs = search (rules, the_lemmas)

pub view_multi : (xs : Vec Node Global) → tree_view (Multi xs) ≡ trees.Multi (trees_of (map tree_view xs.items))
view_multi xs = search (rules, the_lemmas)

pub view_ancestry : (x y : Box Node Global) → tree_view (Ancestry x y) ≡ trees.Ancestry (tree_view x.value) (tree_view y.value)
view_ancestry x y = search (rules, the_lemmas)
