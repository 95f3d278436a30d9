-- Prefixes of layouts and groups before the first field.
use Rattle.std.proofs.Common.{◌≡◌, ℕ, true, false, true≢false, List, [], ◌∷◌, ◌++◌, map, Vec, refl, sym, ap, ◌∙◌, rules}
use Rattle.std.specs.Global.{Global}
use Rattle.std.specs.Option.{option_map}
use Rattle.laws.specs.Text.{characters}
use Rattle.rendering_style.specs.Nodes as nodes
use Rattle.rendering_style.specs.Nodes.{nodes_of}
use Rattle.rendering_style.specs.Views.{group_node_view, look_view, node_view, nodes_view}
use Rattle.rendering_style.specs.declared.node.Group.{Group}
use Rattle.rendering_style.specs.declared.node.Look.{Look}
use Rattle.rendering_style.specs.declared.node.Node.{Node, the_lemmas}
use Rattle.rendering_style.specs.declared.node.Node.TheVariants as variants
use Rattle.csl_styles.specs.SecondFields.{first_prefixed, hands_on, has_affixes, outside, prefixed_node, prefixed_nodes, takes_prefix}

-- a node without affixes stays as it is
node_stays : (p : List ℕ) (x : nodes.Node) → has_affixes x ≡ false → prefixed_node p x ≡ x
node_stays p (nodes.leaf l) none = absurd (true≢false none)
node_stays p (nodes.call name l) none = absurd (true≢false none)
node_stays p (nodes.opened l xs) none = refl
node_stays p (nodes.names n xs) none = absurd (true≢false none)
node_stays p (nodes.choose bs) none = refl
node_stays p (nodes.group g xs) none = absurd (true≢false none)

-- so do nodes of which the first has none
pub none_taken : (p : List ℕ) (xs : List nodes.Node) → takes_prefix xs ≡ false → first_prefixed p xs ≡ xs
none_taken p [] none = refl
none_taken p (x ∷ xs) none = ap (λ y. y ∷ xs) (node_stays p x none)

-- nodes as they stand in a group
first_asked : (xs : List nodes.Node) → takes_prefix xs ≡ hands_on (nodes_of xs)
first_asked [] = refl
first_asked (x ∷ xs) = refl

each_prefixed : (p : List ℕ) (xs : List nodes.Node) → nodes_of (first_prefixed p xs) ≡ prefixed_nodes p (nodes_of xs)
each_prefixed p [] = refl
each_prefixed p (x ∷ xs) = refl

viewed-group : (g : Group) (xs : Vec Node Global) → node_view (variants.Group g xs) ≡ nodes.group (group_node_view g) (nodes_view xs.items)
viewed-group g xs = search (rules, the_lemmas)

-- a group that was changed where it lies, however it was put together
pub group_prefixed : (p : List ℕ) (x : Node) (g k : Group) (s v new : Vec Node Global) (look : Look) {z : nodes.Node} → x ≡ variants.Group g s → k ≡ g → v ≡ s → z ≡ node_view (variants.Group (record k { look = look }) new)
    → look_view look ≡ outside (takes_prefix (map node_view v.items)) p (look_view k.look)
    → map node_view new.items ≡ first_prefixed (p ++ characters k.look.prefix) (map node_view v.items)
    → z ≡ prefixed_node p (node_view x)
group_prefixed p x g k s v new look is same from made looks inside =
    let taken : takes_prefix (map node_view v.items) ≡ hands_on (nodes_view s.items) = ap (λ (w : Vec Node Global). takes_prefix (map node_view w.items)) from ∙ first_asked (map node_view s.items) in
    let outer : look_view look ≡ outside (hands_on (nodes_view s.items)) p (look_view g.look) = looks ∙ (λ i. outside (taken i) p (look_view (same i).look)) in
    let inner : nodes_view new.items ≡ prefixed_nodes (p ++ characters g.look.prefix) (nodes_view s.items) =
    ap nodes_of (inside ∙ (λ i. first_prefixed (p ++ characters (same i).look.prefix) (map node_view (from i).items))) ∙ each_prefixed (p ++ characters g.look.prefix) (map node_view s.items) in
    made
    ∙ viewed-group (record k { look = look }) new
    ∙ (λ i. nodes.group (record { delimiter = option_map characters (same i).delimiter; look = outer i }) (inner i))
    ∙ sym (ap (prefixed_node p) (ap node_view is ∙ viewed-group g s))
