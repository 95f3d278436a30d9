-- What a bibliography with `second-field-align` prints around the first field, which is the first node of its layout, or of a group that is
-- that: the prefix of the layout and of such groups stands before the prefix of that node, and the suffix of the layout's first node ends
-- in one space.
use Rattle.std.specs.Prelude.{ℕ, Bool, true, false, List, [], ◌∷◌, ◌++◌, if◌then◌else◌, Option, Some, None, unwrap_or}
use Rattle.std.specs.Str.{drop_trailing_whitespace}
use Rattle.laws.specs.Characters.{space}
use Rattle.rendering_taxonomy.specs.declared.style.SecondFieldAlign.{SecondFieldAlign}
use Rattle.rendering_style.specs.Nodes.{Look, TextLook, Leaf, text, number, label, date, Node, leaf, call, opened, names, choose, group, Nodes, no_nodes, node}
use Rattle.rendering_style.specs.Styles.{Layout}

-- a suffix that ends in one space, whatever white space ends it
abbrev pub spaced : List ℕ → List ℕ
spaced suffix = drop_trailing_whitespace suffix ++ space ∷ []

-- a look with that suffix
abbrev pub spaced_look : Look → Look
spaced_look l = record l { suffix = spaced l.suffix }

-- the look of a text
abbrev pub spaced_text : TextLook → TextLook
spaced_text l = record l { look = spaced_look l.look }

-- a node without nodes in it
abbrev pub spaced_leaf : Leaf → Leaf
spaced_leaf (text source l) = text source (spaced_text l)
spaced_leaf (number n) = number (record n { look = spaced_look n.look })
spaced_leaf (label v l) = label v (record l { look = spaced_look l.look })
spaced_leaf (date d) = date (record d { look = spaced_look d.look })

-- a node: those that have affixes in a file of CSL
abbrev pub spaced_node : Node → Node
spaced_node (leaf l) = leaf (spaced_leaf l)
spaced_node (call name l) = call name (spaced_text l)
spaced_node (opened l xs) = opened l xs
spaced_node (names n xs) = names (record n { look = spaced_look n.look }) xs
spaced_node (choose bs) = choose bs
spaced_node (group g xs) = group (record g { look = spaced_look g.look }) xs

-- the first of some nodes
abbrev pub first_spaced : List Node → List Node
first_spaced [] = []
first_spaced (x ∷ xs) = spaced_node x ∷ xs

-- whether a node has affixes in a file of CSL
abbrev pub has_affixes : Node → Bool
has_affixes (leaf l) = true
has_affixes (call name l) = true
has_affixes (opened l xs) = false
has_affixes (names n xs) = true
has_affixes (choose bs) = false
has_affixes (group g xs) = true

-- whether the first of some nodes has
abbrev pub takes_prefix : List Node → Bool
takes_prefix [] = false
takes_prefix (x ∷ xs) = has_affixes x

-- whether the first node in a group has
abbrev pub hands_on : Nodes → Bool
hands_on no_nodes = false
hands_on (node x xs) = has_affixes x

-- a look with more before its prefix
abbrev pub prefixed_look : List ℕ → Look → Look
prefixed_look p l = record l { prefix = p ++ l.prefix }

-- the look of a text
abbrev pub prefixed_text : List ℕ → TextLook → TextLook
prefixed_text p l = record l { look = prefixed_look p l.look }

-- a node without nodes in it
abbrev pub prefixed_leaf : List ℕ → Leaf → Leaf
prefixed_leaf p (text source l) = text source (prefixed_text p l)
prefixed_leaf p (number n) = number (record n { look = prefixed_look p n.look })
prefixed_leaf p (label v l) = label v (record l { look = prefixed_look p l.look })
prefixed_leaf p (date d) = date (record d { look = prefixed_look p d.look })

-- a group's look, without the prefix where its first node takes that
abbrev pub outside : Bool → List ℕ → Look → Look
outside true p l = record l { prefix = [] }
outside false p l = prefixed_look p l

abbrev mutual
  -- a node with more before its prefix; a group hands all of that on to its first node, where this has affixes
  pub prefixed_node : List ℕ → Node → Node
  prefixed_node p (leaf l) = leaf (prefixed_leaf p l)
  prefixed_node p (call name l) = call name (prefixed_text p l)
  prefixed_node p (opened l xs) = opened l xs
  prefixed_node p (names n xs) = names (record n { look = prefixed_look p n.look }) xs
  prefixed_node p (choose bs) = choose bs
  prefixed_node p (group g xs) = group (record g { look = outside (hands_on xs) p g.look }) (prefixed_nodes (p ++ g.look.prefix) xs)

  -- nodes of which the first has more before its prefix
  pub prefixed_nodes : List ℕ → Nodes → Nodes
  prefixed_nodes p no_nodes = no_nodes
  prefixed_nodes p (node x xs) = node (prefixed_node p x) xs

-- the first of some nodes with more before its prefix
abbrev pub first_prefixed : List ℕ → List Node → List Node
first_prefixed p [] = []
first_prefixed p (x ∷ xs) = prefixed_node p x ∷ xs

-- a layout whose first field has the prefixes before it, and a space after it
abbrev pub with_first_apart : Layout → Layout
with_first_apart l = record l {
  nodes = first_prefixed (unwrap_or l.prefix []) (first_spaced l.nodes);
  prefix = if takes_prefix l.nodes then None else l.prefix;
}

-- a layout whose second field is aligned or not
abbrev pub aligned : Option SecondFieldAlign → Layout → Layout
aligned None l = l
aligned (Some align) l = with_first_apart l
