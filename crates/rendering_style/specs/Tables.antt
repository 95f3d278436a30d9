-- Tables of macros: the index of each by its name, and how many levels each has.
use Rattle.std.specs.Global.{Global}
use Rattle.std.specs.Prelude.{◌≡◌, ℕ, ◌<◌, ◌≤◌, List, String, Option, Some, None, nat_le, length, slice_get, slice_index}
use Rattle.std.specs.Option.{option_map_or}
use Rattle.std.specs.BTreeMap.{BTreeMap, get_by_text}
use Rattle.rendering_style.specs.Nodes.{Nodes, no_nodes, nodes_of}
use Rattle.rendering_style.specs.Styles.{Macro}
use Rattle.rendering_style.specs.Opening.{index_of, all_nodes, fits, limit}

-- a table from each name to the index of the first macro of that name
abbrev pub IsIndex : BTreeMap (String Global) ℕ → List Macro → Type 0
IsIndex table ms = (name : List ℕ) → get_by_text table name ≡ index_of ms name

-- the nodes of the macro at an index
abbrev pub nodes_at : List Macro → ℕ → Nodes
nodes_at ms index = option_map_or (λ m. nodes_of m.nodes) (slice_get ms index) no_nodes

-- a number of levels says of up to the limit of levels whether the nodes fit into so many
abbrev pub Measures : List Macro → ℕ → Nodes → Type 0
Measures ms height xs = (n : ℕ) → n ≤ limit → all_nodes (fits n ms) xs ≡ nat_le height n

-- a table of such numbers, one for each macro
abbrev pub AreHeights : List ℕ → List Macro → Type 0
AreHeights heights ms = (i : ℕ) → i < length ms → Measures ms (slice_index heights i) (nodes_at ms i)

-- the number at an index; a macro that there is not has no levels
abbrev pub height_at : List ℕ → Option ℕ → ℕ
height_at heights None = 0
height_at heights (Some index) = slice_index heights index

-- the number of the macro of a name, by both tables
abbrev pub height_of : BTreeMap (String Global) ℕ → List ℕ → List ℕ → ℕ
height_of table heights name = height_at heights (get_by_text table name)
