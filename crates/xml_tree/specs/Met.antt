-- Sets of names. A name is told from another by the bytes that its parts are written as.
use Rattle.std.specs.Prelude.{◌≡◌, ℕ, Bool, not, ◌||◌, List, Option, Result, Ok, Err}
use Rattle.std.specs.Borrow.{Bor}
use Rattle.std.specs.Option.{option_map, option_cmp}
use Rattle.std.specs.declared.cmp.Ordering.{Ordering}
use Rattle.std.specs.Ordering.{ordering_then, nat_cmp}
use Rattle.std.specs.Cmp.Lexicographic.{slice_cmp}
use Rattle.std.specs.BTreeSet.{BTreeSet, contains}
use Rattle.laws.specs.Text.{text}
use Rattle.xml_text.specs.Tokens.{At, Name}
use Rattle.xml_tree.specs.Trees.{FullName}
use Rattle.xml_tree.specs.Scope.{same_name}
use Rattle.xml_tree.specs.Names.{Valued, is_written}

-- a name of these parts
abbrev pub name_of : Option (List ℕ) → List ℕ → Name
name_of prefix local = record { prefix = prefix; local = local }

-- an expanded name, its namespace in the place of a prefix
abbrev pub named_by : FullName → Name
named_by n = name_of n.space n.local

-- a name as the key of a set
abbrev pub Key : Type 0
Key = Option (Bor (List ℕ)) × Bor (List ℕ)

abbrev pub text_cmp : Bor (List ℕ) → Bor (List ℕ) → Ordering
text_cmp a b = slice_cmp nat_cmp a.now b.now

abbrev pub key_cmp : Key → Key → Ordering
key_cmp a b = ordering_then (option_cmp text_cmp a.0 b.0) (text_cmp a.1 b.1)

abbrev pub key_text : List ℕ → Bor (List ℕ)
key_text cs = record { ref_ptr = (0, 0); now = text cs }

abbrev pub key_of : Name → Key
key_of n = (option_map key_text n.prefix, key_text n.local)

-- a set has the name
abbrev pub has_name : BTreeSet Key → Name → Bool
has_name s n = contains key_cmp s (key_of n)

-- after adding a name: whether it was new, and which names there are
abbrev pub Adds : {E : Type 0} → BTreeSet Key → BTreeSet Key → Name → Result Bool E → Type 0
Adds old new name (Ok b) = (b ≡ not (has_name old name)) × ((n : Name) → has_name new n ≡ (same_name name n || has_name old n))
Adds old new name (Err e) = Unit {0}

-- a set has the names of these attributes, as they are written
abbrev pub AreMet : BTreeSet Key → List (At Valued) → Type 0
AreMet s earlier = (n : Name) → has_name s n ≡ is_written earlier n
