-- Namespaces in XML 1.0: what a tag says, by its declarations and those around it. Characters are numbers.
use Rattle.std.specs.Prelude.{ℕ, List, [], ◌∷◌, ◌++◌, if◌then◌else◌, Option, Some, None, Result, Ok, Err, Bool, false, ◌||◌}
use Rattle.std.specs.List.{list_any}
use Rattle.laws.specs.Results.{◌>>=◌}
use Rattle.laws.specs.Text.{if_filled}
use Rattle.xml_text.specs.Tokens.{At, Name, Tag}
use Rattle.xml_text.specs.Tokens as tokens
use Rattle.xml_text.specs.declared.fault.Fault.TheVariants as faults
use Rattle.xml_tree.specs.Trees.{FullName, Attribute}
use Rattle.xml_tree.specs.Folding.{folded}
use Rattle.xml_tree.specs.Values.{Refusal, value_of}
use Rattle.xml_tree.specs.Scope.{Scope, unbound, bound, over, same_name, same_full_name, declared_prefix, is_allowed, element_space, attribute_space}

-- an attribute with its value
pub record Valued : Type 0 where
  pub name : Name
  pub value : List ℕ

-- an attribute has this name, as it is written
abbrev pub is_written : List (At Valued) → Name → Bool
is_written earlier name = list_any (λ (v : At Valued). same_name v.v.name name) earlier

-- an attribute, with its value
abbrev pub valued_as : At tokens.Attribute → List ℕ → At Valued
valued_as a value = record { v = record { name = a.v.name; value = value }; left = a.left }

-- one more attribute with its value, whose name no earlier one has
abbrev pub with_value : List (At Valued) → At tokens.Attribute → Result (List (At Valued)) Refusal
with_value earlier a = if is_written earlier a.v.name then Err (faults.Repeated, a.left)
    else (value_of a.v.value >>= λ value. Ok (earlier ++ valued_as a value ∷ []))

-- the attributes of a tag with their values
abbrev pub valued : List (At tokens.Attribute) → Result (List (At Valued)) Refusal
valued attributes = folded with_value [] attributes

-- the bindings of a tag, and what the prefix, or none, is bound to by an attribute
abbrev pub with_declaration : Scope → Option (Option (List ℕ)) → At Valued → Result Scope Refusal
with_declaration own None a = Ok own
with_declaration own (Some prefix) a = if is_allowed prefix a.v.value then Ok (bound prefix (if_filled a.v.value) own)
    else Err (faults.Namespace, a.left)

-- the bindings of a tag with what one more attribute declares, if it declares something
abbrev pub declare : Scope → At Valued → Result Scope Refusal
declare own a = with_declaration own (declared_prefix a.v.name) a

-- what the attributes of a tag declare
abbrev pub declared : List (At Valued) → Result Scope Refusal
declared attributes = folded declare unbound attributes

-- an attribute, with its name in that namespace
abbrev pub named_in : Option (List ℕ) → At Valued → At Attribute
named_in space a = record { v = record { name = record { space = space; local = a.v.name.local }; value = a.v.value }; left = a.left }

-- one more attribute with its expanded name
abbrev pub with_named : Scope → List (At Attribute) → At Valued → Result (List (At Attribute)) Refusal
with_named scope earlier a = attribute_space scope a.left a.v.name.prefix >>= λ space. Ok (earlier ++ named_in space a ∷ [])

-- the same, if it declares nothing
abbrev pub with_expanded : Scope → List (At Attribute) → Option (Option (List ℕ)) → At Valued → Result (List (At Attribute)) Refusal
with_expanded scope earlier (Some prefix) a = Ok earlier
with_expanded scope earlier None a = with_named scope earlier a

abbrev pub expand : Scope → List (At Attribute) → At Valued → Result (List (At Attribute)) Refusal
expand scope earlier a = with_expanded scope earlier (declared_prefix a.v.name) a

-- the attributes of a tag that declare nothing
abbrev pub expanded : Scope → List (At Valued) → Result (List (At Attribute)) Refusal
expanded scope attributes = folded (expand scope) [] attributes

-- where the first attribute stands whose expanded name passes the test or is that of an earlier one
abbrev pub repeated : (FullName → Bool) → List (At Attribute) → Option ℕ
repeated met [] = None
repeated met (a ∷ others) = if met a.v.name then Some a.left else repeated (λ n. same_full_name a.v.name n || met n) others

-- the attributes, if none is repeated
abbrev pub unrepeated : Option ℕ → List (At Attribute) → Result (List (At Attribute)) Refusal
unrepeated None attributes = Ok attributes
unrepeated (Some left) attributes = Err (faults.Repeated, left)

-- the attributes, if no two have one expanded name
abbrev pub distinct : List (At Attribute) → Result (List (At Attribute)) Refusal
distinct attributes = unrepeated (repeated (λ n. false) attributes) attributes

-- what a tag says: what it declares, its expanded name, and its attributes
pub record Said : Type 0 where
  pub own : Scope
  pub name : FullName
  pub attributes : List (At Attribute)

-- its expanded name after its attributes
abbrev pub named : Scope → Scope → ℕ → Name → List (At Attribute) → Result Said Refusal
named outer own left name attributes = element_space (over own outer) left name.prefix >>= λ space.
    Ok (record { own = own; name = record { space = space; local = name.local }; attributes = attributes })

-- what a tag says where these bindings hold around it
unfoldable pub said : Scope → ℕ → Tag → Result Said Refusal
said outer left tag = do
  values ← valued tag.attributes
  own ← declared values
  all ← expanded (over own outer) values
  attributes ← distinct all
  named outer own left tag.name attributes
