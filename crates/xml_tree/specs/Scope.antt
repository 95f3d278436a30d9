-- Namespaces in XML 1.0: what prefixes are bound to. Characters are numbers.
use Rattle.std.specs.Prelude.{ℕ, Bool, false, not, ◌&&◌, ◌||◌, List, if◌then◌else◌, is_none, Option, Some, None, Result, Ok, Err, codes}
use Rattle.std.specs.Option.{option_eq, option_or}
use Rattle.std.specs.Str.{bytes_eq}
use Rattle.laws.specs.Text.{text, is_filled}
use Rattle.xml_text.specs.Tokens.{Name}
use Rattle.xml_text.specs.declared.fault.Fault.TheVariants as faults
use Rattle.xml_tree.specs.Trees.{FullName}
use Rattle.xml_tree.specs.Values.{Refusal}

-- What each prefix is bound to, if it is bound, and none, for the default namespace: to a namespace, or to none where a declaration takes the
-- default namespace back.
abbrev pub Scope : Type 0
Scope = Option (List ℕ) → Option (Option (List ℕ))

-- nothing is bound
abbrev pub unbound : Scope
unbound = λ q. None

abbrev pub same_text : List ℕ → List ℕ → Bool
same_text a b = bytes_eq (text a) (text b)

-- two texts that may be absent are one, or both are absent
abbrev pub same_prefix : Option (List ℕ) → Option (List ℕ) → Bool
same_prefix p q = option_eq same_text p q

abbrev pub same_name : Name → Name → Bool
same_name n m = same_prefix n.prefix m.prefix && same_text n.local m.local

abbrev pub same_full_name : FullName → FullName → Bool
same_full_name n m = same_prefix n.space m.space && same_text n.local m.local

-- one more binding of a prefix
abbrev pub bound_prefix : List ℕ → Option (List ℕ) → (List ℕ → Option (Option (List ℕ))) → List ℕ → Option (Option (List ℕ))
bound_prefix prefix space others q = if same_text prefix q then Some space else others q

-- one more binding
abbrev pub bound : Option (List ℕ) → Option (List ℕ) → Scope → Scope
bound prefix space scope = λ q. if same_prefix prefix q then Some space else scope q

-- the bindings of an element, and those around it
abbrev pub over : Scope → Scope → Scope
over own outer = λ q. option_or (own q) (outer q)

-- the two namespaces that are known beforehand
abbrev pub xml_space : List ℕ
xml_space = codes "http://www.w3.org/XML/1998/namespace"

abbrev pub xmlns_space : List ℕ
xmlns_space = codes "http://www.w3.org/2000/xmlns/"

-- a text is there, and is this word
abbrev pub is_word : List ℕ → Option (List ℕ) → Bool
is_word word None = false
is_word word (Some p) = bytes_eq (text p) word

-- the prefix that an attribute declares, if it declares one: its local name after xmlns, or none where it is xmlns itself
abbrev pub declared_prefix : Name → Option (Option (List ℕ))
declared_prefix n = if is_word (codes "xmlns") n.prefix then Some (Some n.local)
    else (if is_none n.prefix && is_word (codes "xmlns") (Some n.local) then Some None else None)

-- xml may be bound to its own namespace alone, and nothing else to that
abbrev pub keeps_xml : Option (List ℕ) → List ℕ → Bool
keeps_xml prefix space = if is_word (codes "xml") prefix then is_word xml_space (Some space) else not (is_word xml_space (Some space))

-- the prefix or the namespace of declarations
abbrev pub is_of_xmlns : Option (List ℕ) → List ℕ → Bool
is_of_xmlns prefix space = is_word (codes "xmlns") prefix || is_word xmlns_space (Some space)

-- a prefix must be bound to something
abbrev pub binds_something : Option (List ℕ) → List ℕ → Bool
binds_something prefix space = is_none prefix || is_filled space

-- whether a declaration may bind the prefix, or none, to the namespace
abbrev pub is_allowed : Option (List ℕ) → List ℕ → Bool
is_allowed prefix space = not (is_of_xmlns prefix space) && (keeps_xml prefix space && binds_something prefix space)

-- a prefix must be bound
abbrev pub or_unbound : ℕ → Option (Option (List ℕ)) → Result (Option (List ℕ)) Refusal
or_unbound left (Some space) = Ok space
or_unbound left None = Err (faults.Unbound, left)

-- what a prefix that stands there is bound to
abbrev pub space_of : Scope → ℕ → List ℕ → Result (Option (List ℕ)) Refusal
space_of scope left p = if is_word (codes "xml") (Some p) then Ok (Some xml_space) else or_unbound left (scope (Some p))

-- what has no prefix is in the default namespace, if there is one
abbrev pub default_of : Option (Option (List ℕ)) → Option (List ℕ)
default_of (Some space) = space
default_of None = None

abbrev pub element_space : Scope → ℕ → Option (List ℕ) → Result (Option (List ℕ)) Refusal
element_space scope left None = Ok (default_of (scope None))
element_space scope left (Some p) = space_of scope left p

-- but an attribute in none
abbrev pub attribute_space : Scope → ℕ → Option (List ℕ) → Result (Option (List ℕ)) Refusal
attribute_space scope left None = Ok None
attribute_space scope left (Some p) = space_of scope left p
