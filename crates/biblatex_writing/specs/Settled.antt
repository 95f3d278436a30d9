-- Settled entries. A file of them reads back as it is, unless an entry has two fields that are written under one name.
use Rattle.std.specs.Prelude.{ℕ, nat_lt, Bool, true, false, not, ◌&&◌, List, [], ◌∷◌, map, codes}
use Rattle.std.specs.List.{list_all, list_any}
use Rattle.std.specs.Str.{bytes_eq, chars}
use Rattle.biblatex_text.specs.Character.{is_id_start, is_id_continue, is_key}
use Rattle.biblatex_content.specs.Verbatim.{is_verbatim_name}
use Rattle.biblatex_fields.specs.Fields.{Named}
use Rattle.biblatex_entries.specs.Entries.{Source}
use Rattle.biblatex_entries.specs.TypeNames.{TypeName, type_of}
use Rattle.biblatex_writing.specs.SettledContent.{has_single_hyphens, is_settled_content}

-- no capital of ASCII
abbrev pub is_no_capital : ℕ → Bool
is_no_capital c = not (nat_lt 64 c && nat_lt c 91)

-- characters that are an identifier
abbrev pub is_identifier : List ℕ → Bool
is_identifier [] = false
is_identifier (c ∷ cs) = is_id_start c && list_all is_id_continue cs

-- an identifier that reading, which lowers names, leaves as it is
abbrev pub is_lowered_identifier : List ℕ → Bool
is_lowered_identifier cs = is_identifier cs && list_all is_no_capital cs

-- kinds of items that are no entries
abbrev pub no_entries : List (List ℕ)
no_entries = codes "comment" ∷ codes "preamble" ∷ codes "string" ∷ []

abbrev pub is_same_flag : Bool → Bool → Bool
is_same_flag true b = b
is_same_flag false b = not b

abbrev pub is_same_type : TypeName → TypeName → Bool
is_same_type t u = bytes_eq t.name u.name && is_same_flag t.is_known u.is_known

-- a type that its own name is read as, as the kind of an entry
abbrev pub is_settled_type : TypeName → Bool
is_settled_type t = is_lowered_identifier (chars t.name) && not (list_any (bytes_eq t.name) no_entries) && is_same_type (type_of t.name) t

-- the fields that name entries
abbrev pub naming_fields : List (List ℕ)
naming_fields = codes "ids" ∷ codes "crossref" ∷ codes "xdata" ∷ []

-- a field that names no entries, whose name is an identifier without capitals, and whose content reads back
abbrev pub is_settled_field : Named → Bool
is_settled_field f = not (list_any (bytes_eq f.0) naming_fields) && is_lowered_identifier (chars f.0) && is_settled_content (is_verbatim_name f.0) f.1.text

-- an ordinary field in which two neighbouring hyphens are of one kind
abbrev pub has_touching_hyphens : Named → Bool
has_touching_hyphens f = not (is_verbatim_name f.0) && not (has_single_hyphens f.1.text)

-- a key may be empty
abbrev pub is_settled_key : List ℕ → Bool
is_settled_key cs = list_all is_key cs

abbrev pub is_settled_entry : Source → Bool
is_settled_entry e = is_settled_key (chars e.key) && is_settled_type e.entry_type && list_all is_settled_field e.fields

-- no two keys are equal
abbrev pub are_distinct : List (List ℕ) → Bool
are_distinct [] = true
are_distinct (key ∷ keys) = not (list_any (bytes_eq key) keys) && are_distinct keys

abbrev pub have_distinct_keys : List Source → Bool
have_distinct_keys es = are_distinct (map (λ e. e.key) es)

-- a bibliography is settled where its keys are distinct and each entry is settled; one without entries is
abbrev pub is_settled : List Source → Bool
is_settled es = have_distinct_keys es && list_all is_settled_entry es
