-- Which texts are changed, since only these are copied.
use Rattle.std.specs.Prelude.{ℕ, Bool, false, not, ◌&&◌, List, [], ◌∷◌, slice_get, slice_set, Option, Some, None, if◌then◌else◌}
use Rattle.std.specs.List.{flat_map, list_any}
use Rattle.biblatex_text.specs.declared.spanned.Spanned.{Spanned}
use Rattle.biblatex_content.specs.declared.chunk.Chunk.{Chunk}
use Rattle.biblatex_content.specs.Styled.{Member, Letter, Math}
use Rattle.biblatex_content.specs.Verbatim.{is_verbatim_name}
use Rattle.biblatex_content.specs.Views.{members}
use Rattle.biblatex_fields.specs.Fields.{Named, with_field}
use Rattle.biblatex_entries.specs.Entries.{Source}
use Rattle.biblatex_typography.specs.Typography.{is_mark, is_pair, typographic_entry, typographic_field}

abbrev pub is_unmarked : ℕ → Bool
is_unmarked c = not (is_mark c)

-- what follows the second mark of a pair, where a character before a text is the first one of a pair
abbrev pub past_pair : ℕ → List ℕ → Option (List ℕ)
past_pair c [] = None
past_pair c (d ∷ cs) = if is_pair c d then Some cs else None

-- whether a member is a mark
abbrev pub is_marked : Member → Bool
is_marked (Letter kind c) = is_mark c
is_marked (Math cs) = false

-- whether a chunk has a mark
abbrev pub chunk_is_marked : Spanned Chunk → Bool
chunk_is_marked c = list_any is_marked (members c.v)

-- whether a field is changed: it is not read verbatim, and has a mark
abbrev pub is_changed : Named → Bool
is_changed f = not (is_verbatim_name f.0) && list_any is_marked f.1.text

-- a field as it is printed, where that is another one
abbrev pub changed_field : Named → List Named
changed_field f = if is_changed f then typographic_field f ∷ [] else []

abbrev pub changed_fields : List Named → List Named
changed_fields fs = flat_map changed_field fs

-- fields with each of these set
abbrev pub with_fields : List Named → List Named → List Named
with_fields fs [] = fs
with_fields fs (f ∷ more) = with_fields (with_field fs f.0 f.1) more

-- entries, of which the one at an index is changed, if there is one
abbrev pub changed_there : ℕ → List Source → Option Source → List Source
changed_there i es None = es
changed_there i es (Some e) = slice_set es i (typographic_entry e)

abbrev pub changed_at : ℕ → List Source → List Source
changed_at i es = changed_there i es (slice_get es i)
