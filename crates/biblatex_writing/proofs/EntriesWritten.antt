-- Entries, piece after piece.
use Rattle.std.proofs.Common.{◌≡◌, ℕ, Bool, true, false, cond, List, [], ◌∷◌, ◌++◌, Option, Some, None, codes, refl, sym, ap, ◌∙◌}
use Rattle.std.specs.Prelude.{option_map, option_to_list}
use Rattle.std.specs.Fmt.{WritesInCalls}
use Rattle.std.specs.List.{flat_map}
use Rattle.std.proofs.lemmas.Grind.{flat_map-append}
use Rattle.std.proofs.lemmas.List.{append-nil}
use Rattle.laws.specs.Characters.{line_feed}
use Rattle.laws.specs.Text.{text}
use Rattle.biblatex_content.specs.Styled.{Member}
use Rattle.biblatex_content.specs.Verbatim.{is_verbatim_name}
use Rattle.biblatex_content.specs.Writing.{written_content}
use Rattle.biblatex_fields.specs.Fields.{Named, value_named}
use Rattle.biblatex_fields.specs.Value.{Value}
use Rattle.biblatex_entries.specs.Entries.{Source}
use Rattle.biblatex_entries.specs.TypeNames.{written_type}
use Rattle.biblatex_writing.specs.FieldNames.{is_never_written, written_name}
use Rattle.biblatex_writing.specs.Written.{in_written_order, written_field, written_entry, written_file}
use Rattle.biblatex_writing.specs.Order.{Row, comes_before, rows_before, rows_after, field_there, moved, merged}
use Rattle.biblatex_writing.proofs.Calls.{nothing, one, more, same}

-- an entry after others
abbrev pub after_line : Source → List ℕ
after_line e = line_feed ∷ written_entry e

-- entries, of which there is a first
pub file_is : (e : Source) (es : List Source) → written_file (e ∷ es) ≡ written_entry e ++ flat_map after_line es
file_is e [] = sym (append-nil (written_entry e))
file_is e (f ∷ es) = ap (λ (x : List ℕ). written_entry e ++ line_feed ∷ x) (file_is f es)

merged_moved : (rows : List Row) (f : Named) (fs all : List Named) → is_never_written f.0 ≡ true → merged rows (f ∷ fs) all ≡ merged rows fs all
merged_moved rows f fs all e = ap (λ (t : Bool). cond t (merged rows fs all) (moved (rows_before f.0 rows) all ++ f ∷ merged (rows_after f.0 rows) fs all)) e

merged_stayed : (rows : List Row) (f : Named) (fs all : List Named) → is_never_written f.0 ≡ false → merged rows (f ∷ fs) all ≡ moved (rows_before f.0 rows) all ++ f ∷ merged (rows_after f.0 rows) fs all
merged_stayed rows f fs all e = ap (λ (t : Bool). cond t (merged rows fs all) (moved (rows_before f.0 rows) all ++ f ∷ merged (rows_after f.0 rows) fs all)) e

-- rows of which the first does not come before a name are those after it
pub stays_after : (name : List ℕ) (row : Row) (rows : List Row) → comes_before row name ≡ false → row ∷ rows ≡ rows_after name (row ∷ rows)
stays_after name row rows e = ap (λ (t : Bool). cond t (rows_after name rows) (row ∷ rows)) (sym e)

-- and where it does, those after it among the others
pub goes_after : (name : List ℕ) (row : Row) (rows : List Row) → comes_before row name ≡ true → rows_after name rows ≡ rows_after name (row ∷ rows)
goes_after name row rows e = ap (λ (t : Bool). cond t (rows_after name rows) (row ∷ rows)) (sym e)

module _ {W : Type 0} (took : W → List ℕ → W → Type 0) where
  -- a field's line
  pub field_line : (w a b d v : W) (own name : List ℕ) (value : Value) (is_verbatim : Bool) (ms : List Member) → name ≡ written_name own → is_verbatim ≡ is_verbatim_name own → ms ≡ value.text
      → took w name a → took a (codes " = {") b → WritesInCalls took b (text (written_content is_verbatim ms)) d → took d (codes "},\n") v → WritesInCalls took w (written_field (own, value)) v
  field_line w a b d v own name value is_verbatim ms named verbatim spelled first opens content closes =
      let inside = text (written_content (is_verbatim_name own) value.text) in
      let here = same took b (text (written_content is_verbatim ms)) inside d
      (ap (λ (t : Bool). text (written_content t ms)) verbatim ∙ ap (λ (xs : List Member). text (written_content (is_verbatim_name own) xs)) spelled) content in
      let front = more took w (written_name own) a (codes " = {") b (one took w name (written_name own) a named first) (one took a (codes " = {") (codes " = {") b refl opens) in
      more took w ((written_name own ++ codes " = {") ++ inside) d (codes "},\n") v (more took w (written_name own ++ codes " = {") b inside d front here) (one took d (codes "},\n") (codes "},\n") v refl closes)

  -- an entry's lines
  pub entry_lines : (w a b c d f g v : W) (e : Source) (type_name key : List ℕ) → type_name ≡ (written_type e.entry_type).name → key ≡ e.key → took w (codes "@") a → took a type_name b → took b (codes "{") c
      → took c key d → took d (codes ",\n") f → WritesInCalls took f (flat_map written_field (in_written_order e.fields)) g → took g (codes "}\n") v → WritesInCalls took w (written_entry e) v
  entry_lines w a b c d f g v e type_name key typed keyed at type_is opens key_is ends fields closes =
      let t = (written_type e.entry_type).name in
      let fs = flat_map written_field (in_written_order e.fields) in
      more took w (((((codes "@" ++ t) ++ codes "{") ++ e.key) ++ codes ",\n") ++ fs) g (codes "}\n") v
      (more took w ((((codes "@" ++ t) ++ codes "{") ++ e.key) ++ codes ",\n") f fs g
      (more took w (((codes "@" ++ t) ++ codes "{") ++ e.key) d (codes ",\n") f
      (more took w ((codes "@" ++ t) ++ codes "{") c e.key d
      (more took w (codes "@" ++ t) b (codes "{") c
      (more took w (codes "@") a t b (one took w (codes "@") (codes "@") a refl at) (one took a type_name t b typed type_is))
      (one took b (codes "{") (codes "{") c refl opens)) (one took c key e.key d keyed key_is)) (one took d (codes ",\n") (codes ",\n") f refl ends)) fields)
      (one took g (codes "}\n") (codes "}\n") v refl closes)

  -- the first entry, before others
  pub entry_first : (w v u : W) (e : Source) (es : List Source) → WritesInCalls took w (written_entry e) v → WritesInCalls took v (flat_map after_line es) u → WritesInCalls took w (written_file (e ∷ es)) u
  entry_first w v u e es first others = same took w _ (written_file (e ∷ es)) u (sym (file_is e es)) (more took w (written_entry e) v (flat_map after_line es) u first others)

  -- an entry after others, before others
  pub entry_next : (w a v u : W) (e : Source) (es : List Source) → took w (line_feed ∷ []) a → WritesInCalls took a (written_entry e) v → WritesInCalls took v (flat_map after_line es) u
      → WritesInCalls took w (flat_map after_line (e ∷ es)) u
  entry_next w a v u e es line first others =
      more took w (after_line e) v (flat_map after_line es) u (more took w (line_feed ∷ []) a (written_entry e) v (one took w (line_feed ∷ []) (line_feed ∷ []) a refl line) first) others

  -- the field of a name, where there is one
  pub there : (w v : W) (name : List ℕ) (fs : List Named) (x : Value) → Some x ≡ value_named name fs → WritesInCalls took w (written_field (name, x)) v
      → WritesInCalls took w (flat_map written_field (field_there name fs)) v
  there w v name fs x is t =
      same took w (written_field (name, x)) (flat_map written_field (field_there name fs)) v
      (sym (append-nil (written_field (name, x))) ∙ ap (λ (o : Option Value). flat_map written_field (option_to_list (option_map (λ y. (name, y)) o))) is) t

  pub not_there : (w : W) (name : List ℕ) (fs : List Named) → None ≡ value_named name fs → WritesInCalls took w (flat_map written_field (field_there name fs)) w
  not_there w name fs is = nothing took w _ (ap (λ (o : Option Value). flat_map written_field (option_to_list (option_map (λ y. (name, y)) o))) (sym is))

  -- the moved field of a row, before those of others
  pub row_first : (w v u : W) (row : Row) (rows : List Row) (fs : List Named) → WritesInCalls took w (flat_map written_field (field_there row.1 fs)) v
      → WritesInCalls took v (flat_map written_field (moved rows fs)) u → WritesInCalls took w (flat_map written_field (moved (row ∷ rows) fs)) u
  row_first w v u row rows fs first others =
      same took w _ _ u (sym (flat_map-append written_field (field_there row.1 fs) (moved rows fs))) (more took w _ v _ u first others)

  -- rows that come before a name
  pub row_before : (w v u : W) (row : Row) (rows : List Row) (name : List ℕ) (fs : List Named) → comes_before row name ≡ true → WritesInCalls took w (flat_map written_field (field_there row.1 fs)) v
      → WritesInCalls took v (flat_map written_field (moved (rows_before name rows) fs)) u → WritesInCalls took w (flat_map written_field (moved (rows_before name (row ∷ rows)) fs)) u
  row_before w v u row rows name fs e first others =
      same took w _ _ u (ap (λ (t : Bool). flat_map written_field (moved (cond t (row ∷ rows_before name rows) []) fs)) (sym e)) (row_first w v u row (rows_before name rows) fs first others)

  -- no row comes before a name
  pub none_before : (w : W) (row : Row) (rows : List Row) (name : List ℕ) (fs : List Named) → comes_before row name ≡ false → WritesInCalls took w (flat_map written_field (moved (rows_before name (row ∷ rows)) fs)) w
  none_before w row rows name fs e = nothing took w _ (ap (λ (t : Bool). flat_map written_field (moved (cond t (row ∷ rows_before name rows) []) fs)) e)

  -- a field that is moved is passed over
  pub passes_moved : (w u : W) (rows : List Row) (f : Named) (fs all : List Named) → is_never_written f.0 ≡ true → WritesInCalls took w (flat_map written_field (merged rows fs all)) u
      → WritesInCalls took w (flat_map written_field (merged rows (f ∷ fs) all)) u
  passes_moved w u rows f fs all e t = same took w _ _ u (ap (flat_map written_field) (sym (merged_moved rows f fs all e))) t

  -- a field that stays, after the moved ones before it
  pub field_first : (w a v u : W) (rows : List Row) (f : Named) (fs all : List Named) → is_never_written f.0 ≡ false → WritesInCalls took w (flat_map written_field (moved (rows_before f.0 rows) all)) a
      → WritesInCalls took a (written_field f) v → WritesInCalls took v (flat_map written_field (merged (rows_after f.0 rows) fs all)) u → WritesInCalls took w (flat_map written_field (merged rows (f ∷ fs) all)) u
  field_first w a v u rows f fs all e before here later =
      same took w (flat_map written_field (moved (rows_before f.0 rows) all) ++ (written_field f ++ flat_map written_field (merged (rows_after f.0 rows) fs all))) _ u
      (sym (flat_map-append written_field (moved (rows_before f.0 rows) all) (f ∷ merged (rows_after f.0 rows) fs all)) ∙ ap (flat_map written_field) (sym (merged_stayed rows f fs all e)))
      (more took w _ a _ u before (more took a _ v _ u here later))
