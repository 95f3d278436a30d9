-- The bytes of a written file are those of its characters.
use Rattle.std.proofs.Common.{◌≡◌, ℕ, Bool, true, false, ◌==◌, List, [], ◌∷◌, ◌++◌, map, codes, refl, sym, ap, ◌∙◌, append_assoc}
use Rattle.std.specs.Prelude.{if◌then◌else◌}
use Rattle.std.specs.Char.{is_ascii}
use Rattle.std.specs.List.{AllByRecursion, list_all, flat_map}
use Rattle.std.specs.Str.{chars, IsUtf8, all_scalars}
use Rattle.std.proofs.lemmas.Str.{chars-encodes, scalars-chars}
use Rattle.laws.specs.Characters.{line_feed, backslash, circumflex, tilde, no_break_space, dollar_sign, open_brace, close_brace}
use Rattle.laws.specs.Text.{text}
use Rattle.laws.proofs.Text.{text-append, text_of_chars}
use Rattle.biblatex_tex.specs.Token.{begins_command}
use Rattle.biblatex_content.specs.declared.chunk.Kind.{Kind}
use Rattle.biblatex_content.specs.declared.chunk.Kind.TheVariants.{Normal, Verbatim}
use Rattle.biblatex_content.specs.Styled.{Member, Letter, Math, plain}
use Rattle.biblatex_content.specs.Verbatim.{is_verbatim_name, is_escapable}
use Rattle.biblatex_content.specs.Writing.{escaped, closing, turning, is_grouped, written_character, written_from, written_as_is, written_verbatim, written_content}
use Rattle.biblatex_content.proofs.Tests.{first_of_two, second_of_two, both}
use Rattle.biblatex_fields.specs.Fields.{Named}
use Rattle.biblatex_entries.specs.Entries.{Source}
use Rattle.biblatex_entries.specs.TypeNames.{written_type}
use Rattle.biblatex_writing.specs.FieldNames.{written_name}
use Rattle.biblatex_writing.specs.Written.{in_written_order, written_field, written_entry, written_file}
use Rattle.biblatex_writing.proofs.Calls.{own_bytes}
use Rattle.biblatex_writing.proofs.EntriesWritten.{after_line, file_is}
use Rattle.biblatex_writing.proofs.MemoryTexts.{scalars_both}
use Rattle.biblatex_reading_back.specs.Spelled.{Plain, field_then, fields_then, entry_then, entries_after, file_of}
use Rattle.biblatex_reading_back.proofs.FieldsBack.{plain_field}

-- an entry as characters
abbrev pub plain_entry : Source → Plain
plain_entry e = record { kind = chars (written_type e.entry_type).name; key = chars e.key; fields = map plain_field (in_written_order e.fields) }

-- what is made of characters alone
pub record IsSpelled (e : Source) : Type 0 where
  pub kind : IsUtf8 (written_type e.entry_type).name
  pub key : IsUtf8 e.key
  pub names : AllByRecursion (λ f. IsUtf8 (written_name f.0)) (in_written_order e.fields)
  pub contents : AllByRecursion (λ f. all_scalars (plain f.1.text) ≡ true) (in_written_order e.fields)

-- a text of ASCII before others
literal : (word rest : List ℕ) → list_all is_ascii word ≡ true → text (word ++ rest) ≡ word ++ text rest
literal word rest small = text-append word rest ∙ ap (λ (x : List ℕ). x ++ text rest) (own_bytes word small)

-- a text that has characters before others
spelled : (name rest : List ℕ) → IsUtf8 name → text (chars name ++ rest) ≡ name ++ text rest
spelled name rest utf8 = text-append (chars name) rest ∙ ap (λ (x : List ℕ). x ++ text rest) (text_of_chars name utf8)

field_text : (f : Named) (rest : List ℕ) → IsUtf8 (written_name f.0) → text (field_then (plain_field f) rest) ≡ written_field f ++ text rest
field_text f rest utf8 =
    let name = written_name f.0 in
    let content = written_content (is_verbatim_name f.0) f.1.text in
    let opens = codes " = {" in
    let ends = codes "},\n" in
    spelled name (opens ++ (content ++ (ends ++ rest))) utf8
    ∙ (ap (λ (x : List ℕ). name ++ x) (literal opens (content ++ (ends ++ rest)) refl ∙ ap (λ (x : List ℕ). opens ++ x) (text-append content (ends ++ rest) ∙ ap (λ (x : List ℕ). text content ++ x) (literal ends rest refl)))
    ∙ (sym (append_assoc name opens (text content ++ (ends ++ text rest)))
    ∙ (sym (append_assoc (name ++ opens) (text content) (ends ++ text rest))
    ∙ sym (append_assoc ((name ++ opens) ++ text content) ends (text rest)))))

fields_text : (fs : List Named) (rest : List ℕ) → AllByRecursion (λ f. IsUtf8 (written_name f.0)) fs → text (fields_then (map plain_field fs) rest) ≡ flat_map written_field fs ++ text rest
fields_text [] rest all = refl
fields_text (f ∷ fs) rest all =
    field_text f (fields_then (map plain_field fs) rest) all.0
    ∙ (ap (λ (x : List ℕ). written_field f ++ x) (fields_text fs rest all.1) ∙ sym (append_assoc (written_field f) (flat_map written_field fs) (text rest)))

entry_text : (e : Source) (rest : List ℕ) → IsSpelled e → text (entry_then (plain_entry e) rest) ≡ written_entry e ++ text rest
entry_text e rest is =
    let kind = (written_type e.entry_type).name in
    let at = codes "@" in
    let opens = codes "{" in
    let parts = codes ",\n" in
    let ends = codes "}\n" in
    let fs = in_written_order e.fields in
    let lines = flat_map written_field fs in
    let fields = fields_then (map plain_field fs) (ends ++ rest) in
    literal at (chars kind ++ (opens ++ (chars e.key ++ (parts ++ fields)))) refl
    ∙ (ap (λ (x : List ℕ). at ++ x)
    (spelled kind (opens ++ (chars e.key ++ (parts ++ fields))) is.kind
    ∙ ap (λ (x : List ℕ). kind ++ x)
    (literal opens (chars e.key ++ (parts ++ fields)) refl
    ∙ ap (λ (x : List ℕ). opens ++ x)
    (spelled e.key (parts ++ fields) is.key
    ∙ ap (λ (x : List ℕ). e.key ++ x)
    (literal parts fields refl ∙ ap (λ (x : List ℕ). parts ++ x) (fields_text fs (ends ++ rest) is.names ∙ ap (λ (x : List ℕ). lines ++ x) (literal ends rest refl))))))
    ∙ (sym (append_assoc at kind (opens ++ (e.key ++ (parts ++ (lines ++ (ends ++ text rest))))))
    ∙ (sym (append_assoc (at ++ kind) opens (e.key ++ (parts ++ (lines ++ (ends ++ text rest)))))
    ∙ (sym (append_assoc ((at ++ kind) ++ opens) e.key (parts ++ (lines ++ (ends ++ text rest))))
    ∙ (sym (append_assoc (((at ++ kind) ++ opens) ++ e.key) parts (lines ++ (ends ++ text rest)))
    ∙ (sym (append_assoc ((((at ++ kind) ++ opens) ++ e.key) ++ parts) lines (ends ++ text rest))
    ∙ sym (append_assoc (((((at ++ kind) ++ opens) ++ e.key) ++ parts) ++ lines) ends (text rest))))))))

entries_text : (es : List Source) → AllByRecursion IsSpelled es → text (entries_after (map plain_entry es)) ≡ flat_map after_line es
entries_text [] all = refl
entries_text (e ∷ es) all =
    literal (line_feed ∷ []) (entry_then (plain_entry e) (entries_after (map plain_entry es))) refl
    ∙ ap (λ (x : List ℕ). line_feed ∷ x) (entry_text e (entries_after (map plain_entry es)) all.0 ∙ ap (λ (x : List ℕ). written_entry e ++ x) (entries_text es all.1))

file_text : (es : List Source) → AllByRecursion IsSpelled es → text (file_of (map plain_entry es)) ≡ written_file es
file_text [] all = refl
file_text (e ∷ es) all =
    entry_text e (entries_after (map plain_entry es)) all.0 ∙ (ap (λ (x : List ℕ). written_entry e ++ x) (entries_text es all.1) ∙ sym (file_is e es))

-- All of a file are characters.
scalars_left : (xs ys : List ℕ) → all_scalars (xs ++ ys) ≡ true → all_scalars xs ≡ true
scalars_left [] ys p = refl
scalars_left (x ∷ xs) ys p = both _ _ (first_of_two _ (all_scalars (xs ++ ys)) p) (scalars_left xs ys (second_of_two _ (all_scalars (xs ++ ys)) p))

scalars_right : (xs ys : List ℕ) → all_scalars (xs ++ ys) ≡ true → all_scalars ys ≡ true
scalars_right [] ys p = p
scalars_right (x ∷ xs) ys p = scalars_right xs ys (second_of_two _ (all_scalars (xs ++ ys)) p)

escaped_scalars : (b : Bool) (c : ℕ) → all_scalars (c ∷ []) ≡ true → all_scalars (escaped b c) ≡ true
escaped_scalars true c p = p
escaped_scalars false c p = p

character_scalars : (c : ℕ) → all_scalars (c ∷ []) ≡ true → all_scalars (written_character c) ≡ true
character_scalars c p = by_tests (c == backslash) (c == tilde) (c == circumflex) (c == no_break_space)
  where
    by_tests : (s t u v : Bool) → all_scalars (if s then codes "\\textbackslash{}" else (if t then codes "\\textasciitilde{}" else (if u then codes "\\textasciicircum{}" else (if v then tilde ∷ [] else escaped (is_escapable c false false) c)))) ≡ true
    by_tests true t u v = refl
    by_tests false true u v = refl
    by_tests false false true v = refl
    by_tests false false false true = refl
    by_tests false false false false = escaped_scalars (is_escapable c false false) c p

as_is_scalars : (c : ℕ) → all_scalars (c ∷ []) ≡ true → all_scalars (written_as_is c) ≡ true
as_is_scalars c p = escaped_scalars (is_escapable c true false) c p

all_as_is_scalars : (cs : List ℕ) → all_scalars cs ≡ true → all_scalars (flat_map written_as_is cs) ≡ true
all_as_is_scalars [] p = refl
all_as_is_scalars (c ∷ cs) p = scalars_both (written_as_is c) (flat_map written_as_is cs) (as_is_scalars c (scalars_left (c ∷ []) cs p)) (all_as_is_scalars cs (scalars_right (c ∷ []) cs p))

verbatim_scalars : (ms : List Member) → all_scalars (plain ms) ≡ true → all_scalars (written_verbatim ms) ≡ true
verbatim_scalars [] p = refl
verbatim_scalars (Letter kind c ∷ ms) p = scalars_both (written_as_is c) (written_verbatim ms) (as_is_scalars c (scalars_left (c ∷ []) (plain ms) p)) (verbatim_scalars ms (scalars_right (c ∷ []) (plain ms) p))
verbatim_scalars (Math cs ∷ ms) p = scalars_both (flat_map written_as_is cs) (written_verbatim ms) (all_as_is_scalars cs (scalars_left cs (plain ms) p)) (verbatim_scalars ms (scalars_right cs (plain ms) p))

closing_scalars : (b : Bool) → all_scalars (closing b) ≡ true
closing_scalars true = refl
closing_scalars false = refl

turning_scalars : (b : Bool) (kind : Kind) (c : ℕ) → all_scalars (turning b kind c) ≡ true
turning_scalars b Normal c = closing_scalars b
turning_scalars true Verbatim c = refl
turning_scalars false Verbatim c = by_guard (begins_command (written_character c))
  where
    by_guard : (g : Bool) → all_scalars (open_brace ∷ (if g then open_brace ∷ close_brace ∷ [] else [])) ≡ true
    by_guard true = refl
    by_guard false = refl

ordinary_scalars : (b : Bool) (ms : List Member) → all_scalars (plain ms) ≡ true → all_scalars (written_from b ms) ≡ true
ordinary_scalars b [] p = closing_scalars b
ordinary_scalars b (Letter kind c ∷ ms) p =
    scalars_both (turning b kind c ++ written_character c) (written_from (is_grouped kind) ms)
    (scalars_both (turning b kind c) (written_character c) (turning_scalars b kind c) (character_scalars c (scalars_left (c ∷ []) (plain ms) p)))
    (ordinary_scalars (is_grouped kind) ms (scalars_right (c ∷ []) (plain ms) p))
ordinary_scalars b (Math cs ∷ ms) p =
    scalars_both (closing b ++ dollar_sign ∷ cs) (dollar_sign ∷ written_from false ms)
    (scalars_both (closing b) (dollar_sign ∷ cs) (closing_scalars b) (scalars_left cs (plain ms) p)) (ordinary_scalars false ms (scalars_right cs (plain ms) p))

content_scalars : (is_verbatim : Bool) (ms : List Member) → all_scalars (plain ms) ≡ true → all_scalars (written_content is_verbatim ms) ≡ true
content_scalars true ms p = verbatim_scalars ms p
content_scalars false ms p = ordinary_scalars false ms p

fields_scalars : (fs : List Named) (rest : List ℕ) → AllByRecursion (λ f. IsUtf8 (written_name f.0)) fs → AllByRecursion (λ f. all_scalars (plain f.1.text) ≡ true) fs → all_scalars rest ≡ true
    → all_scalars (fields_then (map plain_field fs) rest) ≡ true
fields_scalars [] rest names contents p = p
fields_scalars (f ∷ fs) rest names contents p =
    let content = written_content (is_verbatim_name f.0) f.1.text in
    let more = codes "},\n" ++ fields_then (map plain_field fs) rest in
    scalars_both (chars (written_name f.0)) (codes " = {" ++ (content ++ more)) (scalars-chars (written_name f.0) names.0)
    (scalars_both (codes " = {") (content ++ more) refl
    (scalars_both content more (content_scalars (is_verbatim_name f.0) f.1.text contents.0)
    (scalars_both (codes "},\n") (fields_then (map plain_field fs) rest) refl (fields_scalars fs rest names.1 contents.1 p))))

entry_scalars : (e : Source) (rest : List ℕ) → IsSpelled e → all_scalars rest ≡ true → all_scalars (entry_then (plain_entry e) rest) ≡ true
entry_scalars e rest is p =
    let kind = chars (written_type e.entry_type).name in
    let fields = fields_then (map plain_field (in_written_order e.fields)) (codes "}\n" ++ rest) in
    let keyed = chars e.key ++ (codes ",\n" ++ fields) in
    scalars_both (codes "@" ++ kind) (codes "{" ++ keyed) (scalars_both (codes "@") kind refl (scalars-chars (written_type e.entry_type).name is.kind))
    (scalars_both (codes "{") keyed refl
    (scalars_both (chars e.key) (codes ",\n" ++ fields) (scalars-chars e.key is.key)
    (scalars_both (codes ",\n") fields refl (fields_scalars (in_written_order e.fields) (codes "}\n" ++ rest) is.names is.contents (scalars_both (codes "}\n") rest refl p)))))

entries_scalars : (es : List Source) → AllByRecursion IsSpelled es → all_scalars (entries_after (map plain_entry es)) ≡ true
entries_scalars [] all = refl
entries_scalars (e ∷ es) all = entry_scalars e (entries_after (map plain_entry es)) all.0 (entries_scalars es all.1)

file_scalars : (es : List Source) → AllByRecursion IsSpelled es → all_scalars (file_of (map plain_entry es)) ≡ true
file_scalars [] all = refl
file_scalars (e ∷ es) all = entry_scalars e (entries_after (map plain_entry es)) all.0 (entries_scalars es all.1)

-- so the characters of a written file are those of its entries
pub file_characters : (es : List Source) → AllByRecursion IsSpelled es → chars (written_file es) ≡ file_of (map plain_entry es)
file_characters es all = ap chars (sym (file_text es all)) ∙ chars-encodes (file_of (map plain_entry es)) (file_scalars es all)

-- and its bytes are a text
pub file_utf8 : (es : List Source) → AllByRecursion IsSpelled es → IsUtf8 (written_file es)
file_utf8 es all = (file_of (map plain_entry es), (file_scalars es all, file_text es all))
