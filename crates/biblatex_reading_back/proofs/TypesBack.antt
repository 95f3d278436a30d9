-- Types of entries that are written are read back.
use Rattle.std.proofs.Common.{◌≡◌, ℕ, Bool, true, false, true≢false, not, ◌&&◌, ◌||◌, List, [], ◌∷◌, bytes_eq, codes, refl, sym, ap, ◌∙◌}
use Rattle.std.specs.Prelude.{if◌then◌else◌}
use Rattle.std.specs.Char.{is_ascii}
use Rattle.std.specs.List.{list_any, list_all}
use Rattle.std.specs.Str.{chars, IsUtf8}
use Rattle.std.proofs.lemmas.Slice.Eq.{bytes_eq-Decides}
use Rattle.laws.specs.Text.{text}
use Rattle.laws.proofs.Text.{text_of_chars}
use Rattle.biblatex_content.proofs.Tests.{first_of_two, second_of_two, not_true}
use Rattle.biblatex_entries.specs.TypeNames.{TypeName, is_one_of, known, type_of, written_type}
use Rattle.biblatex_grammar.specs.Characters.{IsWord}
use Rattle.biblatex_grammar.specs.Items.{IsOther}
use Rattle.biblatex_writing.specs.Settled.{is_lowered_identifier, no_entries, is_same_flag, is_same_type, is_settled_type}
use Rattle.biblatex_writing.proofs.Calls.{own_bytes}
use Rattle.biblatex_reading_back.proofs.NamesBack.{IsRead, settled_read, ascii_read, own_lower}

-- A type that its own name, as the kind of an entry, is read as.
pub record IsReadType (t : TypeName) : Type 0 where
  pub name : IsRead t.name
  pub entry : list_any (bytes_eq t.name) no_entries ≡ false
  pub itself : type_of t.name ≡ t

same_flag : (a b : Bool) → is_same_flag a b ≡ true → a ≡ b
same_flag true true e = refl
same_flag true false e = absurd (true≢false (sym e))
same_flag false true e = absurd (true≢false (sym e))
same_flag false false e = refl

same_type : (t u : TypeName) → is_same_type t u ≡ true → t ≡ u
same_type t u e =
    let name = (bytes_eq-Decides t.name u.name).0 (first_of_two (bytes_eq t.name u.name) (is_same_flag t.is_known u.is_known) e) in
    let flag = same_flag t.is_known u.is_known (second_of_two (bytes_eq t.name u.name) (is_same_flag t.is_known u.is_known) e) in
    λ i. record { name = name i; is_known = flag i }

settled_type : (t : TypeName) → IsUtf8 t.name → is_settled_type t ≡ true → IsReadType t
settled_type t utf8 is =
    let front = first_of_two (is_lowered_identifier (chars t.name) && not (list_any (bytes_eq t.name) no_entries)) (is_same_type (type_of t.name) t) is in
    record {
      name = settled_read t.name utf8 (first_of_two (is_lowered_identifier (chars t.name)) (not (list_any (bytes_eq t.name) no_entries)) front);
      entry = not_true (list_any (bytes_eq t.name) no_entries) (second_of_two (is_lowered_identifier (chars t.name)) (not (list_any (bytes_eq t.name) no_entries)) front);
      itself = same_type (type_of t.name) t (second_of_two (is_lowered_identifier (chars t.name) && not (list_any (bytes_eq t.name) no_entries)) (is_same_type (type_of t.name) t) is);
    }

thesis : IsReadType (known (codes "thesis"))
thesis = record { name = ascii_read (codes "thesis") refl refl; entry = refl; itself = refl }

report : IsReadType (known (codes "report"))
report = record { name = ascii_read (codes "report") refl refl; entry = refl; itself = refl }

pub written_type_read : (t : TypeName) → IsUtf8 (written_type t).name → is_settled_type t ≡ true → IsReadType (written_type t)
written_type_read t utf8 is = by_tests (is_one_of (codes "mastersthesis" ∷ codes "phdthesis" ∷ []) t) (is_one_of (codes "techreport" ∷ []) t) utf8
  where
    by_tests : (a b : Bool) → IsUtf8 (if a then known (codes "thesis") else (if b then known (codes "report") else t)).name → IsReadType (if a then known (codes "thesis") else (if b then known (codes "report") else t))
    by_tests true b utf8 = thesis
    by_tests false true utf8 = report
    by_tests false false utf8 = settled_type t utf8 is

-- a name that is read as it is written is a word where its characters are
no_word : (word name : List ℕ) → IsRead name → list_all is_ascii word ≡ true → bytes_eq name word ≡ false → IsWord word (chars name) → ⊥
no_word word name read small other is =
    let same : name ≡ word = sym (text_of_chars name read.utf8) ∙ (ap text (sym (own_lower (chars name) read.capitals) ∙ is) ∙ own_bytes word small) in
    true≢false (sym ((bytes_eq-Decides name word).1 same) ∙ other)

first_no : (a b : Bool) → a || b ≡ false → a ≡ false
first_no true b e = e
first_no false b e = refl

second_no : (a b : Bool) → a || b ≡ false → b ≡ false
second_no true b e = absurd (true≢false e)
second_no false b e = e

-- the kind of an entry is none of the three that have a meaning of their own
pub other_kind : (name : List ℕ) → IsRead name → list_any (bytes_eq name) no_entries ≡ false → IsOther (chars name)
other_kind name read none =
    let later = second_no (bytes_eq name (codes "comment")) (bytes_eq name (codes "preamble") || (bytes_eq name (codes "string") || false)) none in
    let last = second_no (bytes_eq name (codes "preamble")) (bytes_eq name (codes "string") || false) later in (
      no_word (codes "comment") name read refl (first_no (bytes_eq name (codes "comment")) (bytes_eq name (codes "preamble") || (bytes_eq name (codes "string") || false)) none),
      no_word (codes "preamble") name read refl (first_no (bytes_eq name (codes "preamble")) (bytes_eq name (codes "string") || false) later),
      no_word (codes "string") name read refl (first_no (bytes_eq name (codes "string")) false last),
    )
