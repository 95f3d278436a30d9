-- Names of fields that are written are read back.
use Rattle.std.proofs.Common.{◌≡◌, ℕ, ◌+◌, ◌≤◌, ◌/◌, ◌%◌, Bool, true, false, true≢false, cond, List, [], ◌∷◌, ◌++◌, map, find, Some, option_map, bytes_eq, refl, sym, ap, ◌∙◌, arith}
use Rattle.std.specs.Prelude.{unwrap_or, encode_utf8}
use Rattle.std.specs.Char.{is_ascii, to_ascii_lowercase}
use Rattle.std.specs.List.{AllByRecursion, list_all}
use Rattle.std.specs.Str.{chars, IsUtf8, IsAscii}
use Rattle.std.proofs.lemmas.Bool.{ltb-true}
use Rattle.std.proofs.lemmas.Bool.Decides.{nat_tests}
use Rattle.std.proofs.lemmas.List.{map-append}
use Rattle.std.proofs.lemmas.List.Sums.{AllPass-from_list_all}
use Rattle.std.proofs.lemmas.Slice.Eq.{bytes_eq-Decides}
use Rattle.std.proofs.lemmas.Str.{chars-IsAscii, IsUtf8-from_ascii}
use Rattle.std.proofs.lemmas.Str.Ascii.{IsAscii-from_all, encode_ascii}
use Rattle.laws.specs.Text.{text, lowered}
use Rattle.laws.proofs.Text.{text_of_chars}
use Rattle.biblatex_content.specs.Verbatim.{is_verbatim_name}
use Rattle.biblatex_content.proofs.Tests.{first_of_two, second_of_two}
use Rattle.biblatex_writing.specs.FieldNames.{other_names, written_name}
use Rattle.biblatex_writing.specs.Settled.{is_no_capital, is_identifier, is_lowered_identifier}

-- bytes above those of ASCII have no lower case
above : (b : ℕ) → 128 ≤ b → to_ascii_lowercase b ≡ b
above b h = grind (arith, nat_tests, h)

lower : (c : ℕ) → is_no_capital c ≡ true → to_ascii_lowercase c ≡ c
lower c e = grind (arith, nat_tests, e)

-- characters above those of ASCII have no lower case
pub high : (c : ℕ) → is_ascii c ≡ false → map to_ascii_lowercase (encode_utf8 c) ≡ encode_utf8 c
unfolding lib.Utf8.encode
high c other = by_size (is_ascii c) _ _ other
  where
    by_size : (one two three : Bool) → one ≡ false
        → map to_ascii_lowercase (cond one (c ∷ []) (cond two ((192 + c / 64) ∷ (128 + c % 64) ∷ []) (cond three ((224 + c / 4096) ∷ (128 + (c / 64) % 64) ∷ (128 + c % 64) ∷ []) ((240 + c / 262144) ∷ (128 + (c / 4096) % 64) ∷ (128 + (c / 64) % 64) ∷ (128 + c % 64) ∷ []))))
        ≡ cond one (c ∷ []) (cond two ((192 + c / 64) ∷ (128 + c % 64) ∷ []) (cond three ((224 + c / 4096) ∷ (128 + (c / 64) % 64) ∷ (128 + c % 64) ∷ []) ((240 + c / 262144) ∷ (128 + (c / 4096) % 64) ∷ (128 + (c / 64) % 64) ∷ (128 + c % 64) ∷ [])))
    by_size true two three e = absurd (true≢false e)
    by_size false true three e = λ i. above (192 + c / 64) (omega arith) i ∷ above (128 + c % 64) (omega arith) i ∷ []
    by_size false false true e = λ i. above (224 + c / 4096) (omega arith) i ∷ above (128 + (c / 64) % 64) (omega arith) i ∷ above (128 + c % 64) (omega arith) i ∷ []
    by_size false false false e = λ i. above (240 + c / 262144) (omega arith) i ∷ above (128 + (c / 4096) % 64) (omega arith) i ∷ above (128 + (c / 64) % 64) (omega arith) i ∷ above (128 + c % 64) (omega arith) i ∷ []

-- characters without capitals are their own lower case
character_lowered : (c : ℕ) → is_no_capital c ≡ true → map to_ascii_lowercase (encode_utf8 c) ≡ encode_utf8 c
character_lowered c e = by_size (is_ascii c) refl
  where
    by_size : (b : Bool) → is_ascii c ≡ b → map to_ascii_lowercase (encode_utf8 c) ≡ encode_utf8 c
    by_size true small =
        let one = encode_ascii c (ltb-true c 128 small) in
        ap (map to_ascii_lowercase) one ∙ (ap (λ (x : ℕ). x ∷ []) (lower c e) ∙ sym one)
    by_size false large = high c large

-- the same of characters one by one
pub own_lower : (cs : List ℕ) → list_all is_no_capital cs ≡ true → map to_ascii_lowercase cs ≡ cs
own_lower [] all = refl
own_lower (c ∷ cs) all = λ i. lower c (first_of_two (is_no_capital c) (list_all is_no_capital cs) all) i ∷ own_lower cs (second_of_two (is_no_capital c) (list_all is_no_capital cs) all) i

text_lowered : (cs : List ℕ) → list_all is_no_capital cs ≡ true → lowered cs ≡ text cs
text_lowered [] all = refl
text_lowered (c ∷ cs) all =
    map-append to_ascii_lowercase (encode_utf8 c) (text cs)
    ∙ (ap (λ (x : List ℕ). x ++ map to_ascii_lowercase (text cs)) (character_lowered c (first_of_two (is_no_capital c) (list_all is_no_capital cs) all))
    ∙ ap (λ (x : List ℕ). encode_utf8 c ++ x) (text_lowered cs (second_of_two (is_no_capital c) (list_all is_no_capital cs) all)))

-- A name that is read as it is written.
pub record IsRead (name : List ℕ) : Type 0 where
  pub utf8 : IsUtf8 name
  pub identifier : is_identifier (chars name) ≡ true
  pub lower : lowered (chars name) ≡ name
  pub capitals : list_all is_no_capital (chars name) ≡ true

pub settled_read : (name : List ℕ) → IsUtf8 name → is_lowered_identifier (chars name) ≡ true → IsRead name
settled_read name utf8 is = record {
  utf8 = utf8;
  identifier = first_of_two (is_identifier (chars name)) (list_all is_no_capital (chars name)) is;
  lower = text_lowered (chars name) (second_of_two (is_identifier (chars name)) (list_all is_no_capital (chars name)) is) ∙ text_of_chars name utf8;
  capitals = second_of_two (is_identifier (chars name)) (list_all is_no_capital (chars name)) is;
}

-- a name of ASCII
pub ascii_read : (name : List ℕ) → list_all is_ascii name ≡ true → is_lowered_identifier name ≡ true → IsRead name
ascii_read name small is =
    let all = AllPass-from_list_all is_ascii name small in
    let ascii : IsAscii name = IsAscii-from_all name (λ k d l. ltb-true _ 128 (all k d l)) in
    settled_read name (IsUtf8-from_ascii name ascii) (ap is_lowered_identifier (chars-IsAscii name ascii) ∙ is)

-- what holds of a name, and of each name that others are written under, holds of the name that it is written under
pub written_has : (P : List ℕ → Type 0) (rows : List (List ℕ × List ℕ)) (name : List ℕ) → AllByRecursion (λ row. P row.0) rows → P name
    → P (unwrap_or (option_map (λ names. names.0) (find (λ names. bytes_eq name names.1) rows)) name)
written_has P [] name all own = own
written_has P (row ∷ rows) name all own = by_test (bytes_eq name row.1) (written_has P rows name all.1 own)
  where
    by_test : (b : Bool) → P (unwrap_or (option_map (λ names. names.0) (find (λ names. bytes_eq name names.1) rows)) name)
        → P (unwrap_or (option_map (λ names. names.0) (cond b (Some row) (find (λ names. bytes_eq name names.1) rows))) name)
    by_test true more = all.0
    by_test false more = more

pub written_read : (name : List ℕ) → IsUtf8 name → is_lowered_identifier (chars name) ≡ true → IsRead (written_name name)
written_read name utf8 is =
    written_has IsRead other_names name
    (ascii_read _ refl refl, (ascii_read _ refl refl, (ascii_read _ refl refl, (ascii_read _ refl refl, (ascii_read _ refl refl, (ascii_read _ refl refl, (ascii_read _ refl refl, (ascii_read _ refl refl, tt))))))))
    (settled_read name utf8 is)

-- a field is read verbatim under its written name where it is under its own
written_kind : (rows : List (List ℕ × List ℕ)) (name : List ℕ) → AllByRecursion (λ row. is_verbatim_name row.0 ≡ is_verbatim_name row.1) rows
    → is_verbatim_name (unwrap_or (option_map (λ names. names.0) (find (λ names. bytes_eq name names.1) rows)) name) ≡ is_verbatim_name name
written_kind [] name all = refl
written_kind (row ∷ rows) name all = by_test (bytes_eq name row.1) refl (written_kind rows name all.1)
  where
    by_test : (b : Bool) → bytes_eq name row.1 ≡ b → is_verbatim_name (unwrap_or (option_map (λ names. names.0) (find (λ names. bytes_eq name names.1) rows)) name) ≡ is_verbatim_name name
        → is_verbatim_name (unwrap_or (option_map (λ names. names.0) (cond b (Some row) (find (λ names. bytes_eq name names.1) rows))) name) ≡ is_verbatim_name name
    by_test true same more = all.0 ∙ ap is_verbatim_name (sym ((bytes_eq-Decides name row.1).0 same))
    by_test false same more = more

pub same_kind : (name : List ℕ) → is_verbatim_name (written_name name) ≡ is_verbatim_name name
same_kind name = written_kind other_names name (refl, (refl, (refl, (refl, (refl, (refl, (refl, (refl, tt))))))))
