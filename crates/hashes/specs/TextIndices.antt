-- The numbers of texts, as they are found. Texts are bytes.
use Rattle.std.specs.Global.{Global}
use Rattle.std.specs.Prelude.{ℕ, Bool, false, not, List, Option, Some, None, String, string_bytes, if◌then◌else◌}
use Rattle.std.specs.BTreeMap.{get, get_by_text}
use Rattle.std.specs.Option.{option_or}
use Rattle.std.specs.Ordering.{nat_cmp}
use Rattle.std.specs.Str.{bytes_eq}
use Rattle.hashes.specs.Hashes.{text_hash}
use Rattle.hashes.specs.declared.text_index.TextIndex.{TextIndex}

-- the number of the first text of a hash, where it is this text
abbrev pub if_text : List ℕ → Option (String Global × ℕ) → Option ℕ
if_text text None = None
if_text text (Some first) = if bytes_eq text (string_bytes first.0) then Some first.1 else None

-- whether the first text of a hash is another than this one
abbrev pub is_another : List ℕ → Option (String Global × ℕ) → Bool
is_another text None = false
is_another text (Some first) = not (bytes_eq text (string_bytes first.0))

-- the number of a text: as the first of its hash, else by itself
unfoldable pub number_of : TextIndex → List ℕ → Option ℕ
number_of index text = option_or (if_text text (get nat_cmp index.firsts (text_hash text))) (get_by_text index.others text)
