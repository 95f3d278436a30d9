use Rattle.std.proofs.Common.{◌≡◌, List, ℕ, sym, subst}
use Rattle.std.specs.Prelude.{map}
use Rattle.std.specs.Char.{to_ascii_lowercase}
use Rattle.std.specs.Str.{bytes_eq}
use Rattle.std.proofs.lemmas.Str.{encodes-chars}
use Rattle.std.proofs.lemmas.Slice.Eq.{bytes_eq-Decides}
use Rattle.std.proofs.lemmas.Bool.Decides.{same_from_decides}
use Rattle.xml_text.proofs.reading.is_word_in_any_case.Goals as goal

pub returns : goal.returns
returns c =
    let text = c.args.text.now in
    let word = map to_ascii_lowercase c.args.word.now in
    let same : c.eq_ignore_ascii_case.result ≡ bytes_eq (map to_ascii_lowercase text) word = same_from_decides _ _ c.eq_ignore_ascii_case.ensures.test (bytes_eq-Decides (map to_ascii_lowercase text) word) in
    subst (λ (n : List ℕ). c.eq_ignore_ascii_case.result ≡ bytes_eq (map to_ascii_lowercase n) word) (sym (encodes-chars text c.utf8.text)) same
