-- Texts are one where their characters are.
use Rattle.std.proofs.Common.{◌≡◌, ℕ, List, sym, ap, ◌∙◌, bytes_eq}
use Rattle.std.specs.Str.{chars, IsUtf8}
use Rattle.std.specs.Cmp.Lexicographic.{bytes_decides}
use Rattle.std.proofs.lemmas.Bool.Decides.{same_from_decides, Decides-like}
use Rattle.laws.specs.Text.{text}
use Rattle.laws.proofs.Text.{text_of_chars}

pub same_characters : (a b : List ℕ) → IsUtf8 a → IsUtf8 b → bytes_eq a b ≡ bytes_eq (chars a) (chars b)
same_characters a b u v =
    same_from_decides (bytes_eq a b) (bytes_eq (chars a) (chars b)) (bytes_decides a b)
    (Decides-like (bytes_eq (chars a) (chars b)) (λ e. sym (text_of_chars a u) ∙ ap text e ∙ text_of_chars b v) (ap chars) (bytes_decides (chars a) (chars b)))
