-- Texts put together of parts.
use Rattle.std.proofs.Common.{◌≡◌, ℕ, List, ◌++◌, ◌∙◌, append_assoc}

-- four parts after another text, put there one after the other
pub put_four : (o a b c d : List ℕ) → (((o ++ a) ++ b) ++ c) ++ d ≡ o ++ (a ++ (b ++ (c ++ d)))
put_four o a b c d = append_assoc ((o ++ a) ++ b) c d ∙ (append_assoc (o ++ a) b (c ++ d) ∙ append_assoc o a (b ++ (c ++ d)))

-- three parts
pub put_three : (o a b c : List ℕ) → ((o ++ a) ++ b) ++ c ≡ o ++ (a ++ (b ++ c))
put_three o a b c = append_assoc (o ++ a) b c ∙ append_assoc o a (b ++ c)
