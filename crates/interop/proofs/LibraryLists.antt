-- Lists one after the other.
use Rattle.std.proofs.Common.{◌≡◌, List, ◌++◌, ap, ◌∙◌, append_assoc}

-- four lists after one, put there one after the other
pub four_after : {X : Type 0} (before one two three four a b c d : List X) → a ≡ before ++ one → b ≡ a ++ two → c ≡ b ++ three → d ≡ c ++ four → d ≡ before ++ (one ++ (two ++ (three ++ four)))
four_after {X} before one two three four a b c d ea eb ec ed =
    ed ∙ (ap (λ (x : List X). x ++ four) ec
    ∙ (ap (λ (x : List X). (x ++ three) ++ four) eb
    ∙ (ap (λ (x : List X). ((x ++ two) ++ three) ++ four) ea
    ∙ (append_assoc ((before ++ one) ++ two) three four ∙ (append_assoc (before ++ one) two (three ++ four) ∙ append_assoc before one (two ++ (three ++ four)))))))
