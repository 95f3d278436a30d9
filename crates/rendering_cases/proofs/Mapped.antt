-- What stands for a character in the other case: at most three characters.
use Rattle.std.proofs.Common.{◌≡◌, ℕ, Option, None, Some, List, ◌++◌, option_to_list, sym, ap, ◌∙◌, append_assoc}
use Rattle.std.specs.Char.Iter.{case_mapping_first, case_mapping_second, case_mapping_third, case_mapping_chars}
use Rattle.std.specs.declared.char.ToLowercase.{CaseChanged}

listed : (s : CaseChanged) (a b c : Option ℕ) → case_mapping_first s ≡ a → case_mapping_second s ≡ b → case_mapping_third s ≡ c → case_mapping_chars s ≡ option_to_list a ++ (option_to_list b ++ option_to_list c)
listed s None None None p q r = rw (p, q, r)
listed s None None (Some z) p q r = rw (p, q, r)
listed s None (Some y) None p q r = rw (p, q, r)
listed s None (Some y) (Some z) p q r = rw (p, q, r)
listed s (Some x) None None p q r = rw (p, q, r)
listed s (Some x) None (Some z) p q r = rw (p, q, r)
listed s (Some x) (Some y) None p q r = rw (p, q, r)
listed s (Some x) (Some y) (Some z) p q r = rw (p, q, r)

-- these, one after the other, behind a text
pub put : (old : List ℕ) (s : CaseChanged) (a b c : Option ℕ) → case_mapping_first s ≡ a → case_mapping_second s ≡ b → case_mapping_third s ≡ c
    → ((old ++ option_to_list a) ++ option_to_list b) ++ option_to_list c ≡ old ++ case_mapping_chars s
put old s a b c p q r =
    append_assoc (old ++ option_to_list a) (option_to_list b) (option_to_list c)
    ∙ (append_assoc old (option_to_list a) (option_to_list b ++ option_to_list c)
    ∙ ap (λ (t : List ℕ). old ++ t) (sym (listed s a b c p q r)))
