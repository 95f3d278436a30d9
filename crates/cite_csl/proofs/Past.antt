-- What follows a text at the beginning of another.
use Rattle.std.proofs.Common.{◌≡◌, ◌≢◌, ℕ, Bool, true, false, eqb, List, [], ◌∷◌, ◌++◌, if◌then◌else◌, Option, Some, None, MatchOption, option_map, Bor, unwrap_or, refl, sym, ap, ◌∙◌, eqb-true}
use Rattle.std.specs.Option.{option_or}
use Rattle.std.specs.Str.{chars, IsUtf8}
use Rattle.std.specs.Str.Pattern.{FindsTextPrefix, StripsPrefix}
use Rattle.std.proofs.lemmas.Bool.{eq-eqb}
use Rattle.std.proofs.lemmas.Str.{chars-append}
use Rattle.laws.specs.Text.{text, spelled}
use Rattle.laws.proofs.Text.{text_of_chars, text-append}
use Rattle.cite_csl.specs.Names.{past}

-- past a text that is put before another
past_before : (t rest : List ℕ) → past t (t ++ rest) ≡ Some rest
past_before [] rest = refl
past_before (c ∷ t) rest =
    let same : eqb c c ≡ true = eq-eqb c c refl in
    rw (same, past_before t rest) refl

-- what there is something past begins so
begins : (t cs rest : List ℕ) → past t cs ≡ Some rest → cs ≡ t ++ rest
begins [] cs rest e = cc
begins (t ∷ ts) [] rest e = absurd cc
begins (t ∷ ts) (c ∷ cs) rest e = by_test (eqb c t) refl (begins ts cs rest) e
  where
    by_test : (b : Bool) → eqb c t ≡ b → (past ts cs ≡ Some rest → cs ≡ ts ++ rest) → (if b then past ts cs else None) ≡ Some rest → c ∷ cs ≡ (t ∷ ts) ++ rest
    by_test true same more e = let d : c ≡ t = eqb-true c t same in let k : cs ≡ ts ++ rest = more e in rw (d, k) refl
    by_test false same more e = absurd cc

-- a text that another does not begin with
lacks : (p s : List ℕ) → IsUtf8 p → IsUtf8 s → ((rest : List ℕ) → s ≢ p ++ rest) → (o : Option (List ℕ)) → past (chars p) (chars s) ≡ o → None ≡ o
lacks p s u v lack None e = refl
lacks p s u v lack (Some rest) e =
    let parts : chars s ≡ chars p ++ rest = begins (chars p) (chars s) rest e in
    absurd (lack (text rest) (sym (text_of_chars s v) ∙ (ap text parts ∙ (text-append (chars p) rest ∙ ap (λ (x : List ℕ). x ++ text rest) (text_of_chars p u)))))

-- what is left where a text is cut off the beginning of another
pub stripped : (p s : List ℕ) (r : Option (Bor (List ℕ))) → IsUtf8 p → IsUtf8 s → MatchOption r (FindsTextPrefix p s None) (λ x. StripsPrefix (FindsTextPrefix p) s x.now)
    → option_map spelled r ≡ past (chars p) (chars s)
stripped p s None u v lack = lacks p s u v lack (past (chars p) (chars s)) refl
stripped p s (Some x) u v h =
    let parts : s ≡ p ++ x.now = h.1.1 ∙ ap (λ (l : List ℕ). p ++ l) (sym h.2) in
    sym (ap (past (chars p)) (ap chars parts ∙ chars-append p x.now u) ∙ past_before (chars p) (chars x.now))

-- the first of two texts that there is, or one without a character
pub first_spelled : (a b : Option (Bor (List ℕ))) (d : Bor (List ℕ)) → spelled d ≡ [] → spelled (unwrap_or (option_or a b) d) ≡ unwrap_or (option_or (option_map spelled a) (option_map spelled b)) []
first_spelled (Some s) b d none = refl
first_spelled None (Some s) d none = refl
first_spelled None None d none = none
