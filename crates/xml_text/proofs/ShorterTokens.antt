-- Each token leaves less to read.
use Rattle.std.proofs.Common.{◌≡◌, ℕ, ◌≤◌, ◌<◌, Bool, true, false, cond, eqb, ◌||◌, List, [], ◌∷◌, length, Option, Some, None, Result, Ok, Err, codes, refl, arith}
use Rattle.std.specs.Prelude.{IfOk, IfSome}
use Rattle.laws.specs.Results.{◌>>=◌}
use Rattle.laws.specs.Steps.{Shortens, each}
use Rattle.laws.proofs.Results.{bind_if_ok, test_if_ok, guard_if_ok, if_ok_at}
use Rattle.xml_text.specs.Tokens.{At, Token, Refers}
use Rattle.xml_text.specs.Reading.{Refusal, Reading, begun_at, character_at, word_at, begins, after_space, plain_name_at, name_at, reference_at}
use Rattle.xml_text.specs.Tags.{next_attribute_at, tag_end_at, start_tag_at, end_tag_at}
use Rattle.xml_text.specs.Markup.{is_end, before_end, from_end, comment_at, section_at, exclaimed_at, is_reserved, instruction_end_at, instruction_at, markup_at, characters_end_at, characters_at, token_from, token_at}
use Rattle.xml_text.specs.declared.character.Class.TheVariants.{Space, NameStart, NameCharacter}
use Rattle.xml_text.specs.declared.ending.Ending.{Ending}
use Rattle.xml_text.specs.declared.ending.Ending.TheVariants.{Data, Comment, SectionText, Instruction}
use Rattle.xml_text.specs.declared.fault.Fault.TheVariants.{Unexpected, Doctype, ReservedTarget}
use Rattle.xml_text.proofs.Shorter.{AtMost, Below, LeavesAtMost, LeavesBelow, either_if_ok, each-most, character-below, after-most, run-most, name-most, reference-below, next_attribute-leaves}

word-most : (n : ℕ) (word cs : List ℕ) → length cs ≤ n → IfOk (word_at word cs) (AtMost n)
word-most n [] cs le = le
word-most n (w ∷ ws) cs le =
    bind_if_ok (Below n) (AtMost n) (character_at w cs) (λ rest. word_at ws rest) (character-below n w cs le) (λ rest less. word-most n ws rest (omega arith))

from_end-most : (n : ℕ) (ending : Ending) (cs : List ℕ) → length cs ≤ n → length (from_end ending cs) ≤ n
from_end-most n ending [] le = le
from_end-most n ending (c ∷ cs) le = by_test (from_end-most n ending cs (omega arith)) (is_end ending (c ∷ cs))
  where
    by_test : length (from_end ending cs) ≤ n → (b : Bool) → length (cond b (c ∷ cs) (from_end ending cs)) ≤ n
    by_test more true = le
    by_test more false = more

-- ---- tags

tag_end-most : (n : ℕ) (cs : List ℕ) → length cs ≤ n → IfOk (tag_end_at cs) (LeavesAtMost n)
tag_end-most n [] le = tt
tag_end-most n (c ∷ cs) le =
    either_if_ok (LeavesAtMost n) (eqb c 62) _ _ (omega arith)
    (test_if_ok (LeavesAtMost n) (eqb c 47) _ (Unexpected, c ∷ cs)
    (bind_if_ok (Below n) (LeavesAtMost n) (character_at 62 cs) _ (character-below n 62 cs (omega arith)) (λ rest less. omega arith)))

start_tag-most : (n : ℕ) (cs : List ℕ) → length cs ≤ n → IfOk (start_tag_at cs) (LeavesAtMost n)
unfolding start_tag_at
start_tag-most n cs le =
    bind_if_ok (LeavesAtMost n) (LeavesAtMost n) (name_at cs) _ (name-most n cs le) (λ name less.
    bind_if_ok (LeavesAtMost n) (LeavesAtMost n) (each next_attribute_at name.1) _ (each-most next_attribute_at next_attribute-leaves n name.1 less) (λ attributes fewer.
    bind_if_ok (LeavesAtMost n) (LeavesAtMost n) (tag_end_at attributes.1) _ (tag_end-most n attributes.1 fewer) (λ empty most. most)))

end_tag-most : (n : ℕ) (cs : List ℕ) → length cs ≤ n → IfOk (end_tag_at cs) (LeavesAtMost n)
unfolding end_tag_at
end_tag-most n cs le =
    bind_if_ok (LeavesAtMost n) (LeavesAtMost n) (name_at cs) _ (name-most n cs le) (λ name less.
    bind_if_ok (Below n) (LeavesAtMost n) (character_at 62 (after_space name.1)) _ (character-below n 62 (after_space name.1) (after-most n Space name.1 less)) (λ rest fewer. omega arith))

-- ---- comments, sections and instructions

comment-most : (n : ℕ) (cs : List ℕ) → length cs ≤ n → IfOk (comment_at cs) (LeavesAtMost n)
unfolding comment_at
comment-most n cs le =
    bind_if_ok (Below n) (LeavesAtMost n) (character_at 45 cs) _ (character-below n 45 cs le) (λ body less.
    bind_if_ok (AtMost n) (LeavesAtMost n) (word_at (codes "-->") (from_end Comment body)) _ (word-most n (codes "-->") (from_end Comment body) (from_end-most n Comment body (omega arith))) (λ rest most. most))

section-most : (n : ℕ) (cs : List ℕ) → length cs ≤ n → IfOk (section_at cs) (LeavesAtMost n)
unfolding section_at
section-most n cs le =
    bind_if_ok (AtMost n) (LeavesAtMost n) (word_at (codes "CDATA[") cs) _ (word-most n (codes "CDATA[") cs le) (λ body less.
    bind_if_ok (AtMost n) (LeavesAtMost n) (word_at (codes "]]>") (from_end SectionText body)) _ (word-most n (codes "]]>") (from_end SectionText body) (from_end-most n SectionText body less)) (λ rest most. most))

exclaimed-most : (n : ℕ) (start cs : List ℕ) → length cs ≤ n → IfOk (exclaimed_at start cs) (LeavesAtMost n)
exclaimed-most n start [] le = tt
exclaimed-most n start (c ∷ cs) le =
    either_if_ok (LeavesAtMost n) (eqb c 45) _ _ (comment-most n cs (omega arith))
    (either_if_ok (LeavesAtMost n) (eqb c 91) _ _ (section-most n cs (omega arith)) (guard_if_ok (LeavesAtMost n) _ (Err (Unexpected, c ∷ cs)) (Doctype, start) tt))

instruction_text-most : (n : ℕ) (cs : List ℕ) (b : Bool) → length cs ≤ n → length (cond b (from_end Instruction cs) cs) ≤ n
instruction_text-most n cs true le = from_end-most n Instruction cs le
instruction_text-most n cs false le = le

instruction_end-most : (n : ℕ) (start target cs : List ℕ) → length cs ≤ n → IfOk (instruction_end_at start target cs) (LeavesAtMost n)
instruction_end-most n start target cs le =
    guard_if_ok (LeavesAtMost n) (is_reserved target) _ (ReservedTarget, start)
    (bind_if_ok (AtMost n) (LeavesAtMost n) (word_at (codes "?>") (cond (begins Space cs) (from_end Instruction cs) cs)) _
    (word-most n (codes "?>") (cond (begins Space cs) (from_end Instruction cs) cs) (instruction_text-most n cs (begins Space cs) le)) (λ rest most. most))

instruction-most : (n : ℕ) (start cs : List ℕ) → length cs ≤ n → IfOk (instruction_at start cs) (LeavesAtMost n)
unfolding instruction_at
instruction-most n start cs le =
    bind_if_ok (LeavesAtMost n) (LeavesAtMost n) (plain_name_at cs) _ (run-most n NameStart NameCharacter cs le) (λ target less. instruction_end-most n start target.0 target.1 less)

-- ---- tokens

markup-most : (n : ℕ) (start cs : List ℕ) → length cs ≤ n → IfOk (markup_at start cs) (LeavesAtMost n)
markup-most n start [] le = tt
markup-most n start (c ∷ cs) le =
    either_if_ok (LeavesAtMost n) (eqb c 47) _ _ (bind_if_ok (LeavesAtMost n) (LeavesAtMost n) (end_tag_at cs) _ (end_tag-most n cs (omega arith)) (λ name most. most))
    (either_if_ok (LeavesAtMost n) (eqb c 33) _ _ (exclaimed-most n start cs (omega arith))
    (either_if_ok (LeavesAtMost n) (eqb c 63) _ _ (instruction-most n start cs (omega arith))
    (bind_if_ok (LeavesAtMost n) (LeavesAtMost n) (start_tag_at (c ∷ cs)) _ (start_tag-most n (c ∷ cs) le) (λ tag most. most))))

never_ok : {A B : Type 0} (Q : B → Type 0) (r : Result A Refusal) (f : A → Refusal) → IfOk (r >>= λ x. Err (f x)) Q
never_ok Q (Ok x) f = tt
never_ok Q (Err e) f = tt

characters_end-below : (n : ℕ) (t cs : List ℕ) → length cs < n → IfOk (characters_end_at t cs) (LeavesBelow n)
characters_end-below n t [] less = less
characters_end-below n t (c ∷ cs) less =
    either_if_ok (LeavesBelow n) (eqb c 60 || eqb c 38) _ _ less (never_ok (LeavesBelow n) (word_at (codes "]]") (c ∷ cs)) (λ bracket. (Unexpected, bracket)))

characters-below : (n c : ℕ) (cs : List ℕ) → length (c ∷ cs) ≤ n → eqb c 60 || eqb c 38 ≡ false → IfOk (characters_at (c ∷ cs)) (LeavesBelow n)
characters-below n c cs le plain = by_test (is_end Data (c ∷ cs)) refl
  where
    by_test : (b : Bool) → is_end Data (c ∷ cs) ≡ b → IfOk (characters_end_at (cond b [] (c ∷ before_end Data cs)) (cond b (c ∷ cs) (from_end Data cs))) (LeavesBelow n)
    by_test true is = rw plain (never_ok (LeavesBelow n) (word_at (codes "]]") (c ∷ cs)) (λ bracket. (Unexpected, bracket)))
    by_test false is =
        let most : length (from_end Data cs) ≤ length cs = from_end-most (length cs) Data cs (omega arith) in
        characters_end-below n (c ∷ before_end Data cs) (from_end Data cs) (omega arith)

token_from-below : (n c : ℕ) (cs : List ℕ) → length (c ∷ cs) ≤ n → IfOk (token_from c cs) (LeavesBelow n)
token_from-below n c cs le = by_tests (eqb c 60) refl (eqb c 38) refl
  where
    bind_below : (r : Reading Token) → IfOk r (LeavesAtMost (length cs)) → IfOk r (LeavesBelow n)
    bind_below (Ok p) most = omega arith
    bind_below (Err f) most = tt

    by_tests : (a : Bool) → eqb c 60 ≡ a → (b : Bool) → eqb c 38 ≡ b
        → IfOk (cond a (markup_at (c ∷ cs) cs) (cond b (reference_at cs >>= λ r. Ok (Refers r.0, r.1)) (characters_at (c ∷ cs)))) (LeavesBelow n)
    by_tests true e b f = bind_below (markup_at (c ∷ cs) cs) (markup-most (length cs) (c ∷ cs) cs (omega arith))
    by_tests false e true f = bind_if_ok (LeavesBelow n) (LeavesBelow n) (reference_at cs) _ (reference-below n cs (omega arith)) (λ r less. less)
    by_tests false e false f = characters-below n c cs le (rw (e, f) refl)

begun_if_ok : {X : Type 0} (Q : X → Type 0) (start : List ℕ) (r : Result X Refusal) → IfOk r Q → IfOk (begun_at start r) Q
begun_if_ok Q start (Ok x) q = q
begun_if_ok Q start (Err r) q = tt

pub tokens_shorten : Shortens token_at
tokens_shorten [] rest x e = absurd (if_ok_at (λ (p : Option (At Token) × List ℕ). IfSome p.0 (λ _. ⊥)) (token_at []) (Some x, rest) e tt)
tokens_shorten (c ∷ cs) rest x e =
    if_ok_at (LeavesBelow (length (c ∷ cs))) (token_at (c ∷ cs)) (Some x, rest) e
    (bind_if_ok (LeavesBelow (length (c ∷ cs))) (LeavesBelow (length (c ∷ cs))) (begun_at (c ∷ cs) (token_from c cs)) _
    (begun_if_ok (LeavesBelow (length (c ∷ cs))) (c ∷ cs) (token_from c cs) (token_from-below (length (c ∷ cs)) c cs (omega arith))) (λ t less. less))
