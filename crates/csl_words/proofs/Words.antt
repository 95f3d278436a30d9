-- The words of a text, part by part.
use Rattle.std.proofs.Common.{◌≡◌, ℕ, Bool, true, false, cond, List, [], ◌∷◌, ◌++◌, eqb, refl, sym, ap, ◌∙◌, append_assoc}
use Rattle.std.specs.List.{filter, slice_split}
use Rattle.laws.specs.Characters.{space}
use Rattle.csl_words.specs.Looking.{is_word, words_of}

-- a part before others
pub first_word : (part : List ℕ) (others : List (List ℕ)) → filter is_word (part ∷ others) ≡ filter is_word (part ∷ []) ++ filter is_word others
first_word part others = by_test (is_word part) (filter is_word others)
  where
    by_test : (is : Bool) (ws : List (List ℕ)) → cond is (part ∷ ws) ws ≡ cond is (part ∷ []) [] ++ ws
    by_test true ws = refl
    by_test false ws = refl

-- one part more
pub words_on : (old new all : List (List ℕ)) (t part more : List ℕ) → slice_split (λ b. eqb b space) t ≡ part ∷ slice_split (λ b. eqb b space) more → new ≡ old ++ filter is_word (part ∷ [])
    → old ++ words_of t ≡ all → new ++ words_of more ≡ all
words_on old new all t part more split pushed so_far =
    ap (λ (ws : List (List ℕ)). ws ++ words_of more) pushed
    ∙ (append_assoc old (filter is_word (part ∷ [])) (words_of more)
    ∙ (ap (λ (ws : List (List ℕ)). old ++ ws) (sym (ap (filter is_word) split ∙ first_word part (slice_split (λ b. eqb b space) more))) ∙ so_far))

-- the last part
pub words_end : (old new all : List (List ℕ)) (t : List ℕ) → slice_split (λ b. eqb b space) t ≡ t ∷ [] → new ≡ old ++ filter is_word (t ∷ []) → old ++ words_of t ≡ all → new ≡ all
words_end old new all t split pushed so_far = pushed ∙ (ap (λ (ws : List (List ℕ)). old ++ ws) (sym (ap (filter is_word) split)) ∙ so_far)
