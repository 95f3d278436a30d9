-- A piece of plain characters gives them as they are.
use Rattle.std.proofs.Common.{◌≡◌, ℕ, ◌<◌, Bool, true, false, true≢false, cond, not, ◌&&◌, ◌||◌, eqb, List, [], ◌∷◌, ◌++◌, Some, Result, Ok, refl, sym, ap, ◌∙◌, arith}
use Rattle.std.specs.Prelude.{encode_utf8}
use Rattle.std.specs.List.{list_all}
use Rattle.std.specs.Str.{chars, IsUtf8}
use Rattle.std.proofs.lemmas.Bool.{eqb-true}
use Rattle.std.proofs.lemmas.List.{append-nil}
use Rattle.std.proofs.lemmas.List.Folds.{list_all-append}
use Rattle.std.proofs.lemmas.Str.{encode_ascii}
use Rattle.laws.specs.Characters.{dollar_sign, hyphen, backslash, open_brace, close_brace, tilde}
use Rattle.laws.specs.Text.{text}
use Rattle.laws.proofs.Text.{text_of_chars}
use Rattle.laws.specs.Results.{◌>>=◌}
use Rattle.laws.specs.Runs.{prefix_of, after}
use Rattle.laws.proofs.Runs.{prefix-after}
use Rattle.laws.proofs.Steps.{each-none, each-some}
use Rattle.biblatex_tex.specs.Character.{is_plain, passes}
use Rattle.biblatex_tex.specs.declared.character.Class.TheVariants.{Plain}
use Rattle.biblatex_content.specs.declared.chunk.Kind.TheVariants.{Normal}
use Rattle.biblatex_tex.specs.declared.error.ContentError.{ContentError}
use Rattle.biblatex_content.specs.Styled.{letters}
use Rattle.biblatex_tex.specs.Token.{Token, Text, token_at, tokens_of, paired_of}
use Rattle.biblatex_content.specs.Ordinary.{ordinary, step}
use Rattle.biblatex_tex.proofs.TokenLexing.{tokens_shorten}
use Rattle.biblatex_content.proofs.Tests.{first_of_two, second_of_two, not_true}

first_no : (a b : Bool) → a || b ≡ false → a ≡ false
first_no true b e = e
first_no false b e = refl

second_no : (a b : Bool) → a || b ≡ false → b ≡ false
second_no true b e = absurd cc
second_no false b e = e

-- a plain character begins a text
text_at : (c : ℕ) (cs : List ℕ) → passes Plain c ≡ true → token_at (c ∷ cs) ≡ Ok (Some (Text (prefix_of (passes Plain) (c ∷ cs))), after (passes Plain) (c ∷ cs))
unfolding token_at passes
text_at c cs plain =
    let none = not_true _ plain in
    let n6 = second_no _ (eqb c hyphen) none in
    let m5 = first_no _ (eqb c hyphen) none in
    let n5 = second_no _ (eqb c tilde) m5 in
    let m4 = first_no _ (eqb c tilde) m5 in
    let n4 = second_no _ (eqb c dollar_sign) m4 in
    let m3 = first_no _ (eqb c dollar_sign) m4 in
    let n3 = second_no _ (eqb c close_brace) m3 in
    let m2 = first_no _ (eqb c close_brace) m3 in
    let n2 = second_no _ (eqb c open_brace) m2 in
    let n1 = first_no _ (eqb c open_brace) m2 in
    rw (n1, n2, n3, n4, n5, n6) refl

-- where nothing follows the run, its first character is of it
run_begins : (test : ℕ → Bool) (c : ℕ) (cs : List ℕ) → after test (c ∷ cs) ≡ [] → test c ≡ true
run_begins test c cs = by_test (test c)
  where
    by_test : (b : Bool) → cond b (after test cs) (c ∷ cs) ≡ [] → b ≡ true
    by_test true e = refl
    by_test false e = absurd cc

tokens_of-nil : tokens_of [] ≡ Ok []
unfolding tokens_of token_at
tokens_of-nil = rw (each-none token_at [] [] refl) refl

tokens_of-plain : (c : ℕ) (cs : List ℕ) → after (passes Plain) (c ∷ cs) ≡ [] → tokens_of (c ∷ cs) ≡ Ok (Text (c ∷ cs) ∷ [])
unfolding tokens_of token_at
tokens_of-plain c cs e =
    let all : c ∷ cs ≡ prefix_of (passes Plain) (c ∷ cs) = prefix-after (passes Plain) (c ∷ cs) ∙ (ap (λ (x : List ℕ). prefix_of (passes Plain) (c ∷ cs) ++ x) e ∙ append-nil _) in
    let one : token_at (c ∷ cs) ≡ Ok (Some (Text (c ∷ cs)), []) = text_at c cs (run_begins (passes Plain) c cs e) ∙ rw (e, ← all) refl in
    ap (λ (r : Result (List Token × List ℕ) ContentError). r >>= λ p. Ok p.0) (each-some token_at tokens_shorten (c ∷ cs) [] (Text (c ∷ cs)) one)
    ∙ rw (each-none token_at [] [] refl) refl

pub ordinary_plain : (cs : List ℕ) → after (passes Plain) cs ≡ [] → ordinary cs ≡ Ok (letters Normal cs)
unfolding ordinary paired_of step
ordinary_plain [] e = rw tokens_of-nil refl
ordinary_plain (c ∷ cs) e = rw (tokens_of-plain c cs e) refl

-- one of the characters that begin more is a byte of a text that it is in
begins_more : (c v : ℕ) → v < 128 → is_plain v ≡ false → eqb c v ≡ true → list_all is_plain (encode_utf8 c) ≡ false
begins_more c v low none e =
    ap (λ (x : ℕ). list_all is_plain (encode_utf8 x)) (eqb-true c v e) ∙ (ap (list_all is_plain) (encode_ascii v low) ∙ ap (λ (b : Bool). b && true) none)

not_plain : (c : ℕ) → is_plain c ≡ false → list_all is_plain (encode_utf8 c) ≡ false
not_plain c e = by_tests (eqb c backslash) (eqb c open_brace) (eqb c close_brace) (eqb c dollar_sign) (eqb c tilde) (eqb c hyphen) refl refl refl refl refl refl e
  where
    by_tests : (k l m n o p : Bool) → eqb c backslash ≡ k → eqb c open_brace ≡ l → eqb c close_brace ≡ m → eqb c dollar_sign ≡ n → eqb c tilde ≡ o → eqb c hyphen ≡ p
        → not (k || l || m || n || o || p) ≡ false → list_all is_plain (encode_utf8 c) ≡ false
    by_tests true l m n o p e1 e2 e3 e4 e5 e6 h = begins_more c backslash (omega arith) refl e1
    by_tests false true m n o p e1 e2 e3 e4 e5 e6 h = begins_more c open_brace (omega arith) refl e2
    by_tests false false true n o p e1 e2 e3 e4 e5 e6 h = begins_more c close_brace (omega arith) refl e3
    by_tests false false false true o p e1 e2 e3 e4 e5 e6 h = begins_more c dollar_sign (omega arith) refl e4
    by_tests false false false false true p e1 e2 e3 e4 e5 e6 h = begins_more c tilde (omega arith) refl e5
    by_tests false false false false false true e1 e2 e3 e4 e5 e6 h = begins_more c hyphen (omega arith) refl e6
    by_tests false false false false false false e1 e2 e3 e4 e5 e6 h = absurd (true≢false h)

all_plain : (cs : List ℕ) → list_all is_plain (text cs) ≡ true → after (passes Plain) cs ≡ []
unfolding passes
all_plain [] e = refl
all_plain (c ∷ cs) e =
    let each : list_all is_plain (encode_utf8 c) && list_all is_plain (text cs) ≡ true = sym (list_all-append is_plain (encode_utf8 c) (text cs)) ∙ e in
    by_test (is_plain c) refl (first_of_two (list_all is_plain (encode_utf8 c)) (list_all is_plain (text cs)) each)
    (all_plain cs (second_of_two (list_all is_plain (encode_utf8 c)) (list_all is_plain (text cs)) each))
  where
    by_test : (b : Bool) → is_plain c ≡ b → list_all is_plain (encode_utf8 c) ≡ true → after (passes Plain) cs ≡ [] → cond b (after (passes Plain) cs) (c ∷ cs) ≡ []
    by_test true is here more = more
    by_test false is here more = absurd (true≢false (sym here ∙ not_plain c is))

-- each character of a text is plain where each byte of it is
pub plain_bytes : (bs : List ℕ) → IsUtf8 bs → list_all is_plain bs ≡ true → after (passes Plain) (chars bs) ≡ []
plain_bytes bs u e = all_plain (chars bs) (ap (list_all is_plain) (text_of_chars bs u) ∙ e)
