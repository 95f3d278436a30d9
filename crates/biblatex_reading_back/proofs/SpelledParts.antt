-- Names, keys and gaps of a file of entries.
use Rattle.std.proofs.Common.{◌≡◌, ℕ, Bool, true, false, true≢false, not, ◌||◌, eqb, List, [], ◌∷◌, ◌++◌, length, length-append, refl, sym, ap, ◌∙◌, arith}
use Rattle.std.specs.Char.{is_whitespace, is_control}
use Rattle.std.specs.List.{list_all}
use Rattle.laws.specs.Characters.{comma, number_sign, percent_sign}
use Rattle.laws.specs.Runs.{AllPassTest, Bars}
use Rattle.laws.specs.Text.{text as text_of}
use Rattle.laws.proofs.Text.{text-append}
use Rattle.biblatex_content.proofs.Tests.{first_of_two, second_of_two}
use Rattle.biblatex_text.specs.Character.{is_special, is_id_start, is_id_continue, is_key}
use Rattle.biblatex_text.specs.Raw.{At}
use Rattle.biblatex_text.specs.Reading.{offset}
use Rattle.biblatex_grammar.specs.Characters.{IsRun, BeginsWith, is_of_identifier, is_first_of_identifier, is_of_key}
use Rattle.biblatex_grammar.specs.Gaps.{Part, character, hidden, AreParts, IsGap, IsAfterGap, IsOutside, is_skipped}
use Rattle.biblatex_grammar.specs.Values.{IsAt, IsIdentifier}
use Rattle.biblatex_grammar.specs.Items.{IsKey}
use Rattle.biblatex_grammar.proofs.Classes.{differs, head_same, identifier-same, first-same, key-same}
use Rattle.biblatex_grammar.proofs.Offsets.{Within, offset-takes}
use Rattle.biblatex_writing.specs.Settled.{is_identifier}

-- what follows is within the text too
pub within_rest : (n : ℕ) (xs ys : List ℕ) → Within n (xs ++ ys) → Within n ys
within_rest n xs ys within =
    let long = ap length (text-append xs ys) ∙ length-append (text_of xs) (text_of ys) in
    omega (arith, long)

-- something with its range
abbrev pub located : {X : Type 0} → ℕ → List ℕ → List ℕ → X → At X
located n cs rest v = record { v = v; start = offset n cs; end = offset n rest }

pub located_at : {X : Type 0} (n : ℕ) (cs rest : List ℕ) (v : X) → Within n cs → Within n rest → IsAt n cs (located n cs rest v) rest
located_at n cs rest v a b = (offset-takes n cs a, offset-takes n rest b)

-- no gap
pub no_gap : (cs : List ℕ) → Bars (λ c. eqb c percent_sign || is_whitespace c) cs → IsGap cs cs
no_gap cs bars = ([], (refl, bars))

-- one character of white space
pub blank_gap : (c : ℕ) (cs : List ℕ) → is_whitespace c ≡ true → Bars (λ x. eqb x percent_sign || is_whitespace x) cs → IsGap (c ∷ cs) cs
blank_gap c cs white bars = (character c ∷ [], (cs, (refl, white), (refl, bars)))

-- no character, or one or two, outside of items
pub outside_none : (cs : List ℕ) → Bars (λ c. eqb c percent_sign || is_skipped c) cs → IsOutside cs cs
outside_none cs bars = ([], (refl, bars))

pub outside_one : (c : ℕ) (cs : List ℕ) → is_skipped c ≡ true → Bars (λ x. eqb x percent_sign || is_skipped x) cs → IsOutside (c ∷ cs) cs
outside_one c cs skip bars = (character c ∷ [], (cs, (refl, skip), (refl, bars)))

pub outside_two : (c d : ℕ) (cs : List ℕ) → is_skipped c ≡ true → is_skipped d ≡ true → Bars (λ x. eqb x percent_sign || is_skipped x) cs → IsOutside (c ∷ d ∷ cs) cs
outside_two c d cs one two bars = (character c ∷ character d ∷ [], (d ∷ cs, (refl, one), (cs, (refl, two), (refl, bars))))

no_parts : (x b : List ℕ) (ps : List Part) → AreParts is_whitespace (comma ∷ x) ps (number_sign ∷ b) → ⊥
no_parts x b [] (is, bars) =
    let same = head_same comma number_sign x b is in
    omega (arith, same)
no_parts x b (character c ∷ ps) (a, (is, white), more) = true≢false (sym white ∙ sym (ap is_whitespace (head_same comma c x a is)))
no_parts x b (hidden t ∷ ps) (a, hides, more) =
    let same = head_same comma percent_sign x (t ++ hides.0) hides.1 in
    omega (arith, same)

-- after a comma no number sign stands
pub no_number_sign : (x b : List ℕ) → IsAfterGap number_sign (comma ∷ x) b → ⊥
no_number_sign x b (ps, are) = no_parts x b ps are

-- what a first character of an identifier is
no_white : (w k s a b c d : Bool) → not (w || k || s || a || b || c || d) ≡ true → w ≡ false
no_white true k s a b c d e = absurd (true≢false (sym e))
no_white false k s a b c d e = refl

goes_on : (x a b c d : Bool) → not (x || a || b || c || d) ≡ true → not x ≡ true
goes_on true a b c d e = absurd (true≢false (sym e))
goes_on false a b c d e = refl

first_continues : (c : ℕ) → is_id_start c ≡ true → is_id_continue c ≡ true
first_continues c start = goes_on (is_whitespace c || is_control c || is_special c) (eqb c 58) (eqb c 60) (eqb c 45) (eqb c 62) start

first_bars : (c : ℕ) → is_id_start c ≡ true → eqb c percent_sign || is_whitespace c ≡ false
first_bars c start =
    let white = no_white (is_whitespace c) (is_control c) (is_special c) (eqb c 58) (eqb c 60) (eqb c 45) (eqb c 62) start in
    let sign = differs is_id_start c percent_sign start refl in
    rw (sign, white) refl

all_continue : (cs : List ℕ) → list_all is_id_continue cs ≡ true → AllPassTest is_of_identifier cs
all_continue [] all = tt
all_continue (c ∷ cs) all = (identifier-same c ∙ first_of_two (is_id_continue c) (list_all is_id_continue cs) all, all_continue cs (second_of_two (is_id_continue c) (list_all is_id_continue cs) all))

-- an identifier before what is no character of one
pub record Begins (name rest : List ℕ) : Type 0 where
  pub first : BeginsWith is_first_of_identifier (name ++ rest)
  pub run : IsRun is_of_identifier (name ++ rest) name rest
  pub bars : Bars (λ c. eqb c percent_sign || is_whitespace c) (name ++ rest)

pub begins : (name rest : List ℕ) → is_identifier name ≡ true → Bars is_of_identifier rest → Begins name rest
begins [] rest is bars = absurd (true≢false (sym is))
begins (c ∷ cs) rest is bars =
    let start = first_of_two (is_id_start c) (list_all is_id_continue cs) is in
    let others = second_of_two (is_id_start c) (list_all is_id_continue cs) is in
    record {
      first = first-same c ∙ start;
      run = (refl, (identifier-same c ∙ first_continues c start, all_continue cs others), bars);
      bars = first_bars c start;
    }

pub identifier_held : (n : ℕ) (name rest : List ℕ) → is_identifier name ≡ true → Bars is_of_identifier rest → Within n (name ++ rest) → IsIdentifier n (name ++ rest) (located n (name ++ rest) rest name) rest
identifier_held n name rest is bars within =
    let b = begins name rest is bars in
    (b.first, b.run, located_at n (name ++ rest) rest name within (within_rest n name rest within))

-- a key before what is no character of one
no_key_gap : (w k a b d : Bool) → not (w || k || a || b || d) ≡ true → d || w ≡ false
no_key_gap true k a b d e = absurd (true≢false (sym e))
no_key_gap false true a b d e = absurd (true≢false (sym e))
no_key_gap false false true b d e = absurd (true≢false (sym e))
no_key_gap false false false true d e = absurd (true≢false (sym e))
no_key_gap false false false false true e = absurd (true≢false (sym e))
no_key_gap false false false false false e = refl

all_of_key : (cs : List ℕ) → list_all is_key cs ≡ true → AllPassTest (is_of_key 125) cs
all_of_key [] all = tt
all_of_key (c ∷ cs) all = (key-same c ∙ first_of_two (is_key c) (list_all is_key cs) all, all_of_key cs (second_of_two (is_key c) (list_all is_key cs) all))

pub key_bars : (key rest : List ℕ) → list_all is_key key ≡ true → Bars (λ c. eqb c percent_sign || is_whitespace c) rest → Bars (λ c. eqb c percent_sign || is_whitespace c) (key ++ rest)
key_bars [] rest all bars = bars
key_bars (c ∷ cs) rest all bars = no_key_gap (is_whitespace c) (is_control c) (eqb c 44) (eqb c 125) (eqb c 37) (first_of_two (is_key c) (list_all is_key cs) all)

pub key_held : (n : ℕ) (key rest : List ℕ) → list_all is_key key ≡ true → Bars (is_of_key 125) rest → Within n (key ++ rest) → IsKey n 125 (key ++ rest) (located n (key ++ rest) rest key) rest
key_held n key rest all bars within = ((refl, all_of_key key all, bars), located_at n (key ++ rest) rest key within (within_rest n key rest within))
