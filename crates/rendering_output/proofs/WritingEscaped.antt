-- Texts with four characters by their names, run after run.
use Rattle.std.proofs.Common.{◌≡◌, ℕ, suc, ◌<◌, Bool, true, false, not, ◌||◌, ◌==◌, cond, List, [], ◌∷◌, ◌++◌, if◌then◌else◌, length, codes, refl, sym, ap, subst, ◌∙◌, true≢false, arith}
use Rattle.std.specs.Char.{is_ascii}
use Rattle.std.specs.List.{list_all}
use Rattle.std.specs.Str.{chars, IsUtf8}
use Rattle.laws.specs.Characters.{double_quote, ampersand, less_than_sign, greater_than_sign}
use Rattle.laws.specs.Runs.{prefix_of, after, Bars}
use Rattle.laws.proofs.Runs.{bars-after, length-after}
use Rattle.rendering_output.specs.Writing.{escaped, escaped_character, has_name, stands_as_it_is, LeavesEscaped, WritesCharacters}
use Rattle.rendering_output.proofs.WritingCalls.{writes_ascii, writes_more, writes_nothing, writes_text}

-- a character without a name is written as it is
as_it_is : (c : ℕ) → stands_as_it_is c ≡ true → escaped_character c ≡ c ∷ []
as_it_is c e = by_tests (c == ampersand) (c == less_than_sign) (c == greater_than_sign) (c == double_quote) e
  where
    by_tests : (a b d f : Bool) → not (a || b || d || f) ≡ true
        → (if a then codes "&amp;" else (if b then codes "&lt;" else (if d then codes "&gt;" else (if f then codes "&quot;" else c ∷ [])))) ≡ c ∷ []
    by_tests true b d f e = absurd (true≢false (sym e))
    by_tests false true d f e = absurd (true≢false (sym e))
    by_tests false false true f e = absurd (true≢false (sym e))
    by_tests false false false true e = absurd (true≢false (sym e))
    by_tests false false false false e = refl

-- a name is in ASCII
name_ascii : (c : ℕ) → has_name c ≡ true → list_all is_ascii (escaped_character c) ≡ true
name_ascii c e = by_tests (c == ampersand) (c == less_than_sign) (c == greater_than_sign) (c == double_quote) e
  where
    by_tests : (a b d f : Bool) → (a || b || d || f) ≡ true
        → list_all is_ascii (if a then codes "&amp;" else (if b then codes "&lt;" else (if d then codes "&gt;" else (if f then codes "&quot;" else c ∷ [])))) ≡ true
    by_tests true b d f e = refl
    by_tests false true d f e = refl
    by_tests false false true f e = refl
    by_tests false false false true e = refl
    by_tests false false false false e = absurd (true≢false (sym e))

-- a text is a run without names, and what follows it
escaped-run : (cs : List ℕ) → escaped cs ≡ prefix_of stands_as_it_is cs ++ escaped (after stands_as_it_is cs)
escaped-run [] = refl
escaped-run (c ∷ cs) = by_test (escaped-run cs) (stands_as_it_is c) refl
  where
    by_test : escaped cs ≡ prefix_of stands_as_it_is cs ++ escaped (after stands_as_it_is cs) → (b : Bool) → stands_as_it_is c ≡ b
        → escaped_character c ++ escaped cs ≡ cond b (c ∷ prefix_of stands_as_it_is cs) [] ++ escaped (cond b (after stands_as_it_is cs) (c ∷ cs))
    by_test more true e = ap (λ (x : List ℕ). x ++ escaped cs) (as_it_is c e) ∙ ap (λ (x : List ℕ). c ∷ x) more
    by_test more false e = refl

-- what follows a run begins with a character that has a name
pub is_named : (ds : List ℕ) (c : ℕ) (es : List ℕ) → Bars stands_as_it_is ds → ds ≡ c ∷ es → has_name c ≡ true
is_named ds c es bars first = by_name (has_name c) (subst (Bars stands_as_it_is) first bars)
  where
    by_name : (b : Bool) → not b ≡ false → b ≡ true
    by_name true e = refl
    by_name false e = absurd (true≢false e)

-- no run begins in what follows one
pub barred : (cs ds : List ℕ) → ds ≡ after stands_as_it_is cs → Bars stands_as_it_is ds
barred cs ds rest = subst (Bars stands_as_it_is) (sym rest) (bars-after stands_as_it_is cs)

-- what follows the next run is shorter
pub is_shorter : (ds : List ℕ) (c : ℕ) (es fs : List ℕ) → ds ≡ c ∷ es → fs ≡ after stands_as_it_is es → length fs < length ds
is_shorter ds c es fs first rest =
    let less = length-after stands_as_it_is es in
    let all : length ds ≡ suc (length es) = ap length first in
    let left : length fs ≡ length (after stands_as_it_is es) = ap length rest in
    omega (arith, less, all, left)

module _ {W : Type 0} (took : W → List ℕ → W → Type 0) where
  -- a run
  pub run_written : (w : W) (text run rest : List ℕ) (v : W) → IsUtf8 run → chars run ≡ prefix_of stands_as_it_is (chars text) → chars rest ≡ after stands_as_it_is (chars text)
      → took w run v → LeavesEscaped took w (chars text) v (chars rest)
  run_written w text run rest v utf8 prefix follows t = λ u written.
      let whole : chars run ++ escaped (chars rest) ≡ escaped (chars text) =
      ap (λ (x : List ℕ). x ++ escaped (chars rest)) prefix
      ∙ ap (λ (x : List ℕ). prefix_of stands_as_it_is (chars text) ++ escaped x) follows
      ∙ sym (escaped-run (chars text)) in
      subst (λ (cs : List ℕ). WritesCharacters took w cs u) whole (writes_more took w (chars run) v (escaped (chars rest)) u (writes_text took w run v utf8 t) written)

  -- a name
  pub name_written : (w : W) (rest more : List ℕ) (c : ℕ) (name : List ℕ) (v : W) → Bars stands_as_it_is (chars rest) → chars rest ≡ c ∷ chars more → name ≡ escaped_character c
      → took w name v → LeavesEscaped took w (chars rest) v (chars more)
  name_written w rest more c name v bars first named t = λ u written.
      let ascii = name_ascii c (is_named (chars rest) c (chars more) bars first) in
      let spelled = writes_ascii took w (escaped_character c) v ascii (subst (λ (x : List ℕ). took w x v) named t) in
      subst (λ (cs : List ℕ). WritesCharacters took w (escaped cs) u) (sym first) (writes_more took w (escaped_character c) v (escaped (chars more)) u spelled written)

  -- one after the other
  pub leaves_more : (w : W) (cs : List ℕ) (m : W) (ds : List ℕ) (v : W) (es : List ℕ) → LeavesEscaped took w cs m ds → LeavesEscaped took m ds v es → LeavesEscaped took w cs v es
  leaves_more w cs m ds v es p q = λ u written. p u (q u written)

  -- nothing is left
  pub leaves_nothing : (w : W) (cs : List ℕ) (v : W) (ds : List ℕ) → LeavesEscaped took w cs v ds → ds ≡ [] → WritesCharacters took w (escaped cs) v
  leaves_nothing w cs v ds p none = p v (subst (λ (x : List ℕ). WritesCharacters took v (escaped x) v) (sym none) (writes_nothing took v))
