-- Characters of contents, run after run.
use Rattle.std.proofs.Common.{◌≡◌, ℕ, suc, ◌<◌, Bool, true, false, not, ◌||◌, ◌==◌, cond, List, [], ◌∷◌, ◌++◌, if◌then◌else◌, length, codes, refl, sym, ap, subst, ◌∙◌, true≢false, arith}
use Rattle.std.specs.Char.{is_ascii}
use Rattle.std.specs.Fmt.{WritesInCalls}
use Rattle.std.specs.List.{list_all}
use Rattle.std.specs.Str.{chars, IsUtf8}
use Rattle.std.proofs.lemmas.Bool.Decides.{nat_tests}
use Rattle.laws.specs.Characters.{backslash, circumflex, tilde, no_break_space}
use Rattle.laws.specs.Runs.{prefix_of, after, Bars}
use Rattle.laws.specs.Text.{text}
use Rattle.laws.proofs.Runs.{bars-after, length-after}
use Rattle.biblatex_content.specs.Verbatim.{is_escapable}
use Rattle.biblatex_content.specs.Writing.{escaped}
use Rattle.biblatex_writing.specs.ContentPieces.{written_in, spelled, is_special, stands_as_it_is, LeavesSpelled}
use Rattle.biblatex_writing.proofs.Calls.{nothing, one_ascii, one_text, more_characters, same_characters}

-- a character that is not special is written as it is
as_it_is : (v : Bool) (c : ℕ) → stands_as_it_is v c ≡ true → written_in v c ≡ c ∷ []
as_it_is true c e = by_test (is_escapable c true false) e
  where
    by_test : (b : Bool) → not b ≡ true → escaped b c ≡ c ∷ []
    by_test true e = absurd (true≢false (sym e))
    by_test false e = refl
as_it_is false c e = by_tests (c == backslash) (c == tilde) (c == circumflex) (c == no_break_space) (is_escapable c false false) e
  where
    by_tests : (a b d f g : Bool) → not (a || b || d || f || g) ≡ true
        → (if a then codes "\\textbackslash{}" else (if b then codes "\\textasciitilde{}" else (if d then codes "\\textasciicircum{}" else (if f then tilde ∷ [] else escaped g c)))) ≡ c ∷ []
    by_tests true b d f g e = absurd (true≢false (sym e))
    by_tests false true d f g e = absurd (true≢false (sym e))
    by_tests false false true f g e = absurd (true≢false (sym e))
    by_tests false false false true g e = absurd (true≢false (sym e))
    by_tests false false false false true e = absurd (true≢false (sym e))
    by_tests false false false false false e = refl

escapable_ascii : (v : Bool) (c : ℕ) → is_escapable c v false ≡ true → is_ascii c ≡ true
escapable_ascii true c e = grind (arith, nat_tests)
escapable_ascii false c e = grind (arith, nat_tests)

escaped_ascii : (c : ℕ) → is_ascii c ≡ true → list_all is_ascii (escaped true c) ≡ true
escaped_ascii c e = rw e refl

-- what is written of a special character is in ASCII
pub special_ascii : (v : Bool) (c : ℕ) → is_special v c ≡ true → list_all is_ascii (written_in v c) ≡ true
special_ascii true c e = rw e (escaped_ascii c (escapable_ascii true c e))
special_ascii false c e = by_tests (c == backslash) (c == tilde) (c == circumflex) (c == no_break_space) (is_escapable c false false) refl e
  where
    by_tests : (a b d f g : Bool) → is_escapable c false false ≡ g → (a || b || d || f || g) ≡ true
        → list_all is_ascii (if a then codes "\\textbackslash{}" else (if b then codes "\\textasciitilde{}" else (if d then codes "\\textasciicircum{}" else (if f then tilde ∷ [] else escaped g c)))) ≡ true
    by_tests true b d f g h e = refl
    by_tests false true d f g h e = refl
    by_tests false false true f g h e = refl
    by_tests false false false true g h e = refl
    by_tests false false false false true h e = escaped_ascii c (escapable_ascii false c h)
    by_tests false false false false false h e = absurd (true≢false (sym e))

-- a text is a run of characters that are written as they are, and what follows it
spelled-run : (v : Bool) (cs : List ℕ) → spelled v cs ≡ prefix_of (stands_as_it_is v) cs ++ spelled v (after (stands_as_it_is v) cs)
spelled-run v [] = refl
spelled-run v (c ∷ cs) = by_test (spelled-run v cs) (stands_as_it_is v c) refl
  where
    by_test : spelled v cs ≡ prefix_of (stands_as_it_is v) cs ++ spelled v (after (stands_as_it_is v) cs) → (b : Bool) → stands_as_it_is v c ≡ b
        → written_in v c ++ spelled v cs ≡ cond b (c ∷ prefix_of (stands_as_it_is v) cs) [] ++ spelled v (cond b (after (stands_as_it_is v) cs) (c ∷ cs))
    by_test more true e = ap (λ (x : List ℕ). x ++ spelled v cs) (as_it_is v c e) ∙ ap (λ (x : List ℕ). c ∷ x) more
    by_test more false e = refl

-- what follows a run begins with a special character
pub special_first : (v : Bool) (ds : List ℕ) (c : ℕ) (es : List ℕ) → Bars (stands_as_it_is v) ds → ds ≡ c ∷ es → is_special v c ≡ true
special_first v ds c es bars first = by_test (is_special v c) (subst (Bars (stands_as_it_is v)) first bars)
  where
    by_test : (b : Bool) → not b ≡ false → b ≡ true
    by_test true e = refl
    by_test false e = absurd (true≢false e)

-- no run begins in what follows one
pub barred : (v : Bool) (cs ds : List ℕ) → ds ≡ after (stands_as_it_is v) cs → Bars (stands_as_it_is v) ds
barred v cs ds rest = subst (Bars (stands_as_it_is v)) (sym rest) (bars-after (stands_as_it_is v) cs)

-- what follows the next run is shorter
pub is_shorter : (v : Bool) (ds : List ℕ) (c : ℕ) (es fs : List ℕ) → ds ≡ c ∷ es → fs ≡ after (stands_as_it_is v) es → length fs < length ds
is_shorter v ds c es fs first rest =
    let less = length-after (stands_as_it_is v) es in
    let all : length ds ≡ suc (length es) = ap length first in
    let left : length fs ≡ length (after (stands_as_it_is v) es) = ap length rest in
    omega (arith, less, all, left)

module _ {W : Type 0} (took : W → List ℕ → W → Type 0) where
  -- a run
  pub run_written : (v : Bool) (w : W) (all run rest : List ℕ) (m : W) → IsUtf8 run → chars run ≡ prefix_of (stands_as_it_is v) (chars all) → chars rest ≡ after (stands_as_it_is v) (chars all)
      → took w run m → LeavesSpelled took v w (chars all) m (chars rest)
  run_written v w all run rest m utf8 prefix follows t = λ u written.
      same_characters took w (chars run ++ spelled v (chars rest)) (spelled v (chars all)) u
      (ap (λ (x : List ℕ). x ++ spelled v (chars rest)) prefix
      ∙ ap (λ (x : List ℕ). prefix_of (stands_as_it_is v) (chars all) ++ spelled v x) follows
      ∙ sym (spelled-run v (chars all)))
      (more_characters took w (chars run) m (spelled v (chars rest)) u (one_text took w run m utf8 t) written)

  -- a special character
  pub special_written : (v : Bool) (w : W) (rest more : List ℕ) (c : ℕ) (spelling : List ℕ) (m : W) → Bars (stands_as_it_is v) (chars rest) → chars rest ≡ c ∷ chars more → spelling ≡ written_in v c
      → took w spelling m → LeavesSpelled took v w (chars rest) m (chars more)
  special_written v w rest more c spelling m bars first is t = λ u written.
      let ascii = special_ascii v c (special_first v (chars rest) c (chars more) bars first) in
      same_characters took w (written_in v c ++ spelled v (chars more)) (spelled v (chars rest)) u (ap (spelled v) (sym first))
      (more_characters took w (written_in v c) m (spelled v (chars more)) u (one_ascii took w spelling (written_in v c) m is ascii t) written)

  -- one after the other
  pub leaves_more : (v : Bool) (w : W) (cs : List ℕ) (m : W) (ds : List ℕ) (n : W) (es : List ℕ) → LeavesSpelled took v w cs m ds → LeavesSpelled took v m ds n es → LeavesSpelled took v w cs n es
  leaves_more v w cs m ds n es p q = λ u written. p u (q u written)

  -- nothing is left
  pub leaves_nothing : (v : Bool) (w : W) (cs : List ℕ) (m : W) (ds : List ℕ) → LeavesSpelled took v w cs m ds → ds ≡ [] → WritesInCalls took w (text (spelled v cs)) m
  leaves_nothing v w cs m ds p none = p m (nothing took m (text (spelled v ds)) (ap (λ (x : List ℕ). text (spelled v x)) none))
