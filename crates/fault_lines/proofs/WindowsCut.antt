-- Windows that are cut from a line.
use Rattle.std.proofs.Common.{◌≡◌, ◌<◌, ◌+◌, ◌-◌, ◌==◌, ℕ, zero, suc, Bool, true, false, not, cond, inl, inr, List, [], ◌∷◌, ◌++◌, flat_map, length, take, drop, refl, sym, ap, ap₂, ◌∙◌, arith, slice_index, take_all, length-take-le, append_assoc}
use Rattle.std.specs.Str.Lines.{strip_carriage_return}
use Rattle.std.specs.Prelude.{nat_lt}
use Rattle.std.proofs.lemmas.Bool.{cases_lt}
use Rattle.std.proofs.lemmas.List.{length-drop, take-take}
use Rattle.laws.specs.Characters.{line_feed}
use Rattle.laws.specs.Runs.{prefix_of}
use Rattle.source_positions.specs.Position.{shown_in_line}
use Rattle.fault_lines.specs.Windows.{left_out, reach, shown_before, side}

-- the run at the front of the first of some bytes
cut_run : (test : ℕ → Bool) (n : ℕ) (xs : List ℕ) → prefix_of test (take n xs) ≡ take n (prefix_of test xs)
cut_run test zero xs = refl
cut_run test (suc n) [] = refl
cut_run test (suc n) (x ∷ xs) = by_test (test x) (cut_run test n xs)
  where
    by_test : (b : Bool) → prefix_of test (take n xs) ≡ take n (prefix_of test xs) → cond b (x ∷ prefix_of test (take n xs)) [] ≡ take (suc n) (cond b (x ∷ prefix_of test xs) [])
    by_test true more = ap (λ (l : List ℕ). x ∷ l) more
    by_test false more = refl

-- the carriage return at the end of a line is none of its first bytes, where there are more
front_strip : (n : ℕ) (l : List ℕ) → n < length l → take n (strip_carriage_return l) ≡ take n l
front_strip n l long = by_return (slice_index l (length l - 1) == 13)
  where
    by_return : (b : Bool) → take n (cond b (take (length l - 1) l) l) ≡ take n l
    by_return true = take-take n (length l - 1) l (omega arith)
    by_return false = refl

front : (n : ℕ) (l : List ℕ) → take n (strip_carriage_return (take (n + 1) l)) ≡ take n (strip_carriage_return l)
front n l = elim (cases_lt (n + 1) (length l)) [
  | inl more ↦ (
      let long : length (take (n + 1) l) ≡ n + 1 = length-take-le (n + 1) l (omega arith) in
      front_strip n (take (n + 1) l) (omega arith) ∙ (take-take n (n + 1) l (omega arith) ∙ sym (front_strip n l (omega arith))))
  | inr all ↦ ap (λ (k : List ℕ). take n (strip_carriage_return k)) (take_all (n + 1) l all)
]

-- the first bytes of what is left of a line, by one more byte than they are
pub near_end : (rest : List ℕ) → take reach (strip_carriage_return (prefix_of (λ b. not (b == line_feed)) (take (reach + 1) rest))) ≡ take reach (strip_carriage_return (prefix_of (λ b. not (b == line_feed)) rest))
near_end rest = ap (λ (l : List ℕ). take reach (strip_carriage_return l)) (cut_run (λ b. not (b == line_feed)) (reach + 1) rest) ∙ front reach (prefix_of (λ b. not (b == line_feed)) rest)

-- the last characters are as many as are shown, at most
pub last_ones : (cs : List ℕ) → take side (drop (length cs - side) cs) ≡ drop (length cs - side) cs
last_ones cs = let left = length-drop (length cs - side) cs in take_all side (drop (length cs - side) cs) (omega arith)

-- one more of the first characters of a line, and none
pub put_first : (start old new rest more : List ℕ) (c left : ℕ) → 0 < left → old ++ flat_map shown_in_line (take left rest) ≡ start → rest ≡ c ∷ more → new ≡ old ++ shown_in_line c
    → new ++ flat_map shown_in_line (take (left - 1) more) ≡ start
put_first start old new rest more c zero some so_far next e = absurd (omega arith)
put_first start old new rest more c (suc n) some so_far next e =
    let less : suc n - 1 ≡ n = omega arith in
    rw less
    (ap (λ (t : List ℕ). t ++ flat_map shown_in_line (take n more)) e
    ∙ (append_assoc old (shown_in_line c) (flat_map shown_in_line (take n more))
    ∙ (ap (λ (t : List ℕ). old ++ flat_map shown_in_line (take (suc n) t)) (sym next) ∙ so_far)))

-- what is shown of characters before a position, once it is appended
pub before_put : (start line new rest cs : List ℕ) (count : ℕ) → count ≡ length cs → rest ≡ drop (count - side) cs → line ≡ start ++ left_out (nat_lt side count)
    → new ≡ line ++ flat_map shown_in_line (take side rest) → new ≡ start ++ shown_before cs
before_put start line new rest cs count counted past left put =
    let last : take side rest ≡ drop (length cs - side) cs = ap (take side) (past ∙ ap (λ (n : ℕ). drop (n - side) cs) counted) ∙ last_ones cs in
    let cut : line ≡ start ++ left_out (nat_lt side (length cs)) = left ∙ ap (λ (n : ℕ). start ++ left_out (nat_lt side n)) counted in
    put ∙ (ap₂ (λ (l t : List ℕ). l ++ flat_map shown_in_line t) cut last
    ∙ append_assoc start (left_out (nat_lt side (length cs))) (flat_map shown_in_line (drop (length cs - side) cs)))
