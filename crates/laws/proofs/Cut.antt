-- Cutting a text where the longest run of a test ends, character by character.
use Rattle.std.proofs.Common.{◌≡◌, ℕ, ◌+◌, Bool, true, false, ◌&&◌, List, [], ◌∷◌, ◌++◌, length, take, drop, refl, sym, ap, ◌∙◌, subst, append_assoc, arith}
use Rattle.std.specs.Prelude.{encode_utf8}
use Rattle.std.specs.Str.{chars, IsUtf8, all_scalars}
use Rattle.std.proofs.lemmas.Str.{chars_past_char, chars-append, chars-nil, IsUtf8-past_char, IsUtf8-append, IsUtf8-nil, cons_from_encodes}
use Rattle.std.proofs.lemmas.List.{length-append, append-nil, nil_from_length, take_at, drop_at}
use Rattle.laws.specs.Runs.{prefix_of, after}

-- the prefix of a length that has passed, and the rest of the text
pub record Runs (test : ℕ → Bool) (whole rest : List ℕ) (end : ℕ) : Type 0 where
  pub prefix_text : List ℕ
  pub parts : whole ≡ prefix_text ++ rest
  pub long : length prefix_text ≡ end
  pub rest_utf8 : IsUtf8 rest
  pub prefix_utf8 : IsUtf8 prefix_text
  pub prefix : prefix_of test (chars whole) ≡ chars prefix_text ++ prefix_of test (chars rest)
  pub rest_is : after test (chars whole) ≡ after test (chars rest)

first_true : (a b : Bool) → a && b ≡ true → a ≡ true
first_true true b e = refl
first_true false b e = absurd cc

and_true : (a : Bool) → a ≡ true → a && true ≡ true
and_true a e = rw e refl

-- the first character of a text is a text
pub IsUtf8-first : (whole rest : List ℕ) (c : ℕ) → IsUtf8 whole → whole ≡ encode_utf8 c ++ rest → IsUtf8 (encode_utf8 c)
IsUtf8-first whole rest c u e =
    let k = cons_from_encodes u.0 rest c (u.1.1 ∙ e) in
    let all : all_scalars (c ∷ k.0) ≡ true = subst (λ (x : List ℕ). all_scalars x ≡ true) k.1 u.1.0 in
    (c ∷ [], (and_true _ (first_true _ _ all), append-nil (encode_utf8 c)))

pub runs_none : (test : ℕ → Bool) (whole : List ℕ) → IsUtf8 whole → Runs test whole whole 0
runs_none test whole u = record { prefix_text = []; parts = refl; long = refl; rest_utf8 = u; prefix_utf8 = IsUtf8-nil; prefix = rw chars-nil refl; rest_is = refl }

-- a run goes on past a character that passes
pub runs_more : (test : ℕ → Bool) (whole rest more : List ℕ) (end c : ℕ) → Runs test whole rest end → rest ≡ encode_utf8 c ++ more → test c ≡ true
    → Runs test whole more (end + length (encode_utf8 c))
runs_more test whole rest more end c r e passes =
    let one : IsUtf8 (encode_utf8 c) = IsUtf8-first rest more c r.rest_utf8 e in
    let long = r.long in
    let next : chars rest ≡ c ∷ chars more = chars_past_char rest more c r.rest_utf8 e in
    let single : chars (encode_utf8 c) ≡ c ∷ [] = chars_past_char (encode_utf8 c) [] c one (sym (append-nil (encode_utf8 c))) ∙ rw chars-nil refl in
    let longer : chars (r.prefix_text ++ encode_utf8 c) ≡ chars r.prefix_text ++ c ∷ [] = chars-append r.prefix_text (encode_utf8 c) r.prefix_utf8 ∙ rw single refl in
    let begins : prefix_of test (chars rest) ≡ c ∷ prefix_of test (chars more) = ap (prefix_of test) next ∙ rw passes refl in
    let ends : after test (chars rest) ≡ after test (chars more) = ap (after test) next ∙ rw passes refl in
    record {
      prefix_text = r.prefix_text ++ encode_utf8 c;
      parts = r.parts ∙ rw e (sym (append_assoc r.prefix_text (encode_utf8 c) more));
      long = omega (arith, length-append r.prefix_text (encode_utf8 c));
      rest_utf8 = IsUtf8-past_char rest more c r.rest_utf8 e;
      prefix_utf8 = IsUtf8-append r.prefix_text (encode_utf8 c) r.prefix_utf8 one;
      prefix = r.prefix ∙ rw (begins, longer) (sym (append_assoc (chars r.prefix_text) (c ∷ []) (prefix_of test (chars more))));
      rest_is = r.rest_is ∙ ends;
    }

-- where a text is cut at the end of its run
pub record CutsRun (test : ℕ → Bool) (whole prefix back : List ℕ) : Type 0 where
  pub parts : whole ≡ prefix ++ back
  pub prefix_is : chars prefix ≡ prefix_of test (chars whole)
  pub back_is : chars back ≡ after test (chars whole)

cut_at : (test : ℕ → Bool) (whole rest : List ℕ) (end : ℕ) → Runs test whole rest end → prefix_of test (chars rest) ≡ [] → after test (chars rest) ≡ chars rest
    → CutsRun test whole (take end whole) (drop end whole)
cut_at test whole rest end r none all =
    let prefix : take end whole ≡ r.prefix_text = rw r.parts (take_at r.prefix_text rest end r.long) in
    let back : drop end whole ≡ rest = rw r.parts (drop_at r.prefix_text rest end r.long) in
    record {
      parts = rw (prefix, back) r.parts;
      prefix_is = rw prefix (sym (r.prefix ∙ rw none (append-nil (chars r.prefix_text))));
      back_is = rw back (sym (r.rest_is ∙ all));
    }

-- a text is cut where the next character does not pass
pub stops_before : (test : ℕ → Bool) (whole rest more : List ℕ) (end c : ℕ) → Runs test whole rest end → rest ≡ encode_utf8 c ++ more → test c ≡ false
    → CutsRun test whole (take end whole) (drop end whole)
stops_before test whole rest more end c r e fails =
    let next : chars rest ≡ c ∷ chars more = chars_past_char rest more c r.rest_utf8 e in
    cut_at test whole rest end r (ap (prefix_of test) next ∙ rw fails refl) (ap (after test) next ∙ (let same : after test (c ∷ chars more) ≡ c ∷ chars more = rw fails refl in same ∙ sym next))

-- a text is cut at its end where all of it passes
pub stops_at_end : (test : ℕ → Bool) (whole rest : List ℕ) (end : ℕ) → Runs test whole rest end → length rest ≡ 0 → CutsRun test whole (take (length whole) whole) (drop (length whole) whole)
stops_at_end test whole rest end r none =
    let all : end ≡ length whole = omega (arith, r.long, ap length r.parts, length-append r.prefix_text rest) in
    let empty : rest ≡ [] = nil_from_length rest none in
    let nothing : chars rest ≡ [] = ap chars empty ∙ chars-nil in
    subst (λ n. CutsRun test whole (take n whole) (drop n whole)) all (cut_at test whole rest end r (ap (prefix_of test) nothing) (ap (after test) nothing ∙ sym nothing))
