-- Cutting a text before the next mark, character by character.
use Rattle.std.proofs.Common.{◌≡◌, ℕ, zero, suc, ◌+◌, ◌<◌, Bool, true, false, true≢false, ◌==◌, ◌&&◌, ◌||◌, List, [], ◌∷◌, ◌++◌, length, take, drop, refl, sym, ap, ◌∙◌, subst, append_assoc, ltb, arith}
use Rattle.std.specs.Prelude.{encode_utf8}
use Rattle.std.specs.Str.{chars, IsUtf8}
use Rattle.std.proofs.lemmas.Bool.{lt-ltb, ltb-true, and_parts}
use Rattle.std.proofs.lemmas.Str.{chars_past_char, chars-append, chars-nil, IsUtf8-past_char, IsUtf8-append, IsUtf8-nil, length-encode, len_utf8_bounds}
use Rattle.std.proofs.lemmas.List.{length-append, append-nil, nil_from_length, take_at, drop_at}
use Rattle.laws.specs.Characters.{open_bracket, backslash}
use Rattle.laws.proofs.Cut.{IsUtf8-first}
use Rattle.cite_markers.specs.Document.{is_opening_or_escape, is_opening, may_begin_opening_or_escape, plain, from_opening_or_escape, prefix_text, after_text}
use Rattle.cite_markers.specs.Marker.{opening_at}

-- what a prefix of so many bytes goes on with, and what is left after that: the first character needs no test
abbrev pub onward : ℕ → List ℕ → List ℕ
onward zero cs = prefix_text cs
onward (suc n) cs = plain cs

abbrev pub beyond : ℕ → List ℕ → List ℕ
beyond zero cs = after_text cs
beyond (suc n) cs = from_opening_or_escape cs

-- the front that was passed, and the rest of the text
pub record Prefixes (whole rest : List ℕ) (end : ℕ) : Type 0 where
  pub passed : List ℕ
  pub parts : whole ≡ passed ++ rest
  pub long : length passed ≡ end
  pub rest_utf8 : IsUtf8 rest
  pub passed_utf8 : IsUtf8 passed
  pub prefix : prefix_text (chars whole) ≡ chars passed ++ onward end (chars rest)
  pub rest_is : after_text (chars whole) ≡ beyond end (chars rest)

onward_on : (n : ℕ) (cs : List ℕ) → 0 < n → onward n cs ≡ plain cs
onward_on zero cs more = absurd (omega arith)
onward_on (suc n) cs more = refl

beyond_on : (n : ℕ) (cs : List ℕ) → 0 < n → beyond n cs ≡ from_opening_or_escape cs
beyond_on zero cs more = absurd (omega arith)
beyond_on (suc n) cs more = refl

and_false : (a b : Bool) → b ≡ false → a && b ≡ false
and_false true b h = h
and_false false b h = refl

or_false : (a b : Bool) → a || b ≡ false → (a ≡ false) × (b ≡ false)
or_false true b h = absurd (true≢false h)
or_false false b h = (refl, h)

unmarked : (n : ℕ) (cs : List ℕ) → ltb 0 (suc n) && is_opening_or_escape cs ≡ false → is_opening_or_escape cs ≡ false
unmarked n cs h =
    let t : ltb 0 (suc n) ≡ true = lt-ltb 0 (suc n) (omega arith) in
    rw t at h

onward_more : (end n c : ℕ) (cs : List ℕ) → 0 < n → ltb 0 end && is_opening_or_escape (c ∷ cs) ≡ false → onward end (c ∷ cs) ≡ c ∷ onward (end + n) cs
onward_more zero n c cs more h = ap (λ x. c ∷ x) (sym (onward_on (0 + n) cs (omega arith)))
onward_more (suc end) n c cs more h =
    let f = unmarked end (c ∷ cs) h in
    let here : plain (c ∷ cs) ≡ c ∷ plain cs = rw f refl in
    here ∙ ap (λ x. c ∷ x) (sym (onward_on (suc end + n) cs (omega arith)))

beyond_more : (end n c : ℕ) (cs : List ℕ) → 0 < n → ltb 0 end && is_opening_or_escape (c ∷ cs) ≡ false → beyond end (c ∷ cs) ≡ beyond (end + n) cs
beyond_more zero n c cs more h = sym (beyond_on (0 + n) cs (omega arith))
beyond_more (suc end) n c cs more h =
    let f = unmarked end (c ∷ cs) h in
    let here : from_opening_or_escape (c ∷ cs) ≡ from_opening_or_escape cs = rw f refl in
    here ∙ sym (beyond_on (suc end + n) cs (omega arith))

pub prefixes_none : (whole : List ℕ) → IsUtf8 whole → Prefixes whole whole 0
prefixes_none whole u = record { passed = []; parts = refl; long = refl; rest_utf8 = u; passed_utf8 = IsUtf8-nil; prefix = rw chars-nil refl; rest_is = refl }

-- one more character is passed
pub prefixes_more : (whole rest more : List ℕ) (end c : ℕ) → Prefixes whole rest end → rest ≡ encode_utf8 c ++ more → ltb 0 end && is_opening_or_escape (chars (drop end whole)) ≡ false
    → Prefixes whole more (end + length (encode_utf8 c))
prefixes_more whole rest more end c r e h =
    let long = r.long in
    let one : IsUtf8 (encode_utf8 c) = IsUtf8-first rest more c r.rest_utf8 e in
    let next : chars rest ≡ c ∷ chars more = chars_past_char rest more c r.rest_utf8 e in
    let single : chars (encode_utf8 c) ≡ c ∷ [] = chars_past_char (encode_utf8 c) [] c one (sym (append-nil (encode_utf8 c))) ∙ rw chars-nil refl in
    let longer : chars (r.passed ++ encode_utf8 c) ≡ chars r.passed ++ c ∷ [] = chars-append r.passed (encode_utf8 c) r.passed_utf8 ∙ rw single refl in
    let some : 0 < length (encode_utf8 c) = omega (arith, length-encode c, len_utf8_bounds c) in
    let back : drop end whole ≡ rest = rw r.parts (drop_at r.passed rest end r.long) in
    let test : ltb 0 end && is_opening_or_escape (c ∷ chars more) ≡ false = subst (λ x. ltb 0 end && is_opening_or_escape x ≡ false) (ap chars back ∙ next) h in
    let goes : onward end (chars rest) ≡ c ∷ onward (end + length (encode_utf8 c)) (chars more) = ap (onward end) next ∙ onward_more end (length (encode_utf8 c)) c (chars more) some test in
    let leaves : beyond end (chars rest) ≡ beyond (end + length (encode_utf8 c)) (chars more) = ap (beyond end) next ∙ beyond_more end (length (encode_utf8 c)) c (chars more) some test in
    record {
      passed = r.passed ++ encode_utf8 c;
      parts = r.parts ∙ rw e (sym (append_assoc r.passed (encode_utf8 c) more));
      long = omega (arith, length-append r.passed (encode_utf8 c));
      rest_utf8 = IsUtf8-past_char rest more c r.rest_utf8 e;
      passed_utf8 = IsUtf8-append r.passed (encode_utf8 c) r.passed_utf8 one;
      prefix = r.prefix ∙ (ap (λ x. chars r.passed ++ x) goes ∙ (sym (append_assoc (chars r.passed) (c ∷ []) (onward (end + length (encode_utf8 c)) (chars more))) ∙ ap (λ x. x ++ onward (end + length (encode_utf8 c)) (chars more)) (sym longer)));
      rest_is = r.rest_is ∙ leaves;
    }

-- no mark begins with another character than a bracket or a backslash
none_begins : (c : ℕ) (cs : List ℕ) → may_begin_opening_or_escape c ≡ false → is_opening_or_escape (c ∷ cs) ≡ false
unfolding is_opening opening_at
none_begins c cs h =
    let t = or_false (c == open_bracket) (c == backslash) h in
    rw t.0 (rw t.1 refl)

-- one more character is passed, with which no mark begins
pub prefixes_plain : (whole rest more : List ℕ) (end c : ℕ) → Prefixes whole rest end → rest ≡ encode_utf8 c ++ more → may_begin_opening_or_escape c ≡ false
    → Prefixes whole more (end + length (encode_utf8 c))
prefixes_plain whole rest more end c r e h =
    let back : drop end whole ≡ rest = rw r.parts (drop_at r.passed rest end r.long) in
    let next : chars rest ≡ c ∷ chars more = chars_past_char rest more c r.rest_utf8 e in
    prefixes_more whole rest more end c r e (and_false (ltb 0 end) (is_opening_or_escape (chars (drop end whole))) (ap is_opening_or_escape (ap chars back ∙ next) ∙ none_begins c (chars more) h))

-- where a text is cut
pub record CutsPrefix (whole prefix back : List ℕ) : Type 0 where
  pub prefix_is : chars prefix ≡ prefix_text (chars whole)
  pub back_is : chars back ≡ after_text (chars whole)

cut_at : (whole rest : List ℕ) (end : ℕ) → Prefixes whole rest end → onward end (chars rest) ≡ [] → beyond end (chars rest) ≡ chars rest → CutsPrefix whole (take end whole) (drop end whole)
cut_at whole rest end r none all =
    let prefix : take end whole ≡ r.passed = rw r.parts (take_at r.passed rest end r.long) in
    let back : drop end whole ≡ rest = rw r.parts (drop_at r.passed rest end r.long) in
    record {
      prefix_is = rw prefix (sym (r.prefix ∙ rw none (append-nil (chars r.passed))));
      back_is = rw back (sym (r.rest_is ∙ all));
    }

marked_plain : (cs : List ℕ) → is_opening_or_escape cs ≡ true → plain cs ≡ []
marked_plain [] h = refl
marked_plain (c ∷ cs) h = rw h refl

marked_from : (cs : List ℕ) → is_opening_or_escape cs ≡ true → from_opening_or_escape cs ≡ cs
marked_from [] h = refl
marked_from (c ∷ cs) h = rw h refl

-- a mark stands there
pub stops_before : (whole rest : List ℕ) (end : ℕ) → Prefixes whole rest end → ltb 0 end && is_opening_or_escape (chars (drop end whole)) ≡ true → CutsPrefix whole (take end whole) (drop end whole)
stops_before whole rest end r h =
    let t = and_parts (ltb 0 end) (is_opening_or_escape (chars (drop end whole))) h in
    let some : 0 < end = ltb-true 0 end t.0 in
    let back : drop end whole ≡ rest = rw r.parts (drop_at r.passed rest end r.long) in
    let mark : is_opening_or_escape (chars rest) ≡ true = subst (λ x. is_opening_or_escape (chars x) ≡ true) back t.1 in
    cut_at whole rest end r (onward_on end (chars rest) some ∙ marked_plain (chars rest) mark) (beyond_on end (chars rest) some ∙ marked_from (chars rest) mark)

nothing_onward : (end : ℕ) → onward end [] ≡ []
nothing_onward zero = refl
nothing_onward (suc n) = refl

nothing_beyond : (end : ℕ) → beyond end [] ≡ []
nothing_beyond zero = refl
nothing_beyond (suc n) = refl

-- the text is at its end
pub stops_at_end : (whole rest : List ℕ) (end : ℕ) → Prefixes whole rest end → length rest ≡ 0 → CutsPrefix whole (take (length whole) whole) (drop (length whole) whole)
stops_at_end whole rest end r none =
    let all : end ≡ length whole = omega (arith, r.long, ap length r.parts, length-append r.passed rest) in
    let empty : rest ≡ [] = nil_from_length rest none in
    let nothing : chars rest ≡ [] = ap chars empty ∙ chars-nil in
    subst (λ n. CutsPrefix whole (take n whole) (drop n whole)) all (cut_at whole rest end r (ap (onward end) nothing ∙ nothing_onward end) (ap (beyond end) nothing ∙ (nothing_beyond end ∙ sym nothing)))
