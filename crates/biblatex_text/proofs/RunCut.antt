-- Cutting a text where a run ends, character by character.
use Rattle.std.proofs.Common.{◌≡◌, ℕ, ◌+◌, ◌≤◌, Some, None, List, [], ◌∷◌, ◌++◌, length, take, drop, refl, sym, ap, ◌∙◌, subst, append_assoc, arith}
use Rattle.std.specs.Prelude.{encode_utf8}
use Rattle.std.specs.Str.{chars, IsUtf8}
use Rattle.std.proofs.lemmas.Str.{chars_past_char, chars-append, chars-nil, IsUtf8-past_char, IsUtf8-append, IsUtf8-nil}
use Rattle.std.proofs.lemmas.List.{length-append, append-nil, nil_from_length, take_at, drop_at}
use Rattle.laws.proofs.Cut.{IsUtf8-first}
use Rattle.biblatex_text.specs.Run.{next, depth_of, prefix_of, after}
use Rattle.biblatex_text.specs.declared.run.Run.{Run}

-- The run that started has come so far: the prefix of a length that it took, and the rest of the text.
pub record Runs (start run : Run) (whole rest : List ℕ) (end : ℕ) : Type 0 where
  pub prefix_text : List ℕ
  pub parts : whole ≡ prefix_text ++ rest
  pub long : length prefix_text ≡ end
  pub depth : depth_of run ≤ end
  pub rest_utf8 : IsUtf8 rest
  pub prefix_utf8 : IsUtf8 prefix_text
  pub prefix : prefix_of start (chars whole) ≡ chars prefix_text ++ prefix_of run (chars rest)
  pub rest_is : after start (chars whole) ≡ after run (chars rest)

pub runs_none : (start : Run) (whole : List ℕ) → depth_of start ≡ 0 → IsUtf8 whole → Runs start start whole whole 0
runs_none start whole d u = record { prefix_text = []; parts = refl; long = refl; depth = omega arith; rest_utf8 = u; prefix_utf8 = IsUtf8-nil; prefix = rw chars-nil refl; rest_is = refl }

-- one more character goes on with the run
pub runs_more : (start run then : Run) (whole rest more : List ℕ) (end c : ℕ) → Runs start run whole rest end → rest ≡ encode_utf8 c ++ more → next run c ≡ Some then
    → depth_of then ≤ end + length (encode_utf8 c) → Runs start then whole more (end + length (encode_utf8 c))
runs_more start run then whole rest more end c r e goes deep =
    let one : IsUtf8 (encode_utf8 c) = IsUtf8-first rest more c r.rest_utf8 e in
    let long = r.long in
    let now : chars rest ≡ c ∷ chars more = chars_past_char rest more c r.rest_utf8 e in
    let single : chars (encode_utf8 c) ≡ c ∷ [] = chars_past_char (encode_utf8 c) [] c one (sym (append-nil (encode_utf8 c))) ∙ rw chars-nil refl in
    let longer : chars (r.prefix_text ++ encode_utf8 c) ≡ chars r.prefix_text ++ c ∷ [] = chars-append r.prefix_text (encode_utf8 c) r.prefix_utf8 ∙ rw single refl in
    let begins : prefix_of run (chars rest) ≡ c ∷ prefix_of then (chars more) = ap (prefix_of run) now ∙ rw goes refl in
    let ends : after run (chars rest) ≡ after then (chars more) = ap (after run) now ∙ rw goes refl in
    record {
      prefix_text = r.prefix_text ++ encode_utf8 c;
      parts = r.parts ∙ rw e (sym (append_assoc r.prefix_text (encode_utf8 c) more));
      long = omega (arith, length-append r.prefix_text (encode_utf8 c));
      depth = deep;
      rest_utf8 = IsUtf8-past_char rest more c r.rest_utf8 e;
      prefix_utf8 = IsUtf8-append r.prefix_text (encode_utf8 c) r.prefix_utf8 one;
      prefix = r.prefix ∙ rw (begins, longer) (sym (append_assoc (chars r.prefix_text) (c ∷ []) (prefix_of then (chars more))));
      rest_is = r.rest_is ∙ ends;
    }

-- where a text is cut at the end of its run
pub record CutsRun (start : Run) (whole prefix back : List ℕ) : Type 0 where
  pub parts : whole ≡ prefix ++ back
  pub utf8 : IsUtf8 back
  pub prefix_is : chars prefix ≡ prefix_of start (chars whole)
  pub back_is : chars back ≡ after start (chars whole)

cut_at : (start run : Run) (whole rest : List ℕ) (end : ℕ) → Runs start run whole rest end → prefix_of run (chars rest) ≡ [] → after run (chars rest) ≡ chars rest
    → CutsRun start whole (take end whole) (drop end whole)
cut_at start run whole rest end r none all =
    let prefix : take end whole ≡ r.prefix_text = rw r.parts (take_at r.prefix_text rest end r.long) in
    let back : drop end whole ≡ rest = rw r.parts (drop_at r.prefix_text rest end r.long) in
    record {
      parts = rw (prefix, back) r.parts;
      utf8 = subst IsUtf8 (sym back) r.rest_utf8;
      prefix_is = rw prefix (sym (r.prefix ∙ rw none (append-nil (chars r.prefix_text))));
      back_is = rw back (sym (r.rest_is ∙ all));
    }

-- the run ends before the next character
pub stops_before : (start run : Run) (whole rest more : List ℕ) (end c : ℕ) → Runs start run whole rest end → rest ≡ encode_utf8 c ++ more → next run c ≡ None
    → CutsRun start whole (take end whole) (drop end whole)
stops_before start run whole rest more end c r e ends =
    let now : chars rest ≡ c ∷ chars more = chars_past_char rest more c r.rest_utf8 e in
    cut_at start run whole rest end r (ap (prefix_of run) now ∙ rw ends refl) (ap (after run) now ∙ (let same : after run (c ∷ chars more) ≡ c ∷ chars more = rw ends refl in same ∙ sym now))

-- the text is at its end
pub stops_at_end : (start run : Run) (whole rest : List ℕ) (end : ℕ) → Runs start run whole rest end → length rest ≡ 0 → CutsRun start whole (take (length whole) whole) (drop (length whole) whole)
stops_at_end start run whole rest end r none =
    let all : end ≡ length whole = omega (arith, r.long, ap length r.parts, length-append r.prefix_text rest) in
    let empty : rest ≡ [] = nil_from_length rest none in
    let nothing : chars rest ≡ [] = ap chars empty ∙ chars-nil in
    subst (λ n. CutsRun start whole (take n whole) (drop n whole)) all (cut_at start run whole rest end r (ap (prefix_of run) nothing) (ap (after run) nothing ∙ sym nothing))
