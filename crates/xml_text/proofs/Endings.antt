-- Cutting a text where it ends, character by character.
use Rattle.std.proofs.Common.{◌≡◌, ℕ, ◌+◌, Bool, true, false, true≢false, eqb, ◌||◌, not, List, [], ◌∷◌, ◌++◌, length, take, drop, refl, sym, ap, ◌∙◌, subst, append_assoc, arith}
use Rattle.std.specs.Prelude.{encode_utf8}
use Rattle.std.specs.Str.{chars, IsUtf8}
use Rattle.std.proofs.lemmas.Str.{chars_past_char, chars-append, chars-nil, IsUtf8-past_char, IsUtf8-append, IsUtf8-nil}
use Rattle.std.proofs.lemmas.List.{length-append, append-nil, nil_from_length, take_at, drop_at}
use Rattle.laws.proofs.Cut.{IsUtf8-first}
use Rattle.xml_text.specs.Character.{passes}
use Rattle.xml_text.specs.Reading.{stands}
use Rattle.xml_text.specs.Markup.{ends_at_word, is_end, may_begin_word, may_end, before_end, from_end}
use Rattle.xml_text.specs.declared.character.Class.TheVariants.{Legal}
use Rattle.xml_text.specs.declared.ending.Ending.{Ending}
use Rattle.xml_text.specs.declared.ending.Ending.TheVariants.{Data, Comment, SectionText, Instruction}

-- the front that was passed, and the rest of the text
pub record Reaches (ending : Ending) (whole rest : List ℕ) (end : ℕ) : Type 0 where
  pub passed : List ℕ
  pub parts : whole ≡ passed ++ rest
  pub long : length passed ≡ end
  pub rest_utf8 : IsUtf8 rest
  pub passed_utf8 : IsUtf8 passed
  pub prefix : before_end ending (chars whole) ≡ chars passed ++ before_end ending (chars rest)
  pub rest_is : from_end ending (chars whole) ≡ from_end ending (chars rest)

or_false : (a b : Bool) → a || b ≡ false → (a ≡ false) × (b ≡ false)
or_false true b h = absurd (true≢false h)
or_false false b h = (refl, h)

-- a word does not stand before another character than its first
no_word : (w c : ℕ) (ws cs : List ℕ) → eqb c w ≡ false → stands (w ∷ ws) (c ∷ cs) ≡ false
no_word w c ws cs e = rw e refl

-- so a text ends before no character that begins no such word
no_words : (ending : Ending) (c : ℕ) (cs : List ℕ) → may_begin_word ending c ≡ false → ends_at_word ending (c ∷ cs) ≡ false
no_words Data c cs h =
    let two = or_false (eqb c 60 || eqb c 38) (eqb c 93) h in
    let one = or_false (eqb c 60) (eqb c 38) two.0 in
    let a = no_word 60 c [] cs one.0 in
    let b = no_word 38 c [] cs one.1 in
    let d = no_word 93 c (93 ∷ 62 ∷ []) cs two.1 in
    rw (a, b, d) refl
no_words Comment c cs h = no_word 45 c (45 ∷ []) cs h
no_words SectionText c cs h = no_word 93 c (93 ∷ 62 ∷ []) cs h
no_words Instruction c cs h = no_word 63 c (62 ∷ []) cs h

no_end : (ending : Ending) (c : ℕ) (cs : List ℕ) → may_end ending c ≡ false → is_end ending (c ∷ cs) ≡ false
no_end ending c cs h =
    let two = or_false (may_begin_word ending c) (not (passes Legal c)) h in
    let a = no_words ending c cs two.0 in
    let b = two.1 in
    rw (a, b) refl

pub reaches_none : (ending : Ending) (whole : List ℕ) → IsUtf8 whole → Reaches ending whole whole 0
reaches_none ending whole u = record { passed = []; parts = refl; long = refl; rest_utf8 = u; passed_utf8 = IsUtf8-nil; prefix = rw chars-nil refl; rest_is = refl }

-- one more character is passed
reaches_past : (ending : Ending) (whole rest more : List ℕ) (end c : ℕ) → Reaches ending whole rest end → rest ≡ encode_utf8 c ++ more → is_end ending (c ∷ chars more) ≡ false
    → Reaches ending whole more (end + length (encode_utf8 c))
reaches_past ending whole rest more end c r e h =
    let long = r.long in
    let one : IsUtf8 (encode_utf8 c) = IsUtf8-first rest more c r.rest_utf8 e in
    let next : chars rest ≡ c ∷ chars more = chars_past_char rest more c r.rest_utf8 e in
    let single : chars (encode_utf8 c) ≡ c ∷ [] = chars_past_char (encode_utf8 c) [] c one (sym (append-nil (encode_utf8 c))) ∙ rw chars-nil refl in
    let longer : chars (r.passed ++ encode_utf8 c) ≡ chars r.passed ++ c ∷ [] = chars-append r.passed (encode_utf8 c) r.passed_utf8 ∙ rw single refl in
    let begins : before_end ending (chars rest) ≡ c ∷ before_end ending (chars more) = ap (before_end ending) next ∙ rw h refl in
    let ends : from_end ending (chars rest) ≡ from_end ending (chars more) = ap (from_end ending) next ∙ rw h refl in
    record {
      passed = r.passed ++ encode_utf8 c;
      parts = r.parts ∙ rw e (sym (append_assoc r.passed (encode_utf8 c) more));
      long = omega (arith, length-append r.passed (encode_utf8 c));
      rest_utf8 = IsUtf8-past_char rest more c r.rest_utf8 e;
      passed_utf8 = IsUtf8-append r.passed (encode_utf8 c) r.passed_utf8 one;
      prefix = r.prefix ∙ rw (begins, longer) (sym (append_assoc (chars r.passed) (c ∷ []) (before_end ending (chars more))));
      rest_is = r.rest_is ∙ ends;
    }

-- one before which no text ends
pub reaches_plain : (ending : Ending) (whole rest more : List ℕ) (end c : ℕ) → Reaches ending whole rest end → rest ≡ encode_utf8 c ++ more → may_end ending c ≡ false
    → Reaches ending whole more (end + length (encode_utf8 c))
reaches_plain ending whole rest more end c r e h = reaches_past ending whole rest more end c r e (no_end ending c (chars more) h)

-- one before which this text does not end
pub reaches_more : (ending : Ending) (whole rest more : List ℕ) (end c : ℕ) → Reaches ending whole rest end → rest ≡ encode_utf8 c ++ more → is_end ending (chars (drop end whole)) ≡ false
    → Reaches ending whole more (end + length (encode_utf8 c))
reaches_more ending whole rest more end c r e h =
    let next : chars rest ≡ c ∷ chars more = chars_past_char rest more c r.rest_utf8 e in
    let back : drop end whole ≡ rest = rw r.parts (drop_at r.passed rest end r.long) in
    reaches_past ending whole rest more end c r e (subst (λ x. is_end ending x ≡ false) (ap chars back ∙ next) h)

-- where a text is cut
pub record CutsEnd (ending : Ending) (whole prefix back : List ℕ) : Type 0 where
  pub prefix_is : chars prefix ≡ before_end ending (chars whole)
  pub back_is : chars back ≡ from_end ending (chars whole)

cut_at : (ending : Ending) (whole rest : List ℕ) (end : ℕ) → Reaches ending whole rest end → before_end ending (chars rest) ≡ [] → from_end ending (chars rest) ≡ chars rest
    → CutsEnd ending whole (take end whole) (drop end whole)
cut_at ending whole rest end r none all =
    let prefix : take end whole ≡ r.passed = rw r.parts (take_at r.passed rest end r.long) in
    let back : drop end whole ≡ rest = rw r.parts (drop_at r.passed rest end r.long) in
    record {
      prefix_is = rw prefix (sym (r.prefix ∙ rw none (append-nil (chars r.passed))));
      back_is = rw back (sym (r.rest_is ∙ all));
    }

ended_before : (ending : Ending) (cs : List ℕ) → is_end ending cs ≡ true → before_end ending cs ≡ []
ended_before ending [] h = refl
ended_before ending (c ∷ cs) h = rw h refl

ended_from : (ending : Ending) (cs : List ℕ) → is_end ending cs ≡ true → from_end ending cs ≡ cs
ended_from ending [] h = refl
ended_from ending (c ∷ cs) h = rw h refl

-- the text ends there
pub stops_before : (ending : Ending) (whole rest : List ℕ) (end : ℕ) → Reaches ending whole rest end → is_end ending (chars (drop end whole)) ≡ true
    → CutsEnd ending whole (take end whole) (drop end whole)
stops_before ending whole rest end r h =
    let back : drop end whole ≡ rest = rw r.parts (drop_at r.passed rest end r.long) in
    let ended : is_end ending (chars rest) ≡ true = subst (λ x. is_end ending (chars x) ≡ true) back h in
    cut_at ending whole rest end r (ended_before ending (chars rest) ended) (ended_from ending (chars rest) ended)

-- the whole text is at its end
pub stops_at_end : (ending : Ending) (whole rest : List ℕ) (end : ℕ) → Reaches ending whole rest end → length rest ≡ 0
    → CutsEnd ending whole (take (length whole) whole) (drop (length whole) whole)
stops_at_end ending whole rest end r none =
    let all : end ≡ length whole = omega (arith, r.long, ap length r.parts, length-append r.passed rest) in
    let empty : rest ≡ [] = nil_from_length rest none in
    let nothing : chars rest ≡ [] = ap chars empty ∙ chars-nil in
    subst (λ n. CutsEnd ending whole (take n whole) (drop n whole)) all (cut_at ending whole rest end r (ap (before_end ending) nothing) (ap (from_end ending) nothing ∙ sym nothing))
