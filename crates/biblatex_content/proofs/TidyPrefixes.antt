-- A prefix that tidying leaves as it is: where it ends, and what is still to be written after it.
use Rattle.std.proofs.Common.{◌≡◌, ℕ, ◌+◌, Bool, true, false, ◌||◌, ◌==◌, List, [], ◌∷◌, ◌++◌, length, take, drop, refl, sym, ap, ◌∙◌, subst, append_assoc, arith}
use Rattle.std.specs.Prelude.{encode_utf8}
use Rattle.std.specs.Str.{chars, IsUtf8}
use Rattle.std.proofs.lemmas.List.{append-nil, length-append, take_at, drop_at}
use Rattle.std.proofs.lemmas.Str.{chars_past_char, chars-append, chars-nil, IsUtf8-past_char, IsUtf8-append, IsUtf8-nil}
use Rattle.laws.proofs.Cut.{IsUtf8-first}
use Rattle.laws.specs.Characters as character
use Rattle.laws.specs.Text.{is_filled}
use Rattle.biblatex_tex.specs.Character.{is_blank}
use Rattle.biblatex_content.specs.Tidy.{stays, is_tidy, EndsTidily}
use Rattle.biblatex_content.proofs.Tests.{first_of_two, second_of_two, both}

first_no : (a b : Bool) → a || b ≡ false → a ≡ false
first_no true b e = e
first_no false b e = refl

no_space : (c : ℕ) → is_blank c ≡ false → (c == character.space) ≡ false
no_space c e = first_no (c == character.space) _ (first_no _ _ (first_no _ _ (first_no _ _ e)))

-- what is no blank may follow a tidy text
other_follows : (after_space : Bool) (cs : List ℕ) (d : ℕ) → is_blank d ≡ false → is_tidy after_space cs ≡ true → is_tidy after_space (cs ++ d ∷ []) ≡ true
other_follows after_space [] d other e =
    let none = no_space d other in
    rw (other, none) refl
other_follows after_space (c ∷ cs) d other e =
    both (stays after_space c) _ (first_of_two (stays after_space c) _ e) (other_follows (c == character.space) cs d other (second_of_two (stays after_space c) _ e))

-- so may a space and what is no blank
space_follows : (after_space : Bool) (cs : List ℕ) (d : ℕ) → is_blank d ≡ false → is_tidy after_space cs ≡ true → is_tidy after_space (cs ++ character.space ∷ d ∷ []) ≡ true
space_follows true [] d other e = absurd cc
space_follows false [] d other e =
    let none = no_space d other in
    rw (other, none) refl
space_follows after_space (c ∷ cs) d other e =
    both (stays after_space c) _ (first_of_two (stays after_space c) _ e) (space_follows (c == character.space) cs d other (second_of_two (stays after_space c) _ e))

-- a character that is no blank is tidy at the start
other_begins : (d : ℕ) → is_blank d ≡ false → is_tidy true (d ∷ []) ≡ true
other_begins d other =
    let none = no_space d other in
    rw (other, none) refl

-- A text has been passed up to a byte: a prefix that is empty or tidy, and a gap after it, which is empty or a space.
pub record Passed (after_space : Bool) (whole rest : List ℕ) (end at : ℕ) : Type 0 where
  pub prefix : List ℕ
  pub gap : List ℕ
  pub parts : whole ≡ prefix ++ (gap ++ rest)
  pub long : length prefix + length gap ≡ at
  pub prefix_utf8 : IsUtf8 prefix
  pub gap_utf8 : IsUtf8 gap
  pub rest_utf8 : IsUtf8 rest
  pub tidy : is_filled (chars prefix) ≡ true → is_tidy true (chars prefix) ≡ true
  pub ready : (d : ℕ) → is_blank d ≡ false → is_tidy true (chars prefix ++ (chars gap ++ d ∷ [])) ≡ true
  pub ends : after_space ≡ true → length prefix ≡ end
  pub closed : after_space ≡ false → (gap ≡ []) × (is_tidy true (chars prefix) ≡ true)

pub none_passed : (whole : List ℕ) → IsUtf8 whole → Passed true whole whole 0 0
none_passed whole u = record {
  prefix = [];
  gap = [];
  parts = refl;
  long = refl;
  prefix_utf8 = IsUtf8-nil;
  gap_utf8 = IsUtf8-nil;
  rest_utf8 = u;
  tidy = rw chars-nil (λ e. absurd cc);
  ready = λ d other. rw chars-nil (other_begins d other);
  ends = λ e. refl;
  closed = λ e. absurd cc;
}

single : (rest more : List ℕ) (c : ℕ) → IsUtf8 rest → rest ≡ encode_utf8 c ++ more → chars (encode_utf8 c) ≡ c ∷ []
single rest more c u e = chars_past_char (encode_utf8 c) [] c (IsUtf8-first rest more c u e) (sym (append-nil (encode_utf8 c))) ∙ rw chars-nil refl

-- one more character that is no blank
pub other_passed : (after_space : Bool) (whole rest more : List ℕ) (end at c : ℕ) → Passed after_space whole rest end at → rest ≡ encode_utf8 c ++ more → is_blank c ≡ false
    → Passed false whole more end (at + length (encode_utf8 c))
other_passed after_space whole rest more end at c p e other =
    let one : IsUtf8 (encode_utf8 c) = IsUtf8-first rest more c p.rest_utf8 e in
    let passed = p.gap ++ encode_utf8 c in
    let passed_utf8 : IsUtf8 passed = IsUtf8-append p.gap (encode_utf8 c) p.gap_utf8 one in
    let longer : chars (p.prefix ++ passed) ≡ chars p.prefix ++ (chars p.gap ++ c ∷ []) =
    chars-append p.prefix passed p.prefix_utf8 ∙ ap (λ (x : List ℕ). chars p.prefix ++ x) (chars-append p.gap (encode_utf8 c) p.gap_utf8 ∙ ap (λ (x : List ℕ). chars p.gap ++ x) (single rest more c p.rest_utf8 e)) in
    let tidy : is_tidy true (chars (p.prefix ++ passed)) ≡ true = ap (is_tidy true) longer ∙ p.ready c other in
    let long = p.long in
    record {
      prefix = p.prefix ++ passed;
      gap = [];
      parts = p.parts ∙ (ap (λ (x : List ℕ). p.prefix ++ (p.gap ++ x)) e ∙ (ap (λ (x : List ℕ). p.prefix ++ x) (sym (append_assoc p.gap (encode_utf8 c) more)) ∙ sym (append_assoc p.prefix passed more)));
      long = omega (arith, length-append p.prefix passed, length-append p.gap (encode_utf8 c), long);
      prefix_utf8 = IsUtf8-append p.prefix passed p.prefix_utf8 passed_utf8;
      gap_utf8 = IsUtf8-nil;
      rest_utf8 = IsUtf8-past_char rest more c p.rest_utf8 e;
      tidy = λ filled. tidy;
      ready = λ d next. rw chars-nil (other_follows true (chars (p.prefix ++ passed)) d next tidy);
      ends = λ x. absurd cc;
      closed = λ x. (refl, tidy);
    }

-- a space after a tidy prefix is a gap
pub space_passed : (whole rest more : List ℕ) (end at c : ℕ) → Passed false whole rest end at → rest ≡ encode_utf8 c ++ more → c ≡ character.space
    → Passed true whole more at (at + length (encode_utf8 c))
space_passed whole rest more end at c p e is =
    let one : IsUtf8 (encode_utf8 c) = IsUtf8-first rest more c p.rest_utf8 e in
    let none : p.gap ≡ [] = (p.closed refl).0 in
    let tidy : is_tidy true (chars p.prefix) ≡ true = (p.closed refl).1 in
    let space : chars (encode_utf8 c) ≡ character.space ∷ [] = single rest more c p.rest_utf8 e ∙ ap (λ (x : ℕ). x ∷ []) is in
    let long = p.long in
    record {
      prefix = p.prefix;
      gap = encode_utf8 c;
      parts = p.parts ∙ (ap (λ (x : List ℕ). p.prefix ++ (x ++ rest)) none ∙ ap (λ (x : List ℕ). p.prefix ++ x) e);
      long = omega (arith, long, ap length none);
      prefix_utf8 = p.prefix_utf8;
      gap_utf8 = one;
      rest_utf8 = IsUtf8-past_char rest more c p.rest_utf8 e;
      tidy = p.tidy;
      ready = λ d other. ap (λ (x : List ℕ). is_tidy true (chars p.prefix ++ (x ++ d ∷ []))) space ∙ space_follows true (chars p.prefix) d other tidy;
      ends = λ x. omega (arith, long, ap length none);
      closed = λ x. absurd cc;
    }

-- a prefix that ends before a gap ends tidily
pub ends_before : (whole rest : List ℕ) (end at : ℕ) → Passed true whole rest end at → EndsTidily whole end
ends_before whole rest end at p = record {
  prefix = p.prefix;
  rest = p.gap ++ rest;
  parts = p.parts;
  long = p.ends refl;
  prefix_utf8 = p.prefix_utf8;
  rest_utf8 = IsUtf8-append p.gap rest p.gap_utf8 p.rest_utf8;
  tidy = p.tidy;
}

-- where there is no gap, the prefix that ends here ends tidily
pub ends_here : (whole rest : List ℕ) (end at : ℕ) → Passed false whole rest end at → EndsTidily whole at
ends_here whole rest end at p =
    let none : p.gap ≡ [] = (p.closed refl).0 in
    let long = p.long in
    record {
      prefix = p.prefix;
      rest = rest;
      parts = p.parts ∙ ap (λ (x : List ℕ). p.prefix ++ (x ++ rest)) none;
      long = omega (arith, long, ap length none);
      prefix_utf8 = p.prefix_utf8;
      rest_utf8 = p.rest_utf8;
      tidy = p.tidy;
    }

-- where nothing is left, the whole text ends tidily
pub ends_last : (whole rest : List ℕ) (end at : ℕ) → Passed false whole rest end at → length rest ≡ 0 → EndsTidily whole (length whole)
ends_last whole rest end at p nothing =
    let none : p.gap ≡ [] = (p.closed refl).0 in
    let long = p.long in
    let all : at ≡ length whole = omega (arith, long, ap length none, ap length p.parts, length-append p.prefix (p.gap ++ rest), length-append p.gap rest, nothing) in
    subst (λ (n : ℕ). EndsTidily whole n) all (ends_here whole rest end at p)

pub passed_as : (a b : Bool) (whole rest : List ℕ) (end at : ℕ) → a ≡ b → Passed a whole rest end at → Passed b whole rest end at
passed_as a b whole rest end at same p = subst (λ (x : Bool). Passed x whole rest end at) same p

-- where a text is cut at the end of a tidy prefix
pub record CutsTidily (whole prefix rest : List ℕ) : Type 0 where
  pub parts : chars whole ≡ chars prefix ++ chars rest
  pub utf8 : IsUtf8 rest
  pub tidy : is_filled (chars prefix) ≡ true → is_tidy true (chars prefix) ≡ true

pub cut_tidily : (whole : List ℕ) (end : ℕ) → EndsTidily whole end → CutsTidily whole (take end whole) (drop end whole)
cut_tidily whole end e =
    let prefix : take end whole ≡ e.prefix = ap (take end) e.parts ∙ take_at e.prefix e.rest end e.long in
    let rest : drop end whole ≡ e.rest = ap (drop end) e.parts ∙ drop_at e.prefix e.rest end e.long in
    record {
      parts = rw (prefix, rest) (ap chars e.parts ∙ chars-append e.prefix e.rest e.prefix_utf8);
      utf8 = subst IsUtf8 (sym rest) e.rest_utf8;
      tidy = rw prefix e.tidy;
    }
