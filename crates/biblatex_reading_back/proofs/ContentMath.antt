-- Math pieces that were written are read back.
use Rattle.std.proofs.Common.{◌≡◌, ℕ, zero, suc, ◌+◌, ◌-◌, ◌<◌, ◌≤◌, Bool, true, false, true≢false, ◌==◌, List, [], ◌∷◌, ◌++◌, length, Some, Ok, Result, refl, sym, ap, subst, ◌∙◌, append_assoc, add-one, arith}
use Rattle.std.specs.Prelude.{if◌then◌else◌}
use Rattle.std.proofs.lemmas.Bool.{eqb-true, ne_eqb}
use Rattle.std.proofs.lemmas.List.{append-nil}
use Rattle.laws.specs.Characters.{dollar_sign, hyphen, backslash, open_brace, close_brace, tilde}
use Rattle.laws.specs.Results.{◌>>=◌}
use Rattle.laws.specs.Runs.{prefix_of, after}
use Rattle.laws.proofs.Runs.{prefix-after, length-after}
use Rattle.biblatex_tex.specs.Character.{passes}
use Rattle.biblatex_tex.specs.declared.character.Class.{Class}
use Rattle.biblatex_tex.specs.declared.character.Class.TheVariants.{Blank, Letter, Hyphen, Plain}
use Rattle.biblatex_tex.specs.declared.error.ContentError.{ContentError}
use Rattle.biblatex_tex.specs.Token.{Token, Text, Hyphens, Tie, Open, Close, Dollar, Sign, Command, begins_command, written, token_at, tokens_of, partnered, paired, innermost, outer, dollars_before, dollars_in}
use Rattle.biblatex_content.specs.Styled.{Member, Math}
use Rattle.biblatex_content.specs.Ordinary.{State, begun, opened, dollar, step, steps}
use Rattle.biblatex_content.proofs.Tests.{first_of_two, second_of_two}
use Rattle.biblatex_grammar.proofs.Classes.{differs}
use Rattle.biblatex_writing.specs.SettledContent.{is_math_from, is_math, may_stand, depth_after}
use Rattle.biblatex_reading_back.proofs.ContentTokens.{tokens_more, between, Reads, hyphens_at, text_on}

-- within a math piece so many groups are open
abbrev deep : ℕ → State
deep zero = dollar true (begun [])
deep (suc depth) = opened false (record (dollar true (begun [])) { frames = (deep depth).frames })

abbrev within : ℕ → List Member → List ℕ → State
within depth done math = record (dollar true (begun done)) { frames = (deep depth).frames; math = math }

-- whether the group that so many others are open in has a dollar sign further on
abbrev has_dollar : ℕ → List Bool → Bool
has_dollar zero bs = innermost bs
has_dollar (suc depth) bs = has_dollar depth (outer bs)

-- The rest of a math piece is read to the end of the text, after its closing dollar sign too.
record ReadsMath (depth : ℕ) (math cs : List ℕ) (ms : List Member) : Type 0 where
  pub tokens : List Token
  pub are : tokens_of (math ++ dollar_sign ∷ cs) ≡ Ok tokens
  pub give : (done : List Member) (before : List ℕ) → steps (paired tokens) (within depth done before) ≡ Ok (between false (done ++ Math (before ++ math) ∷ ms))
  pub partner : has_dollar depth (dollars_in tokens) ≡ true

dollar_at : (cs : List ℕ) → token_at (dollar_sign ∷ cs) ≡ Ok (Some (Dollar false), cs)
unfolding token_at
dollar_at cs = refl

ends : (has_partner : Bool) (done : List Member) (before : List ℕ) → step (Dollar has_partner) (within 0 done before) ≡ Ok (between false (done ++ Math before ∷ []))
unfolding step
ends has_partner done before = refl

-- the dollar sign that ends it
math_ends : (cs : List ℕ) (ms : List Member) → Reads false cs ms → ReadsMath 0 [] cs ms
math_ends cs ms r = record {
  tokens = Dollar false ∷ r.tokens;
  are = tokens_more (dollar_sign ∷ cs) cs (Dollar false) r.tokens (dollar_at cs) r.are;
  give = λ done before.
      ap (λ (q : Result State ContentError). q >>= λ s. steps (paired r.tokens) s) (ends (innermost (dollars_in r.tokens)) done before)
      ∙ (r.give (done ++ Math before ∷ []) ∙ ap (λ (x : List Member). Ok (between false x)) (append_assoc done (Math before ∷ []) ms ∙ ap (λ (x : List ℕ). done ++ Math x ∷ ms) (sym (append-nil before))));
  partner = refl;
}

-- a token within it
math_token : (depth later : ℕ) (math rest cs : List ℕ) (ms : List Member) (t : Token) → token_at (math ++ dollar_sign ∷ cs) ≡ Ok (Some t, rest ++ dollar_sign ∷ cs) → math ≡ written t ++ rest
    → ((bs : List Bool) (done : List Member) (before : List ℕ) → step (partnered t bs) (within depth done before) ≡ Ok (within later done (before ++ written t)))
    → ((bs : List Bool) → has_dollar later bs ≡ true → has_dollar depth (dollars_before t bs) ≡ true) → ReadsMath later rest cs ms → ReadsMath depth math cs ms
math_token depth later math rest cs ms t at parts gives dollars r = record {
  tokens = t ∷ r.tokens;
  are = tokens_more (math ++ dollar_sign ∷ cs) (rest ++ dollar_sign ∷ cs) t r.tokens at r.are;
  give = λ done before.
      ap (λ (q : Result State ContentError). q >>= λ s. steps (paired r.tokens) s) (gives (dollars_in r.tokens) done before)
      ∙ (r.give done (before ++ written t) ∙ ap (λ (x : List ℕ). Ok (between false (done ++ Math x ∷ ms))) (append_assoc before (written t) rest ∙ ap (λ (x : List ℕ). before ++ x) (sym parts)));
  partner = dollars (dollars_in r.tokens) r.partner;
}

-- what tokens do within a math piece
text_gives : (depth : ℕ) (cs : List ℕ) (bs : List Bool) (done : List Member) (before : List ℕ) → step (partnered (Text cs) bs) (within depth done before) ≡ Ok (within depth done (before ++ cs))
unfolding step
text_gives depth cs bs done before = refl

hyphens_give : (depth : ℕ) (cs : List ℕ) (bs : List Bool) (done : List Member) (before : List ℕ) → step (partnered (Hyphens cs) bs) (within depth done before) ≡ Ok (within depth done (before ++ cs))
unfolding step
hyphens_give depth cs bs done before = refl

tie_gives : (depth : ℕ) (bs : List Bool) (done : List Member) (before : List ℕ) → step (partnered Tie bs) (within depth done before) ≡ Ok (within depth done (before ++ tilde ∷ []))
unfolding step
tie_gives depth bs done before = refl

sign_gives : (depth c : ℕ) (bs : List Bool) (done : List Member) (before : List ℕ) → step (partnered (Sign c) bs) (within depth done before) ≡ Ok (within depth done (before ++ backslash ∷ c ∷ []))
unfolding step
sign_gives depth c bs done before = refl

command_gives : (depth : ℕ) (name blanks : List ℕ) (bs : List Bool) (done : List Member) (before : List ℕ)
    → step (partnered (Command name blanks) bs) (within depth done before) ≡ Ok (within depth done (before ++ (backslash ∷ (name ++ blanks))))
unfolding step
command_gives depth name blanks bs done before = refl

open_gives : (depth : ℕ) (is_command : Bool) (bs : List Bool) (done : List Member) (before : List ℕ) → step (partnered (Open is_command) bs) (within depth done before) ≡ Ok (within (suc depth) done (before ++ open_brace ∷ []))
unfolding step
open_gives depth is_command bs done before = refl

close_gives : (depth : ℕ) (bs : List Bool) (done : List Member) (before : List ℕ) → step (partnered Close bs) (within (suc depth) done before) ≡ Ok (within depth done (before ++ close_brace ∷ []))
unfolding step
close_gives depth bs done before = refl

dollar_gives : (depth : ℕ) (bs : List Bool) (done : List Member) (before : List ℕ) → step (partnered (Dollar false) bs) (within (suc depth) done before) ≡ Ok (within (suc depth) done (before ++ dollar_sign ∷ []))
unfolding step
dollar_gives depth bs done before = rw (ne_eqb (suc (length (deep depth).frames)) 0 (λ e. omega (arith, e))) refl

-- a run that the dollar sign is not of ends before it
prefix_in : (test : ℕ → Bool) (xs cs : List ℕ) → test dollar_sign ≡ false → prefix_of test (xs ++ dollar_sign ∷ cs) ≡ prefix_of test xs
prefix_in test [] cs none = ap (λ (b : Bool). if b then dollar_sign ∷ prefix_of test cs else []) none
prefix_in test (x ∷ xs) cs none = ap (λ (ys : List ℕ). if test x then x ∷ ys else []) (prefix_in test xs cs none)

after_in : (test : ℕ → Bool) (xs cs : List ℕ) → test dollar_sign ≡ false → after test (xs ++ dollar_sign ∷ cs) ≡ after test xs ++ dollar_sign ∷ cs
after_in test [] cs none = ap (λ (b : Bool). if b then after test cs else dollar_sign ∷ cs) none
after_in test (x ∷ xs) cs none = by_test (test x) (after_in test xs cs none)
  where
    by_test : (b : Bool) → after test (xs ++ dollar_sign ∷ cs) ≡ after test xs ++ dollar_sign ∷ cs → (if b then after test (xs ++ dollar_sign ∷ cs) else x ∷ (xs ++ dollar_sign ∷ cs)) ≡ (if b then after test xs else x ∷ xs) ++ dollar_sign ∷ cs
    by_test true more = more
    by_test false more = refl

-- a class without backslash, braces and dollar sign
record IsCommon (class : Class) : Type 0 where
  pub no_backslash : passes class backslash ≡ false
  pub no_open : passes class open_brace ≡ false
  pub no_close : passes class close_brace ≡ false
  pub no_dollar : passes class dollar_sign ≡ false

letter_common : IsCommon Letter
unfolding passes
letter_common = record { no_backslash = refl; no_open = refl; no_close = refl; no_dollar = refl }

blank_common : IsCommon Blank
unfolding passes
blank_common = record { no_backslash = refl; no_open = refl; no_close = refl; no_dollar = refl }

hyphen_common : IsCommon Hyphen
unfolding passes
hyphen_common = record { no_backslash = refl; no_open = refl; no_close = refl; no_dollar = refl }

plain_common : IsCommon Plain
unfolding passes
plain_common = record { no_backslash = refl; no_open = refl; no_close = refl; no_dollar = refl }

-- what is left of a math text after a character that is no backslash and no brace
next_of : (depth c : ℕ) (cs : List ℕ) → (c == backslash) ≡ false → (c == open_brace) ≡ false → (c == close_brace) ≡ false → is_math_from false depth (c ∷ cs) ≡ true → is_math_from false depth cs ≡ true
next_of depth c cs p q r is =
    ap (λ (b : Bool). is_math_from b depth cs) (sym p)
    ∙ (ap (λ (n : ℕ). is_math_from (c == backslash) n cs) (sym (ap (λ (b : Bool). if b then depth + 1 else (if c == close_brace then depth - 1 else depth)) q ∙ ap (λ (b : Bool). if b then depth - 1 else depth) r))
    ∙ second_of_two (may_stand depth c) (is_math_from (c == backslash) (depth_after depth c) cs) is)

-- and after a run
over : (class : Class) → IsCommon class → (depth : ℕ) (cs : List ℕ) → is_math_from false depth cs ≡ true → is_math_from false depth (after (passes class) cs) ≡ true
over class common depth [] is = is
over class common depth (c ∷ cs) is = by_test (passes class c) refl (over class common depth cs)
  where
    by_test : (b : Bool) → passes class c ≡ b → (is_math_from false depth cs ≡ true → is_math_from false depth (after (passes class) cs) ≡ true) → is_math_from false depth (if b then after (passes class) cs else c ∷ cs) ≡ true
    by_test true e more =
        more (next_of depth c cs (differs (passes class) c backslash e common.no_backslash) (differs (passes class) c open_brace e common.no_open) (differs (passes class) c close_brace e common.no_close) is)
    by_test false e more = is

-- tokens of a math text, by its first character
open_at : (cs : List ℕ) → token_at (open_brace ∷ cs) ≡ Ok (Some (Open (begins_command cs)), cs)
unfolding token_at
open_at cs = refl

close_at : (cs : List ℕ) → token_at (close_brace ∷ cs) ≡ Ok (Some Close, cs)
unfolding token_at
close_at cs = refl

tie_at : (cs : List ℕ) → token_at (tilde ∷ cs) ≡ Ok (Some Tie, cs)
unfolding token_at
tie_at cs = refl

sign_at : (c : ℕ) (cs : List ℕ) → passes Letter c ≡ false → token_at (backslash ∷ c ∷ cs) ≡ Ok (Some (Sign c), cs)
unfolding token_at
sign_at c cs e = rw e refl

command_at : (c : ℕ) (cs : List ℕ) → passes Letter c ≡ true
    → token_at (backslash ∷ c ∷ cs) ≡ Ok (Some (Command (prefix_of (passes Letter) (c ∷ cs)) (prefix_of (passes Blank) (after (passes Letter) (c ∷ cs)))), after (passes Blank) (after (passes Letter) (c ∷ cs)))
unfolding token_at
command_at c cs e = rw e refl

is_plain : (c : ℕ) → (c == backslash) ≡ false → (c == open_brace) ≡ false → (c == close_brace) ≡ false → (c == dollar_sign) ≡ false → (c == tilde) ≡ false → (c == hyphen) ≡ false → passes Plain c ≡ true
unfolding passes
is_plain c p q r s t u = rw (p, q, r, s, t, u) refl

-- shorter math texts are read
abbrev ReadShorter : ℕ → List ℕ → List Member → Type 0
ReadShorter size cs ms = (depth : ℕ) (math : List ℕ) → length math < size → is_math_from false depth math ≡ true → ReadsMath depth math cs ms

module _ (cs : List ℕ) (ms : List Member) (size : ℕ) (shorter : ReadShorter size cs ms) where
  -- a run of one class, of which its first character is one
  plain_run : (depth c : ℕ) (math : List ℕ) → length math < size → passes Plain c ≡ true → is_math_from false depth math ≡ true → ReadsMath depth (c ∷ math) cs ms
  plain_run depth c math less plain is =
      let rest = after (passes Plain) math in
      let run = prefix_of (passes Plain) math in
      math_token depth depth (c ∷ math) rest cs ms (Text (c ∷ run))
      (text_on c (math ++ dollar_sign ∷ cs) plain
      ∙ (ap (λ (x : List ℕ). Ok (Some (Text (c ∷ x)), after (passes Plain) (math ++ dollar_sign ∷ cs))) (prefix_in (passes Plain) math cs plain_common.no_dollar)
      ∙ ap (λ (x : List ℕ). Ok (Some (Text (c ∷ run)), x)) (after_in (passes Plain) math cs plain_common.no_dollar)))
      (ap (λ (x : List ℕ). c ∷ x) (prefix-after (passes Plain) math)) (text_gives depth (c ∷ run)) (λ bs h. h)
      (shorter depth rest (omega (arith, less, length-after (passes Plain) math)) (over Plain plain_common depth math is))

  hyphen_run : (depth : ℕ) (math : List ℕ) → length math < size → is_math_from false depth math ≡ true → ReadsMath depth (hyphen ∷ math) cs ms
  hyphen_run depth math less is =
      let rest = after (passes Hyphen) math in
      let run = prefix_of (passes Hyphen) math in
      math_token depth depth (hyphen ∷ math) rest cs ms (Hyphens (hyphen ∷ run))
      (hyphens_at (math ++ dollar_sign ∷ cs)
      ∙ (ap (λ (x : List ℕ). Ok (Some (Hyphens (hyphen ∷ x)), after (passes Hyphen) (math ++ dollar_sign ∷ cs))) (prefix_in (passes Hyphen) math cs hyphen_common.no_dollar)
      ∙ ap (λ (x : List ℕ). Ok (Some (Hyphens (hyphen ∷ run)), x)) (after_in (passes Hyphen) math cs hyphen_common.no_dollar)))
      (ap (λ (x : List ℕ). hyphen ∷ x) (prefix-after (passes Hyphen) math)) (hyphens_give depth (hyphen ∷ run)) (λ bs h. h)
      (shorter depth rest (omega (arith, less, length-after (passes Hyphen) math)) (over Hyphen hyphen_common depth math is))

  -- a backslash and what it takes with it
  escape : (depth : ℕ) (math : List ℕ) → length math < size → is_math_from true depth math ≡ true → ReadsMath depth (backslash ∷ math) cs ms
  escape depth [] less is = absurd (true≢false (sym is))
  escape depth (c ∷ math) less is = by_letter (passes Letter c) refl
    where
      all : List ℕ
      all = c ∷ math

      by_letter : (b : Bool) → passes Letter c ≡ b → ReadsMath depth (backslash ∷ c ∷ math) cs ms
      by_letter false e = math_token depth depth (backslash ∷ c ∷ math) math cs ms (Sign c) (sign_at c (math ++ dollar_sign ∷ cs) e) refl (sign_gives depth c) (λ bs h. h) (shorter depth math (omega (arith, less)) is)
      by_letter true e =
          let name = prefix_of (passes Letter) all in
          let named = after (passes Letter) all in
          let blanks = prefix_of (passes Blank) named in
          let rest = after (passes Blank) named in
          let after_name : is_math_from false depth named ≡ true = ap (λ (b : Bool). is_math_from false depth (if b then after (passes Letter) math else c ∷ math)) e ∙ over Letter letter_common depth math is in
          let long : length named ≤ length math = subst (λ (b : Bool). length (if b then after (passes Letter) math else c ∷ math) ≤ length math) (sym e) (length-after (passes Letter) math) in
          let tail = dollar_sign ∷ cs in
          math_token depth depth (backslash ∷ c ∷ math) rest cs ms (Command name blanks)
          (command_at c (math ++ tail) e
          ∙ (ap (λ (x : List ℕ). Ok (Some (Command x (prefix_of (passes Blank) (after (passes Letter) (all ++ tail)))), after (passes Blank) (after (passes Letter) (all ++ tail)))) (prefix_in (passes Letter) all cs letter_common.no_dollar)
          ∙ (ap (λ (x : List ℕ). Ok (Some (Command name (prefix_of (passes Blank) x)), after (passes Blank) x)) (after_in (passes Letter) all cs letter_common.no_dollar)
          ∙ (ap (λ (x : List ℕ). Ok (Some (Command name x), after (passes Blank) (named ++ tail))) (prefix_in (passes Blank) named cs blank_common.no_dollar)
          ∙ ap (λ (x : List ℕ). Ok (Some (Command name blanks), x)) (after_in (passes Blank) named cs blank_common.no_dollar)))))
          (ap (λ (x : List ℕ). backslash ∷ x) (prefix-after (passes Letter) all ∙ (ap (λ (x : List ℕ). name ++ x) (prefix-after (passes Blank) named) ∙ sym (append_assoc name blanks rest))))
          (command_gives depth name blanks) (λ bs h. h)
          (shorter depth rest (omega (arith, less, long, length-after (passes Blank) named)) (over Blank blank_common depth named after_name))

  -- a brace that closes, and a dollar sign, stand in a group
  close : (depth : ℕ) (math : List ℕ) → length math < size → may_stand depth close_brace ≡ true → is_math_from false (depth - 1) math ≡ true → ReadsMath depth (close_brace ∷ math) cs ms
  close zero math less stands is = absurd (true≢false (sym stands))
  close (suc depth) math less stands is =
      let back : suc depth - 1 ≡ depth = omega arith in
      math_token (suc depth) depth (close_brace ∷ math) math cs ms Close (close_at (math ++ dollar_sign ∷ cs)) refl (close_gives depth) (λ bs h. h)
      (shorter depth math less (subst (λ (n : ℕ). is_math_from false n math ≡ true) back is))

  dollar_in : (depth : ℕ) (math : List ℕ) → length math < size → may_stand depth dollar_sign ≡ true → is_math_from false depth math ≡ true → ReadsMath depth (dollar_sign ∷ math) cs ms
  dollar_in zero math less stands is = absurd (true≢false (sym stands))
  dollar_in (suc depth) math less stands is =
      math_token (suc depth) (suc depth) (dollar_sign ∷ math) math cs ms (Dollar false) (dollar_at (math ++ dollar_sign ∷ cs)) refl (dollar_gives depth) (λ bs h. h) (shorter (suc depth) math less is)

  -- any first character
  first : (depth c : ℕ) (math : List ℕ) → length math < size → is_math_from false depth (c ∷ math) ≡ true → ReadsMath depth (c ∷ math) cs ms
  first depth c math less is = by_tests (c == backslash) (c == open_brace) (c == close_brace) (c == dollar_sign) (c == tilde) (c == hyphen) refl refl refl refl refl refl
    where
      stands : may_stand depth c ≡ true
      stands = first_of_two (may_stand depth c) (is_math_from (c == backslash) (depth_after depth c) math) is

      later : is_math_from (c == backslash) (depth_after depth c) math ≡ true
      later = second_of_two (may_stand depth c) (is_math_from (c == backslash) (depth_after depth c) math) is

      -- what holds of a character that is one of those that are named
      stands_as : (d : ℕ) → (c == d) ≡ true → may_stand depth d ≡ true
      stands_as d e = ap (may_stand depth) (sym (eqb-true c d e)) ∙ stands

      later_as : (d : ℕ) → (c == d) ≡ true → is_math_from (d == backslash) (depth_after depth d) math ≡ true
      later_as d e = ap (λ (x : ℕ). is_math_from (x == backslash) (depth_after depth x) math) (sym (eqb-true c d e)) ∙ later

      like : (d : ℕ) → (c == d) ≡ true → ReadsMath depth (d ∷ math) cs ms → ReadsMath depth (c ∷ math) cs ms
      like d e r = subst (λ (x : ℕ). ReadsMath depth (x ∷ math) cs ms) (sym (eqb-true c d e)) r

      by_tests : (s o k d t h : Bool) → (c == backslash) ≡ s → (c == open_brace) ≡ o → (c == close_brace) ≡ k → (c == dollar_sign) ≡ d → (c == tilde) ≡ t → (c == hyphen) ≡ h → ReadsMath depth (c ∷ math) cs ms
      by_tests true o k d t h es eo ek ed et eh = like backslash es (escape depth math less (later_as backslash es))
      by_tests false true k d t h es eo ek ed et eh =
          like open_brace eo
          (math_token depth (suc depth) (open_brace ∷ math) math cs ms (Open (begins_command (math ++ dollar_sign ∷ cs))) (open_at (math ++ dollar_sign ∷ cs)) refl (open_gives depth (begins_command (math ++ dollar_sign ∷ cs))) (λ bs h. h)
          (shorter (suc depth) math less (subst (λ (n : ℕ). is_math_from false n math ≡ true) (add-one depth) (later_as open_brace eo))))
      by_tests false false true d t h es eo ek ed et eh = like close_brace ek (close depth math less (stands_as close_brace ek) (later_as close_brace ek))
      by_tests false false false true t h es eo ek ed et eh = like dollar_sign ed (dollar_in depth math less (stands_as dollar_sign ed) (later_as dollar_sign ed))
      by_tests false false false false true h es eo ek ed et eh =
          like tilde et (math_token depth depth (tilde ∷ math) math cs ms Tie (tie_at (math ++ dollar_sign ∷ cs)) refl (tie_gives depth) (λ bs h. h) (shorter depth math less (later_as tilde et)))
      by_tests false false false false false true es eo ek ed et eh = like hyphen eh (hyphen_run depth math less (later_as hyphen eh))
      by_tests false false false false false false es eo ek ed et eh = plain_run depth c math less (is_plain c es eo ek ed et eh) (next_of depth c math es eo ek is)

math_read : (size : ℕ) (cs : List ℕ) (ms : List Member) → Reads false cs ms → ReadShorter size cs ms
math_read zero cs ms r depth math less is = absurd (omega (arith, less))
math_read (suc size) cs ms r zero [] less is = math_ends cs ms r
math_read (suc size) cs ms r (suc depth) [] less is = absurd (true≢false (sym is ∙ ne_eqb (suc depth) 0 (λ e. omega (arith, e))))
math_read (suc size) cs ms r depth (c ∷ math) less is = first cs ms size (math_read size cs ms r) depth c math (omega (arith, less)) is

begins : (done : List Member) → step (Dollar true) (between false done) ≡ Ok (within 0 done [])
unfolding step
begins done = refl

-- a math piece and what follows it
pub math_piece : (math cs : List ℕ) (ms : List Member) → is_math math ≡ true → Reads false cs ms → Reads false (dollar_sign ∷ (math ++ dollar_sign ∷ cs)) (Math math ∷ ms)
math_piece math cs ms is r =
    let m = math_read (suc (length math)) cs ms r 0 math (omega arith) is in
    record {
      tokens = Dollar false ∷ m.tokens;
      are = tokens_more (dollar_sign ∷ (math ++ dollar_sign ∷ cs)) (math ++ dollar_sign ∷ cs) (Dollar false) m.tokens (dollar_at (math ++ dollar_sign ∷ cs)) m.are;
      give = λ done.
          ap (λ (b : Bool). steps (Dollar b ∷ paired m.tokens) (between false done)) m.partner
          ∙ (ap (λ (q : Result State ContentError). q >>= λ s. steps (paired m.tokens) s) (begins done) ∙ m.give done []);
    }
