-- Characters of ordinary contents that were written are read back.
use Rattle.std.proofs.Common.{◌≡◌, ℕ, Bool, true, false, true≢false, ◌||◌, ◌==◌, List, [], ◌∷◌, ◌++◌, None, Some, Ok, codes, refl, sym, subst, ◌∙◌}
use Rattle.std.specs.Prelude.{if◌then◌else◌}
use Rattle.std.proofs.lemmas.Bool.{eqb-true}
use Rattle.laws.specs.Characters.{dollar_sign, hyphen, backslash, circumflex, open_brace, close_brace, tilde, no_break_space, number_sign, ampersand, percent_sign, underscore}
use Rattle.laws.specs.Runs.{Bars}
use Rattle.laws.specs.Text.{text}
use Rattle.biblatex_tex.specs.Character.{passes}
use Rattle.biblatex_tex.specs.Command.{sign_mark, sign_text, letter_mark, letter_character, ligature, letter, symbol, text_symbol}
use Rattle.biblatex_tex.specs.declared.character.Class.TheVariants.{Hyphen, Plain}
use Rattle.biblatex_tex.specs.Token.{Command, begins_command, token_at}
use Rattle.biblatex_content.specs.Styled.{Member}
use Rattle.biblatex_content.specs.Styled.{Letter as a_letter}
use Rattle.biblatex_content.specs.Verbatim.{is_brace, is_reserved, is_escapable}
use Rattle.biblatex_content.specs.Writing.{escaped, guard, written_character}
use Rattle.biblatex_reading_back.proofs.ContentTokens.{Reads, kind_in_group, IsSign, opened, nothing_in_group, tied, hyphened, signed, named, plain_more}

first_no : (a b : Bool) → a || b ≡ false → a ≡ false
first_no true b e = e
first_no false b e = refl

second_no : (a b : Bool) → a || b ≡ false → b ≡ false
second_no true b e = absurd (true≢false e)
second_no false b e = e

-- the characters that a backslash escapes are themselves after it
sign_open : IsSign open_brace
unfolding passes sign_mark sign_text
sign_open = record { no_letter = refl; no_mark = refl; itself = refl }

sign_close : IsSign close_brace
unfolding passes sign_mark sign_text
sign_close = record { no_letter = refl; no_mark = refl; itself = refl }

sign_number : IsSign number_sign
unfolding passes sign_mark sign_text
sign_number = record { no_letter = refl; no_mark = refl; itself = refl }

sign_ampersand : IsSign ampersand
unfolding passes sign_mark sign_text
sign_ampersand = record { no_letter = refl; no_mark = refl; itself = refl }

sign_percent : IsSign percent_sign
unfolding passes sign_mark sign_text
sign_percent = record { no_letter = refl; no_mark = refl; itself = refl }

sign_dollar : IsSign dollar_sign
unfolding passes sign_mark sign_text
sign_dollar = record { no_letter = refl; no_mark = refl; itself = refl }

sign_underscore : IsSign underscore
unfolding passes sign_mark sign_text
sign_underscore = record { no_letter = refl; no_mark = refl; itself = refl }

escapable_sign : (c : ℕ) → is_escapable c false false ≡ true → IsSign c
escapable_sign c e = by_tests (c == open_brace) (c == close_brace) (c == number_sign) (c == ampersand) (c == percent_sign) (c == dollar_sign) (c == underscore) refl refl refl refl refl refl refl e
  where
    is : (d : ℕ) → (c == d) ≡ true → IsSign d → IsSign c
    is d same sign = subst IsSign (sym (eqb-true c d same)) sign

    by_tests : (o k n a p d u : Bool) → (c == open_brace) ≡ o → (c == close_brace) ≡ k → (c == number_sign) ≡ n → (c == ampersand) ≡ a → (c == percent_sign) ≡ p → (c == dollar_sign) ≡ d → (c == underscore) ≡ u
        → (o || k) || (n || a || p || d || u) ≡ true → IsSign c
    by_tests true k n a p d u eo ek en ea ep ed eu e = is open_brace eo sign_open
    by_tests false true n a p d u eo ek en ea ep ed eu e = is close_brace ek sign_close
    by_tests false false true a p d u eo ek en ea ep ed eu e = is number_sign en sign_number
    by_tests false false false true p d u eo ek en ea ep ed eu e = is ampersand ea sign_ampersand
    by_tests false false false false true d u eo ek en ea ep ed eu e = is percent_sign ep sign_percent
    by_tests false false false false false true u eo ek en ea ep ed eu e = is dollar_sign ed sign_dollar
    by_tests false false false false false false true eo ek en ea ep ed eu e = is underscore eu sign_underscore
    by_tests false false false false false false false eo ek en ea ep ed eu e = absurd (true≢false (sym e))

-- the three commands
backslash_at : (cs : List ℕ) → token_at (codes "\\textbackslash{}" ++ cs) ≡ Ok (Some (Command (codes "textbackslash") []), open_brace ∷ close_brace ∷ cs)
unfolding token_at passes
backslash_at cs = refl

tilde_at : (cs : List ℕ) → token_at (codes "\\textasciitilde{}" ++ cs) ≡ Ok (Some (Command (codes "textasciitilde") []), open_brace ∷ close_brace ∷ cs)
unfolding token_at passes
tilde_at cs = refl

circumflex_at : (cs : List ℕ) → token_at (codes "\\textasciicircum{}" ++ cs) ≡ Ok (Some (Command (codes "textasciicircum") []), open_brace ∷ close_brace ∷ cs)
unfolding token_at passes
circumflex_at cs = refl

backslash_mark : letter_mark (text (codes "textbackslash")) ≡ None
unfolding letter_mark lib.Utf8.encode
backslash_mark = refl

backslash_is : letter_character (text (codes "textbackslash")) ≡ Some backslash
unfolding letter_character ligature letter symbol text_symbol lib.Utf8.encode
backslash_is = refl

tilde_mark : letter_mark (text (codes "textasciitilde")) ≡ None
unfolding letter_mark lib.Utf8.encode
tilde_mark = refl

tilde_is : letter_character (text (codes "textasciitilde")) ≡ Some tilde
unfolding letter_character ligature letter symbol text_symbol lib.Utf8.encode
tilde_is = refl

circumflex_mark : letter_mark (text (codes "textasciicircum")) ≡ None
unfolding letter_mark lib.Utf8.encode
circumflex_mark = refl

circumflex_is : letter_character (text (codes "textasciicircum")) ≡ Some circumflex
unfolding letter_character ligature letter symbol text_symbol lib.Utf8.encode
circumflex_is = refl

is_hyphen : (c : ℕ) → (c == hyphen) ≡ passes Hyphen c
unfolding passes
is_hyphen c = refl

-- a character that is none of those that begin something else
is_plain : (c : ℕ) → (c == backslash) ≡ false → (c == open_brace) ≡ false → (c == close_brace) ≡ false → (c == dollar_sign) ≡ false → (c == tilde) ≡ false → (c == hyphen) ≡ false → passes Plain c ≡ true
unfolding passes
is_plain c p q r s t u = rw (p, q, r, s, t, u) refl

-- no dollar sign is reserved
no_dollar : (n a p d u : Bool) → n || a || p || d || u ≡ false → d ≡ false
no_dollar true a p d u e = absurd (true≢false e)
no_dollar false true p d u e = absurd (true≢false e)
no_dollar false false true d u e = absurd (true≢false e)
no_dollar false false false true u e = absurd (true≢false e)
no_dollar false false false false u e = refl

-- a character as it is written, where no hyphen stands after a hyphen
pub character_read : (b : Bool) (c : ℕ) (cs : List ℕ) (ms : List Member) → ((c == hyphen) ≡ true → Bars (passes Hyphen) cs) → Reads b cs ms → Reads b (written_character c ++ cs) (a_letter (kind_in_group b) c ∷ ms)
character_read b c cs ms single r = by_tests (c == backslash) (c == tilde) (c == circumflex) (c == no_break_space) (is_escapable c false false) refl refl refl refl refl
  where
    like : (d : ℕ) (xs : List ℕ) → (c == d) ≡ true → Reads b xs (a_letter (kind_in_group b) d ∷ ms) → Reads b xs (a_letter (kind_in_group b) c ∷ ms)
    like d xs same read = subst (λ (x : ℕ). Reads b xs (a_letter (kind_in_group b) x ∷ ms)) (sym (eqb-true c d same)) read

    by_hyphen : (h : Bool) → (c == hyphen) ≡ h → (c == backslash) ≡ false → (c == tilde) ≡ false → is_escapable c false false ≡ false → Reads b (c ∷ cs) (a_letter (kind_in_group b) c ∷ ms)
    by_hyphen true is p q e =
        subst (λ (x : ℕ). Reads b (x ∷ cs) (a_letter (kind_in_group b) x ∷ ms)) (sym (eqb-true c hyphen is)) (hyphened b cs ms (single is) r)
    by_hyphen false is p q e =
        let no_brace = first_no (is_brace c) (is_reserved c) e in
        let dollar = no_dollar (c == number_sign) (c == ampersand) (c == percent_sign) (c == dollar_sign) (c == underscore) (second_no (is_brace c) (is_reserved c) e) in
        plain_more b c cs ms (is_plain c p (first_no (c == open_brace) (c == close_brace) no_brace) (second_no (c == open_brace) (c == close_brace) no_brace) dollar q is) r

    by_tests : (s t u v e : Bool) → (c == backslash) ≡ s → (c == tilde) ≡ t → (c == circumflex) ≡ u → (c == no_break_space) ≡ v → is_escapable c false false ≡ e
        → Reads b ((if s then codes "\\textbackslash{}" else (if t then codes "\\textasciitilde{}" else (if u then codes "\\textasciicircum{}" else (if v then tilde ∷ [] else escaped e c)))) ++ cs) (a_letter (kind_in_group b) c ∷ ms)
    by_tests true t u v e es et eu ev ee = like backslash (codes "\\textbackslash{}" ++ cs) es (named b (codes "textbackslash") backslash cs ms (backslash_at cs) backslash_mark backslash_is r)
    by_tests false true u v e es et eu ev ee = like tilde (codes "\\textasciitilde{}" ++ cs) et (named b (codes "textasciitilde") tilde cs ms (tilde_at cs) tilde_mark tilde_is r)
    by_tests false false true v e es et eu ev ee = like circumflex (codes "\\textasciicircum{}" ++ cs) eu (named b (codes "textasciicircum") circumflex cs ms (circumflex_at cs) circumflex_mark circumflex_is r)
    by_tests false false false true e es et eu ev ee = like no_break_space (tilde ∷ cs) ev (tied b cs ms r)
    by_tests false false false false true es et eu ev ee = signed b c cs ms (escapable_sign c ee) r
    by_tests false false false false false es et eu ev ee = by_hyphen (c == hyphen) refl es et ee

-- what is written of a character is something
pub begins_alike : (c : ℕ) (cs : List ℕ) → begins_command (written_character c ++ cs) ≡ begins_command (written_character c)
begins_alike c cs = by_tests (c == backslash) (c == tilde) (c == circumflex) (c == no_break_space) (is_escapable c false false)
  where
    by_tests : (s t u v e : Bool) → begins_command ((if s then codes "\\textbackslash{}" else (if t then codes "\\textasciitilde{}" else (if u then codes "\\textasciicircum{}" else (if v then tilde ∷ [] else escaped e c)))) ++ cs)
        ≡ begins_command (if s then codes "\\textbackslash{}" else (if t then codes "\\textasciitilde{}" else (if u then codes "\\textasciicircum{}" else (if v then tilde ∷ [] else escaped e c))))
    by_tests true t u v e = refl
    by_tests false true u v e = refl
    by_tests false false true v e = refl
    by_tests false false false true e = refl
    by_tests false false false false true = refl
    by_tests false false false false false = refl

-- where it is no hyphen, it begins with none
pub no_hyphen : (c : ℕ) (cs : List ℕ) → (c == hyphen) ≡ false → Bars (passes Hyphen) (written_character c ++ cs)
unfolding passes
no_hyphen c cs other = by_tests (c == backslash) (c == tilde) (c == circumflex) (c == no_break_space) (is_escapable c false false)
  where
    by_tests : (s t u v e : Bool) → Bars (passes Hyphen) ((if s then codes "\\textbackslash{}" else (if t then codes "\\textasciitilde{}" else (if u then codes "\\textasciicircum{}" else (if v then tilde ∷ [] else escaped e c)))) ++ cs)
    by_tests true t u v e = refl
    by_tests false true u v e = refl
    by_tests false false true v e = refl
    by_tests false false false true e = refl
    by_tests false false false false true = refl
    by_tests false false false false false = other

-- a group, with an empty one first where it would begin with a backslash
pub group_read : (c : ℕ) (cs : List ℕ) (ms : List Member) → Reads true (written_character c ++ cs) ms → Reads false (open_brace ∷ (guard (written_character c) ++ (written_character c ++ cs))) ms
group_read c cs ms r = by_guard (begins_command (written_character c)) refl
  where
    by_guard : (b : Bool) → begins_command (written_character c) ≡ b → Reads false (open_brace ∷ ((if b then open_brace ∷ close_brace ∷ [] else []) ++ (written_character c ++ cs))) ms
    by_guard true e = opened (open_brace ∷ close_brace ∷ (written_character c ++ cs)) ms refl (nothing_in_group true (written_character c ++ cs) ms r)
    by_guard false e = opened (written_character c ++ cs) ms (begins_alike c cs ∙ e) r
