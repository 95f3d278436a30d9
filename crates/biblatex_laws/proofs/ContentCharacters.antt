-- Contents of characters are made of characters.
use Rattle.std.proofs.Common.{◌≡◌, ℕ, zero, suc, ◌-◌, ◌/◌, ◌%◌, ◌==◌, ◌&&◌, ◌||◌, Bool, true, false, cond, List, [], ◌∷◌, ◌++◌, length, take, drop, map, replicate, Option, Some, None, Result, Ok, refl, sym, subst, arith}
use Rattle.std.specs.Prelude.{IfOk, IfSome, if◌then◌else◌}
use Rattle.std.specs.List.{AllByRecursion}
use Rattle.std.specs.Option.{option_or}
use Rattle.std.proofs.lemmas.List.{take-append-drop}
use lib.Utf8.{scalar}
use Rattle.laws.specs.Characters.{space, dollar_sign, hyphen, backslash, comma, slash, no_break_space, dotless_i, dotless_j, lower_i, lower_j, en_dash, em_dash, thin_space}
use Rattle.laws.specs.Results.{◌>>=◌}
use Rattle.laws.specs.Text.{text}
use Rattle.laws.proofs.Results.{bind_if_ok}
use Rattle.unicode_normalization.specs.Forms.{nfc}
use Rattle.biblatex_tex.specs.Accent.{dotted, marked, with_mark}
use Rattle.biblatex_tex.specs.Character.{is_blank, passes}
use Rattle.biblatex_tex.specs.Command.{letter, letter_character, letter_mark, ligature, sign_mark, sign_text, symbol, text_symbol}
use Rattle.biblatex_tex.specs.declared.character.Class.TheVariants.{Blank}
use Rattle.biblatex_tex.specs.Token.{Token, Text, Hyphens, Tie, Open, Close, Dollar, Sign, Command, paired_of, written}
use Rattle.biblatex_content.specs.declared.chunk.Kind.{Kind}
use Rattle.biblatex_content.specs.declared.chunk.Kind.TheVariants.{Verbatim}
use Rattle.biblatex_content.specs.Ordinary as ordinary
use Rattle.biblatex_content.specs.Ordinary.{State, accented, begun, braces, closed_in, closed_to, dashes, ended_in, given, given_text, hyphens_in, in_math, is_dollar, is_open, kept_in, last_dash, marks_after, opened, settled, step, step_in, steps, text_in, unit, character_or_groups, command, dollar, sign}
use Rattle.biblatex_content.specs.Styled.{Member, Letter, Math, letters, member_text, plain}
use Rattle.biblatex_content.specs.Tidy.{is_space, spaced, squeezed, tidied, without_last_space}
use Rattle.biblatex_content.specs.Verbatim.{is_brace, is_escapable, is_verbatim_escape, verbatim_from, verbatim_piece, verbatim_text}
use Rattle.biblatex_laws.specs.Members.{AreMembersText, IsMemberText}
use Rattle.biblatex_laws.specs.Raw.{AreCharacters}
use Rattle.biblatex_laws.proofs.CharacterLists.{append, both_of, first_of, head, left, one, tail}
use Rattle.biblatex_laws.proofs.ComposedCharacters.{nfc_characters}
use Rattle.biblatex_laws.proofs.TokenCharacters.{IsTokenText, after_characters, paired_characters}

-- members
pub members_after : (ms ns : List Member) → AreMembersText ms → AreMembersText ns → AreMembersText (ms ++ ns)
members_after [] ns p q = q
members_after (m ∷ ms) ns p q = (p.0, members_after ms ns p.1 q)

pub letters_characters : (kind : Kind) (cs : List ℕ) → AreCharacters cs → AreMembersText (letters kind cs)
letters_characters kind [] p = tt
letters_characters kind (c ∷ cs) p = (head c cs p, letters_characters kind cs (tail c cs p))

member_characters : (m : Member) → IsMemberText m → AreCharacters (member_text m)
member_characters (Letter kind c) p = p
member_characters (Math cs) p = p

pub plain_characters : (ms : List Member) → AreMembersText ms → AreCharacters (plain ms)
plain_characters [] p = refl
plain_characters (m ∷ ms) p = append (member_text m) (plain ms) (member_characters m p.0) (plain_characters ms p.1)

-- accents
dotted_character : (c : ℕ) → scalar c ≡ true → scalar (dotted c) ≡ true
dotted_character c p = by (c == dotless_i) (c == dotless_j)
  where
    by : (a b : Bool) → scalar (if a then lower_i else (if b then lower_j else c)) ≡ true
    by true b = refl
    by false true = refl
    by false false = p

with_mark_characters : (mark : ℕ) (cs : List ℕ) → scalar mark ≡ true → AreCharacters cs → AreCharacters (with_mark mark cs)
with_mark_characters mark [] p q = refl
with_mark_characters mark (c ∷ cs) p q =
    append (nfc (dotted c ∷ mark ∷ [])) cs
    (nfc_characters (dotted c ∷ mark ∷ []) (both_of (scalar (dotted c)) _ (dotted_character c (first_of (scalar c) _ q)) (one mark p)))
    (tail c cs q)

marked_characters : (marks cs : List ℕ) → AreCharacters marks → AreCharacters cs → AreCharacters (marked marks cs)
marked_characters [] cs p q = q
marked_characters (mark ∷ marks) cs p q = with_mark_characters mark (marked marks cs) (first_of (scalar mark) _ p) (marked_characters marks cs (tail mark marks p) q)

-- tables of commands
or_has : {V : Type 0} (P : V → Type 0) (o p : Option V) → IfSome o P → IfSome p P → IfSome (option_or o p) P
or_has P None p a b = b
or_has P (Some v) p a b = a

abbrev IsCharacter : ℕ → Type 0
IsCharacter c = scalar c ≡ true

sign_mark_character : (c : ℕ) → IfSome (sign_mark c) IsCharacter
unfolding sign_mark
sign_mark_character c = grind arith

letter_mark_character : (name : List ℕ) → IfSome (letter_mark name) IsCharacter
unfolding letter_mark
letter_mark_character name = grind arith

ligature_character : (name : List ℕ) → IfSome (ligature name) IsCharacter
unfolding ligature
ligature_character name = grind arith

own_letter_character : (name : List ℕ) → IfSome (letter name) IsCharacter
unfolding letter
own_letter_character name = grind arith

symbol_character : (name : List ℕ) → IfSome (symbol name) IsCharacter
unfolding symbol
symbol_character name = grind arith

text_symbol_character : (name : List ℕ) → IfSome (text_symbol name) IsCharacter
unfolding text_symbol
text_symbol_character name = grind arith

letter_character_is : (name : List ℕ) → IfSome (letter_character name) IsCharacter
unfolding letter_character
letter_character_is name =
    or_has IsCharacter (option_or (option_or (ligature name) (letter name)) (symbol name)) (text_symbol name)
    (or_has IsCharacter (option_or (ligature name) (letter name)) (symbol name) (or_has IsCharacter (ligature name) (letter name) (ligature_character name) (own_letter_character name)) (symbol_character name))
    (text_symbol_character name)

sign_text_characters : (c : ℕ) → AreCharacters (c ∷ []) → AreCharacters (sign_text c)
unfolding sign_text
sign_text_characters c p = by (c == backslash || is_blank c) (c == comma) (c == hyphen || c == slash)
  where
    by : (a b d : Bool) → AreCharacters (if a then space ∷ [] else (if b then thin_space ∷ [] else (if d then [] else c ∷ [])))
    by true b d = refl
    by false true d = refl
    by false false true = refl
    by false false false = p

-- the state while an ordinary field is read
record IsStateText (s : State) : Type 0 where
  pub done : AreMembersText s.done
  pub marks : AreCharacters s.marks
  pub math : AreCharacters s.math

taken : (n : ℕ) (cs : List ℕ) → AreCharacters cs → AreCharacters (take n cs)
taken n cs p = left (take n cs) (drop n cs) (subst AreCharacters (sym (take-append-drop n cs)) p)

pub repeated : (n c : ℕ) → scalar c ≡ true → AreCharacters (replicate n c)
repeated zero c p = refl
repeated (suc n) c p = both_of (scalar c) _ p (repeated n c p)

last_dash_characters : (n : ℕ) → AreCharacters (last_dash n)
last_dash_characters n = by (n == 1) (n == 2)
  where
    by : (a b : Bool) → AreCharacters (if a then hyphen ∷ [] else (if b then en_dash ∷ [] else []))
    by true b = refl
    by false true = refl
    by false false = refl

dashes_characters : (n : ℕ) → AreCharacters (dashes n)
dashes_characters n = append (replicate (n / 3) em_dash) (last_dash (n % 3)) (repeated (n / 3) em_dash refl) (last_dash_characters (n % 3))

hyphens_characters : (mode : _) (n : ℕ) → AreCharacters (hyphens_in mode n)
hyphens_characters mode n = grind (arith, dashes_characters n, dashes_characters (n - 1))

text_in_characters : (mode : _) (cs : List ℕ) → AreCharacters cs → AreCharacters (text_in mode cs)
text_in_characters mode cs p = let q = after_characters (passes Blank) cs p in grind (arith, p, q)

given_characters : (cs : List ℕ) (s : State) → AreCharacters cs → IsStateText s → IsStateText (given cs s)
given_characters [] s p h = record { done = h.done; marks = taken (kept_in s.mode s.marks) s.marks h.marks; math = h.math }
given_characters (c ∷ cs) s p h = record {
  done = members_after s.done (letters s.kind (marked s.marks (c ∷ cs))) h.done (letters_characters s.kind (marked s.marks (c ∷ cs)) (marked_characters s.marks (c ∷ cs) h.marks p));
  marks = refl;
  math = h.math;
}

given_text_characters : (cs : List ℕ) (s : State) → AreCharacters cs → IsStateText s → IsStateText (given_text cs s)
given_text_characters [] s p h = h
given_text_characters (c ∷ cs) s p h = given_characters (c ∷ cs) s p h

accented_characters : (mark : ℕ) (s : State) → scalar mark ≡ true → IsStateText s → IsStateText (accented mark s)
accented_characters mark s p h = record { done = h.done; marks = append s.marks (mark ∷ []) h.marks (one mark p); math = h.math }

marks_after_characters : (mode : _) (marks : List ℕ) → AreCharacters marks → AreCharacters (marks_after mode marks)
marks_after_characters mode marks p = grind (arith, p, λ (n : ℕ). taken n marks p)

closed_characters : (fs : List _) (s : State) → IsStateText s → IfOk (closed_to fs s) IsStateText
closed_characters [] s h = tt
closed_characters (f ∷ fs) s h = record { done = h.done; marks = marks_after_characters f.mode s.marks h.marks; math = h.math }

closed_in_characters : (mode : _) (s : State) → IsStateText s → IfOk (closed_in mode s) IsStateText
closed_in_characters mode s h = let q = closed_characters s.frames s h in grind (arith, q)

dollar_characters : (b : Bool) (s : State) → IsStateText s → IsStateText (dollar b s)
dollar_characters true s h = record { done = h.done; marks = refl; math = h.math }
dollar_characters false s h = given_characters (dollar_sign ∷ []) s refl h

sign_characters : (o : Option ℕ) (c : ℕ) (s : State) → IfSome o IsCharacter → AreCharacters (c ∷ []) → IsStateText s → IsStateText (sign o c s)
sign_characters (Some mark) c s m p h = accented_characters mark s m h
sign_characters None c s m p h = given_characters (sign_text c) s (sign_text_characters c p) h

groups_characters : (o : Option ℕ) (s : State) → IfSome o IsCharacter → IsStateText s → IsStateText (character_or_groups o s)
groups_characters (Some c) s m h = given_characters (c ∷ []) s (one c m) h
groups_characters None s m h = record { done = h.done; marks = h.marks; math = h.math }

command_characters : (o : Option ℕ) (name : List ℕ) (s : State) → IfSome o IsCharacter → IsStateText s → IsStateText (command o name s)
command_characters (Some mark) name s m h = accented_characters mark s m h
command_characters None name s m h = groups_characters (letter_character name) s (letter_character_is name) h

opened_characters : (b : Bool) (s : State) → IsStateText s → IsStateText (opened b s)
opened_characters b s h = record { done = h.done; marks = h.marks; math = h.math }

unit_characters : (t : Token) (s : State) → IsTokenText t → IsStateText s → IfOk (unit t s) IsStateText
unit_characters (Text cs) s p h = given_text_characters (text_in s.mode cs) s (text_in_characters s.mode cs p) h
unit_characters (Hyphens cs) s p h = given_characters (hyphens_in s.mode (length cs)) s (hyphens_characters s.mode (length cs)) h
unit_characters Tie s p h = given_characters (no_break_space ∷ []) s refl h
unit_characters (Open b) s p h = opened_characters b s h
unit_characters Close s p h = closed_in_characters s.mode s h
unit_characters (Dollar b) s p h = dollar_characters b s h
unit_characters (Sign c) s p h = sign_characters (sign_mark c) c s (sign_mark_character c) p h
unit_characters (Command name blanks) s p h = command_characters (letter_mark (text name)) (text name) s (letter_mark_character (text name)) h

settled_characters : (b : Bool) (s : State) → IsStateText s → IsStateText (settled b s)
settled_characters true s h = h
settled_characters false s h = given_characters [] s refl h

braces_characters : (t : Token) (s : State) → IsStateText s → IfOk (braces t s) IsStateText
braces_characters (Text cs) s h = h
braces_characters (Hyphens cs) s h = h
braces_characters Tie s h = h
braces_characters (Open b) s h = opened_characters b s h
braces_characters Close s h = closed_characters s.frames s h
braces_characters (Dollar b) s h = h
braces_characters (Sign c) s h = h
braces_characters (Command name blanks) s h = h

either_if_ok : {F A : Type 0} (Q : A → Type 0) (b : Bool) (x y : Result A F) → IfOk x Q → IfOk y Q → IfOk (cond b x y) Q
either_if_ok Q true x y p q = p
either_if_ok Q false x y p q = q

math_characters : (depth : ℕ) (t : Token) (s : State) → IsTokenText t → IsStateText s → IfOk (in_math depth t s) IsStateText
math_characters depth t s p h =
    let ends : State = record s { done = s.done ++ Math s.math ∷ []; math = []; mode = (begun []).mode } in
    either_if_ok IsStateText (is_dollar t && length s.frames == depth) (Ok ends) (braces t s >>= λ r. Ok (record r { math = r.math ++ written t }))
    (record { done = members_after s.done (Math s.math ∷ []) h.done (h.math, tt); marks = h.marks; math = refl })
    (bind_if_ok IsStateText IsStateText (braces t s) (λ r. Ok (record r { math = r.math ++ written t })) (braces_characters t s h)
    (λ r g. record { done = g.done; marks = g.marks; math = append r.math (written t) g.math p }))

step_in_characters : (mode : _) (t : Token) (s : State) → IsTokenText t → IsStateText s → IfOk (step_in mode t s) IsStateText
step_in_characters mode t s p h =
    let one = unit_characters t s p h in
    let two = unit_characters t (settled (is_open t) s) p (settled_characters (is_open t) s h) in
    grind (arith, one, two, λ (depth : ℕ). math_characters depth t s p h)

step_characters : (t : Token) (s : State) → IsTokenText t → IsStateText s → IfOk (step t s) IsStateText
unfolding step
step_characters t s p h = step_in_characters s.mode t s p h

steps_characters : (ts : List Token) (s : State) → AllByRecursion IsTokenText ts → IsStateText s → IfOk (steps ts s) IsStateText
steps_characters [] s all h = h
steps_characters (t ∷ ts) s all h = bind_if_ok IsStateText IsStateText (step t s) (λ r. steps ts r) (step_characters t s all.0 h) (λ r g. steps_characters ts r all.1 g)

ended_characters : (mode : _) (fs : List _) (ms : List Member) → AreMembersText ms → IfOk (ended_in mode fs ms) AreMembersText
ended_characters mode fs ms p = grind (arith, p)

pub ordinary_characters : (cs : List ℕ) → AreCharacters cs → IfOk (ordinary.ordinary cs) AreMembersText
unfolding ordinary.ordinary
ordinary_characters cs p =
    bind_if_ok (AllByRecursion IsTokenText) AreMembersText (paired_of cs) (λ ts. steps ts (begun []) >>= λ s. ended_in s.mode s.frames s.done) (paired_characters cs p)
    (λ ts all. bind_if_ok IsStateText AreMembersText (steps ts (begun [])) (λ s. ended_in s.mode s.frames s.done)
    (steps_characters ts (begun []) all (record { done = tt; marks = refl; math = refl }))
    (λ s h. ended_characters s.mode s.frames s.done h.done))

-- verbatim fields
piece_characters : (b : Bool) (c : ℕ) → AreCharacters (c ∷ []) → AreCharacters (verbatim_piece b c)
piece_characters true c p = by (is_escapable c true true)
  where
    by : (e : Bool) → AreCharacters (if e then c ∷ [] else backslash ∷ c ∷ [])
    by true = p
    by false = p
piece_characters false c p = by (c == backslash || is_brace c)
  where
    by : (e : Bool) → AreCharacters (if e then [] else c ∷ [])
    by true = refl
    by false = p

verbatim_characters : (b : Bool) (cs : List ℕ) → AreCharacters cs → AreCharacters (verbatim_from b cs)
verbatim_characters true [] p = refl
verbatim_characters false [] p = refl
verbatim_characters b (c ∷ cs) p =
    append (verbatim_piece b c) (verbatim_from (is_verbatim_escape b c) cs) (piece_characters b c (head c cs p)) (verbatim_characters (is_verbatim_escape b c) cs (tail c cs p))

pub verbatim_text_characters : (cs : List ℕ) → AreCharacters cs → AreMembersText (letters Verbatim (verbatim_text cs))
verbatim_text_characters cs p = letters_characters Verbatim (verbatim_text cs) (verbatim_characters false cs p)

-- tidying
spaced_characters : (m : Member) → IsMemberText m → IsMemberText (spaced m)
spaced_characters (Letter kind c) p = by (is_blank c)
  where
    by : (b : Bool) → IsMemberText (if b then Letter kind space else Letter kind c)
    by true = refl
    by false = p
spaced_characters (Math cs) p = p

all_spaced : (ms : List Member) → AreMembersText ms → AreMembersText (map spaced ms)
all_spaced [] p = tt
all_spaced (m ∷ ms) p = (spaced_characters m p.0, all_spaced ms p.1)

squeezed_characters : (b : Bool) (ms : List Member) → AreMembersText ms → AreMembersText (squeezed b ms)
squeezed_characters b [] p = tt
squeezed_characters b (m ∷ ms) p = by (squeezed_characters true ms p.1) (squeezed_characters false ms p.1) (is_space m) b
  where
    by : AreMembersText (squeezed true ms) → AreMembersText (squeezed false ms) → (s c : Bool)
        → AreMembersText (if s then (if c then squeezed true ms else m ∷ squeezed true ms) else m ∷ squeezed false ms)
    by q r true true = q
    by q r true false = (p.0, q)
    by q r false c = (p.0, r)

without_last_characters : (ms : List Member) → AreMembersText ms → AreMembersText (without_last_space ms)
without_last_characters [] p = tt
without_last_characters (m ∷ []) p = by (is_space m)
  where
    by : (b : Bool) → AreMembersText (if b then [] else m ∷ [])
    by true = tt
    by false = p
without_last_characters (m ∷ n ∷ ms) p = (p.0, without_last_characters (n ∷ ms) p.1)

pub tidied_characters : (ms : List Member) → AreMembersText ms → AreMembersText (tidied ms)
tidied_characters ms p = without_last_characters (squeezed true (map spaced ms)) (squeezed_characters true (map spaced ms) (all_spaced ms p))
