-- Every text has rows up to a closing brace or its end, or is malformed from each state in which a row begins.
use Rattle.std.proofs.Common.{◌≡◌, ℕ, zero, suc, ◌≤◌, ◌<◌, Bool, true, false, eqb, List, [], ◌∷◌, ◌++◌, length, Option, Some, None, Result, Ok, Err, refl, sym, ap, ◌∙◌, subst, inl, inr, arith}
use Rattle.std.specs.Prelude.{◌⊎◌}
use Rattle.std.specs.Char.{is_ascii_alphabetic}
use Rattle.std.proofs.lemmas.Bool.{eqb-true, or_from, not_from_false}
use Rattle.std.proofs.lemmas.List.{length-append}
use Rattle.laws.specs.Characters.{dollar_sign, hyphen, backslash, comma, open_brace, close_brace, tilde, space, thin_space, no_break_space}
use Rattle.laws.specs.Runs.{prefix_of, after}
use Rattle.laws.specs.Text.{text, is_filled}
use Rattle.laws.proofs.Runs.{prefix-after, all-prefix, bars-after, length-after}
use Rattle.biblatex_tex.specs.Character.{is_blank}
use Rattle.biblatex_tex.specs.Command.{sign_mark, letter_mark, letter_character}
use Rattle.biblatex_tex.specs.Token.{Token, tokens_of}
use Rattle.biblatex_tex.specs.declared.error.ContentError.{ContentError}
use Rattle.biblatex_tex.specs.declared.error.ContentError.TheVariants.{MalformedCommand}
use Rattle.biblatex_content.specs.declared.chunk.Kind.{Kind}
use Rattle.biblatex_content.specs.declared.chunk.Kind.TheVariants.{Verbatim}
use Rattle.biblatex_content.specs.Styled.{Member, Math, letters}
use Rattle.biblatex_content.specs.Ordinary.{kept_in, dollar}
use Rattle.biblatex_readings_grammar.specs.Characters.{is_reserved}
use Rattle.biblatex_readings_grammar.specs.Commands.{AreBlanks, IsCommand, is_space_sign, is_empty_sign, is_other_sign, Spells, tie, reserved, blank, thin, empty, named, other, itself}
use Rattle.biblatex_readings_grammar.specs.Commands as spelling
use Rattle.biblatex_readings_grammar.specs.Math.{IsMath}
use Rattle.biblatex_readings_grammar.specs.Ordinary.{accented, AreRows, no_rows, row, IsRow, three_hyphens, two_hyphens, one_hyphen, command_group, group, unit, IsUnit, characters, accent_sign, accent_letter, passed_over, math, IsArgument, in_braces, a_hyphen, a_unit, AreGroups, no_groups, a_group}
use Rattle.biblatex_readings_grammar.proofs.Modes.{Mode, Frames, free, argument_of, groups_of, around, standing, IsReady, free_ready, argument_ready}
use Rattle.biblatex_readings_grammar.proofs.AccentMarks.{done_with, left_with}
use Rattle.biblatex_readings_grammar.proofs.Dollars.{plain_from, Found, Lone, finds, lone-lacks}
use Rattle.biblatex_readings_grammar.proofs.Whole.{whole, gave, whole-end, whole-fault, dollar-whole, close-whole, close-no_argument, nil-no_argument, nil-fails}
use Rattle.biblatex_readings_grammar.proofs.ContentAgain.{blanks-whole, group-opens, command_group-opens, argument-opens, groups-open-whole, accent-opens, letter-opens, passed-opens, more_kept, rows-again, row-again}

-- ---- what is related, and what fails

-- rows up to a closing brace or the end
pub record Rows (kind : Kind) (cs : List ℕ) : Type 0 where
  pub members : List Member
  pub rest : List ℕ
  pub are : AreRows kind cs members rest
  pub few : length rest ≤ length cs
  pub stops : (rest ≡ []) ⊎ ((r : List ℕ) × (rest ≡ close_brace ∷ r))

record Row (kind : Kind) (cs : List ℕ) : Type 0 where
  pub members : List Member
  pub rest : List ℕ
  pub is : IsRow kind cs members rest
  pub few : length rest < length cs

record OneUnit (kind : Kind) (cs : List ℕ) : Type 0 where
  pub members : List Member
  pub rest : List ℕ
  pub is : IsUnit kind cs members rest
  pub few : length rest < length cs

record OneArgument (kind : Kind) (cs : List ℕ) : Type 0 where
  pub members : List Member
  pub rest : List ℕ
  pub is : IsArgument kind cs members rest
  pub few : length rest ≤ length cs

record AllGroups (kind : Kind) (cs : List ℕ) : Type 0 where
  pub members : List Member
  pub rest : List ℕ
  pub are : AreGroups kind cs members rest
  pub few : length rest ≤ length cs

abbrev pub Fails : Kind → List ℕ → Type 0
Fails kind cs = (frames : Frames) (done : List Member) (marks : List ℕ) → whole cs (standing kind frames free done marks) ≡ Err MalformedCommand

abbrev UnitFails : Kind → List ℕ → Type 0
UnitFails kind cs = (frames : Frames) (mode : Mode) (done : List Member) (marks : List ℕ) → IsReady mode → kept_in mode marks ≤ length marks → whole cs (standing kind frames mode done marks) ≡ Err MalformedCommand

abbrev ArgumentFails : Kind → List ℕ → Type 0
ArgumentFails kind cs =
    (frames : Frames) (mode : Mode) (waited : List ℕ) (done : List Member) (marks : List ℕ) → kept_in mode waited ≤ length marks
    → whole cs (standing kind frames (argument_of mode waited) done marks) ≡ Err MalformedCommand

abbrev GroupsFail : Kind → List ℕ → Type 0
GroupsFail kind cs =
    (frames : Frames) (mode : Mode) (waited : List ℕ) (done : List Member) (marks : List ℕ) → whole cs (standing kind frames (groups_of mode waited) done marks) ≡ Err MalformedCommand

-- a character that begins neither hyphens nor a group, and ends none
record Begins (c : ℕ) : Type 0 where
  pub no_hyphen : eqb c hyphen ≡ false
  pub no_open : eqb c open_brace ≡ false
  pub no_close : eqb c close_brace ≡ false

-- what holds of all texts of fewer characters
record Progress (n : ℕ) : Type 0 where
  pub rows : (kind : Kind) (cs : List ℕ) → length cs < n → Rows kind cs ⊎ Fails kind cs
  pub units : (kind : Kind) (c : ℕ) (cs : List ℕ) → length (c ∷ cs) < n → Begins c → OneUnit kind (c ∷ cs) ⊎ UnitFails kind (c ∷ cs)
  pub groups : (kind : Kind) (cs : List ℕ) → length cs < n → AllGroups kind cs ⊎ GroupsFail kind cs

-- ---- arguments

all_blanks : (cs : List ℕ) → AreBlanks cs (after is_blank cs)
all_blanks cs = (prefix_of is_blank cs, prefix-after is_blank cs, all-prefix is_blank cs, bars-after is_blank cs)

argument-braces : (kind : Kind) (cs ds : List ℕ) → AreBlanks cs (open_brace ∷ ds) → length ds ≤ length cs → Rows kind ds ⊎ Fails kind ds → OneArgument kind cs ⊎ ArgumentFails kind cs
argument-braces kind cs ds blanks few (inr never) =
    inr (λ frames mode waited done marks less. blanks-whole kind frames mode waited done marks cs (open_brace ∷ ds) blanks
    ∙ (argument-opens kind frames mode waited done marks ds ∙ never (around kind (argument_of mode waited) frames) done marks))
argument-braces kind cs ds blanks few (inl r) = by_end r.rest r.are r.few r.stops
  where
    by_end : (rest : List ℕ) → AreRows kind ds r.members rest → length rest ≤ length ds → (rest ≡ []) ⊎ ((q : List ℕ) × (rest ≡ close_brace ∷ q)) → OneArgument kind cs ⊎ ArgumentFails kind cs
    by_end rest are less (inl e) =
        inr (λ frames mode waited done marks kept. blanks-whole kind frames mode waited done marks cs (open_brace ∷ ds) blanks
        ∙ (argument-opens kind frames mode waited done marks ds
        ∙ (rows-again kind ds r.members rest are (around kind (argument_of mode waited) frames) done marks
        ∙ (ap (λ (x : List ℕ). whole x (gave kind (around kind (argument_of mode waited) frames) free done marks r.members)) e
        ∙ nil-fails kind kind frames (argument_of mode waited) (done_with done marks r.members) (left_with free marks r.members)))))
    by_end rest are less (inr (q, e)) =
        inl record { members = r.members; rest = q; is = in_braces kind cs ds q r.members blanks (subst (AreRows kind ds r.members) e are); few = omega (arith, few, less, ap length e) }

argument : (n : ℕ) → Progress n → (kind : Kind) (cs : List ℕ) → length cs < n → OneArgument kind cs ⊎ ArgumentFails kind cs
argument n p kind cs few = by_first (after is_blank cs) (all_blanks cs) (length-after is_blank cs)
  where
    by_tests : (c : ℕ) (ds : List ℕ) → AreBlanks cs (c ∷ ds) → length (c ∷ ds) ≤ length cs → (x y z : Bool) → eqb c open_brace ≡ x → eqb c close_brace ≡ y → eqb c hyphen ≡ z → OneArgument kind cs ⊎ ArgumentFails kind cs
    by_tests c ds blanks less true y z ex ey ez =
        let begins : AreBlanks cs (open_brace ∷ ds) = subst (λ (x : ℕ). AreBlanks cs (x ∷ ds)) (eqb-true c open_brace ex) blanks in
        argument-braces kind cs ds begins (omega (arith, less)) (p.rows kind ds (omega (arith, few, less)))
    by_tests c ds blanks less false true z ex ey ez =
        let begins : AreBlanks cs (close_brace ∷ ds) = subst (λ (x : ℕ). AreBlanks cs (x ∷ ds)) (eqb-true c close_brace ey) blanks in
        inr (λ frames mode waited done marks kept. blanks-whole kind frames mode waited done marks cs (close_brace ∷ ds) begins ∙ close-no_argument kind frames mode waited done marks ds)
    by_tests c ds blanks less false false true ex ey ez =
        let begins : AreBlanks cs (hyphen ∷ ds) = subst (λ (x : ℕ). AreBlanks cs (x ∷ ds)) (eqb-true c hyphen ez) blanks in
        inl record { members = letters kind (hyphen ∷ []); rest = ds; is = a_hyphen kind cs ds begins; few = omega (arith, less) }
    by_tests c ds blanks less false false false ex ey ez = by_unit (p.units kind c ds (omega (arith, few, less)) record { no_hyphen = ez; no_open = ex; no_close = ey })
      where
        by_unit : OneUnit kind (c ∷ ds) ⊎ UnitFails kind (c ∷ ds) → OneArgument kind cs ⊎ ArgumentFails kind cs
        by_unit (inl u) = inl record { members = u.members; rest = u.rest; is = a_unit kind cs (c ∷ ds) u.rest u.members blanks u.is; few = omega (arith, less, u.few) }
        by_unit (inr never) =
            inr (λ frames mode waited done marks kept. blanks-whole kind frames mode waited done marks cs (c ∷ ds) blanks
            ∙ never frames (argument_of mode waited) done marks (argument_ready mode waited) kept)

    by_first : (a : List ℕ) → AreBlanks cs a → length a ≤ length cs → OneArgument kind cs ⊎ ArgumentFails kind cs
    by_first [] blanks less = inr (λ frames mode waited done marks kept. blanks-whole kind frames mode waited done marks cs [] blanks ∙ nil-no_argument kind frames mode waited done marks)
    by_first (c ∷ ds) blanks less = by_tests c ds blanks less (eqb c open_brace) (eqb c close_brace) (eqb c hyphen) refl refl refl

-- ---- groups

more_groups : (n : ℕ) → Progress n → (kind : Kind) (cs : List ℕ) → length cs < suc n → AllGroups kind cs ⊎ GroupsFail kind cs
more_groups n p kind [] few = inl record { members = []; rest = []; are = no_groups kind [] tt; few = omega arith }
more_groups n p kind (c ∷ cs) few = by_test (eqb c open_brace) refl
  where
    by_more : (r : Rows kind cs) (b : List ℕ) → r.rest ≡ close_brace ∷ b → AllGroups kind b ⊎ GroupsFail kind b → AllGroups kind (open_brace ∷ cs) ⊎ GroupsFail kind (open_brace ∷ cs)
    by_more r b e (inl g) =
        inl record {
          members = r.members ++ g.members;
          rest = g.rest;
          are = a_group kind cs b g.rest r.members g.members (subst (AreRows kind cs r.members) e r.are) g.are;
          few = omega (arith, g.few, r.few, ap length e);
        }
    by_more r b e (inr never) =
        inr (λ frames mode waited done marks. groups-open-whole kind frames mode waited done marks cs
        ∙ (rows-again kind cs r.members r.rest r.are (around kind (groups_of mode waited) frames) done marks
        ∙ (ap (λ (x : List ℕ). whole x (gave kind (around kind (groups_of mode waited) frames) free done marks r.members)) e
        ∙ (close-whole kind kind frames (groups_of mode waited) (done_with done marks r.members) (left_with free marks r.members) b
        ∙ never frames mode waited (done_with done marks r.members) (left_with free marks r.members)))))

    by_rows : Rows kind cs ⊎ Fails kind cs → AllGroups kind (open_brace ∷ cs) ⊎ GroupsFail kind (open_brace ∷ cs)
    by_rows (inr never) = inr (λ frames mode waited done marks. groups-open-whole kind frames mode waited done marks cs ∙ never (around kind (groups_of mode waited) frames) done marks)
    by_rows (inl r) = by_end r.stops
      where
        by_end : (r.rest ≡ []) ⊎ ((q : List ℕ) × (r.rest ≡ close_brace ∷ q)) → AllGroups kind (open_brace ∷ cs) ⊎ GroupsFail kind (open_brace ∷ cs)
        by_end (inl e) =
            inr (λ frames mode waited done marks. groups-open-whole kind frames mode waited done marks cs
            ∙ (rows-again kind cs r.members r.rest r.are (around kind (groups_of mode waited) frames) done marks
            ∙ (ap (λ (x : List ℕ). whole x (gave kind (around kind (groups_of mode waited) frames) free done marks r.members)) e
            ∙ nil-fails kind kind frames (groups_of mode waited) (done_with done marks r.members) (left_with free marks r.members))))
        by_end (inr (q, e)) = by_more r q e (p.groups kind q (omega (arith, few, r.few, ap length e)))

    by_test : (x : Bool) → eqb c open_brace ≡ x → AllGroups kind (c ∷ cs) ⊎ GroupsFail kind (c ∷ cs)
    by_test true e = subst (λ (x : ℕ). AllGroups kind (x ∷ cs) ⊎ GroupsFail kind (x ∷ cs)) (sym (eqb-true c open_brace e)) (by_rows (p.rows kind cs (omega (arith, few))))
    by_test false e = inl record { members = []; rest = c ∷ cs; are = no_groups kind (c ∷ cs) e; few = omega arith }

-- ---- units

spelled_unit : (kind : Kind) (cs given rest : List ℕ) → Spells cs given rest → length rest < length cs → OneUnit kind cs
spelled_unit kind cs given rest is few = record { members = letters kind given; rest = rest; is = characters kind cs given rest is; few = few }

-- a backslash and a sign that is no mark
sign-spells : (d : ℕ) (es : List ℕ) → is_ascii_alphabetic d ≡ false → sign_mark d ≡ None → (given : List ℕ) × Spells (backslash ∷ d ∷ es) given es
sign-spells d es no_letter no_mark = by_tests (is_reserved d) (is_space_sign d) (eqb d comma) (is_empty_sign d) refl refl refl refl
  where
    by_tests : (w x y z : Bool) → is_reserved d ≡ w → is_space_sign d ≡ x → eqb d comma ≡ y → is_empty_sign d ≡ z → (given : List ℕ) × Spells (backslash ∷ d ∷ es) given es
    by_tests true x y z ew ex ey ez = (d ∷ [], reserved d es ew)
    by_tests false true y z ew ex ey ez = (space ∷ [], blank d es ex)
    by_tests false false true z ew ex ey ez = (thin_space ∷ [], subst (λ (x : ℕ). Spells (backslash ∷ x ∷ es) (thin_space ∷ []) es) (sym (eqb-true d comma ey)) (thin es))
    by_tests false false false true ew ex ey ez = ([], empty d es ez)
    by_tests false false false false ew ex ey ez =
        let none = or_from _ _ (or_from _ _ (or_from _ _ (or_from (is_reserved d) (is_space_sign d) ew ex) ey) ez) no_letter in
        (d ∷ [], other d es (not_from_false _ none) no_mark)

sign-unit : (n : ℕ) → Progress n → (kind : Kind) (d : ℕ) (es : List ℕ) → length es < n → is_ascii_alphabetic d ≡ false → OneUnit kind (backslash ∷ d ∷ es) ⊎ UnitFails kind (backslash ∷ d ∷ es)
sign-unit n p kind d es few no_letter = by_mark (sign_mark d) refl
  where
    by_argument : (mark : ℕ) → sign_mark d ≡ Some mark → OneArgument kind es ⊎ ArgumentFails kind es → OneUnit kind (backslash ∷ d ∷ es) ⊎ UnitFails kind (backslash ∷ d ∷ es)
    by_argument mark e (inl a) = inl record { members = accented mark a.members; rest = a.rest; is = accent_sign kind d mark es a.rest a.members e a.is; few = omega (arith, a.few) }
    by_argument mark e (inr never) =
        inr (λ frames mode done marks ready kept. accent-opens kind frames mode done marks d mark es ready e ∙ never frames mode marks done (marks ++ mark ∷ []) (more_kept mode marks mark kept))

    by_mark : (o : Option ℕ) → sign_mark d ≡ o → OneUnit kind (backslash ∷ d ∷ es) ⊎ UnitFails kind (backslash ∷ d ∷ es)
    by_mark (Some mark) e = by_argument mark e (argument n p kind es few)
    by_mark None e = let s = sign-spells d es no_letter e in inl (spelled_unit kind (backslash ∷ d ∷ es) s.0 es s.1 (omega arith))

command-unit : (n : ℕ) → Progress n → (kind : Kind) (cs name rest : List ℕ) → length rest < length cs → length rest < n → IsCommand cs name rest → OneUnit kind cs ⊎ UnitFails kind cs
command-unit n p kind cs name rest less few is = by_mark (letter_mark (text name)) (letter_character (text name)) refl refl
  where
    by_argument : (mark : ℕ) → letter_mark (text name) ≡ Some mark → OneArgument kind rest ⊎ ArgumentFails kind rest → OneUnit kind cs ⊎ UnitFails kind cs
    by_argument mark e (inl a) = inl record { members = accented mark a.members; rest = a.rest; is = accent_letter kind mark cs name rest a.rest a.members is e a.is; few = omega (arith, a.few, less) }
    by_argument mark e (inr never) =
        inr (λ frames mode done marks ready kept. letter-opens kind frames mode done marks mark cs name rest ready is e ∙ never frames mode marks done (marks ++ mark ∷ []) (more_kept mode marks mark kept))

    by_groups : letter_mark (text name) ≡ None → letter_character (text name) ≡ None → AllGroups kind rest ⊎ GroupsFail kind rest → OneUnit kind cs ⊎ UnitFails kind cs
    by_groups e f (inl g) = inl record { members = g.members; rest = g.rest; is = passed_over kind cs name rest g.rest g.members is e f g.are; few = omega (arith, g.few, less) }
    by_groups e f (inr never) = inr (λ frames mode done marks ready kept. passed-opens kind frames mode done marks cs name rest ready is e f ∙ never frames mode marks done marks)

    by_mark : (o q : Option ℕ) → letter_mark (text name) ≡ o → letter_character (text name) ≡ q → OneUnit kind cs ⊎ UnitFails kind cs
    by_mark (Some mark) q e f = by_argument mark e (argument n p kind rest few)
    by_mark None (Some c) e f = inl (spelled_unit kind cs (c ∷ []) rest (named cs name c rest is e f) less)
    by_mark None None e f = by_groups e f (p.groups kind rest few)

letters_command : (d : ℕ) (es : List ℕ) → is_ascii_alphabetic d ≡ true → IsCommand (backslash ∷ d ∷ es) (prefix_of is_ascii_alphabetic (d ∷ es)) (after is_blank (after is_ascii_alphabetic (d ∷ es)))
letters_command d es e =
    (after is_ascii_alphabetic (d ∷ es), ap (λ (x : List ℕ). backslash ∷ x) (prefix-after is_ascii_alphabetic (d ∷ es)), all-prefix is_ascii_alphabetic (d ∷ es), filled, bars-after is_ascii_alphabetic (d ∷ es), all_blanks (after is_ascii_alphabetic (d ∷ es)))
  where
    filled : is_filled (prefix_of is_ascii_alphabetic (d ∷ es)) ≡ true
    filled = rw e refl

backslash-unit : (n : ℕ) → Progress n → (kind : Kind) (cs : List ℕ) → length cs < n → OneUnit kind (backslash ∷ cs) ⊎ UnitFails kind (backslash ∷ cs)
backslash-unit n p kind [] few = inr (λ frames mode done marks ready kept. whole-end (standing kind frames mode done marks))
backslash-unit n p kind (d ∷ es) few = by_test (is_ascii_alphabetic d) refl
  where
    rest : List ℕ
    rest = after is_blank (after is_ascii_alphabetic (d ∷ es))

    short : length rest ≤ length (d ∷ es)
    short = omega (arith, length-after is_blank (after is_ascii_alphabetic (d ∷ es)), length-after is_ascii_alphabetic (d ∷ es))

    by_test : (b : Bool) → is_ascii_alphabetic d ≡ b → OneUnit kind (backslash ∷ d ∷ es) ⊎ UnitFails kind (backslash ∷ d ∷ es)
    by_test true e =
        let less : length rest ≤ length (d ∷ es) = short in
        command-unit n p kind (backslash ∷ d ∷ es) (prefix_of is_ascii_alphabetic (d ∷ es)) rest (omega (arith, less)) (omega (arith, less, few)) (letters_command d es e)
    by_test false e = sign-unit n p kind d es (omega (arith, few)) e

dollar-unit : (kind : Kind) (cs : List ℕ) → OneUnit kind (dollar_sign ∷ cs) ⊎ UnitFails kind (dollar_sign ∷ cs)
dollar-unit kind cs = by_partner (finds (suc (length cs)) cs (omega arith))
  where
    shorter : (t r : List ℕ) → IsMath cs t r → length r < length (dollar_sign ∷ cs)
    shorter t r is = omega (arith, ap length is.1, length-append t (dollar_sign ∷ r))

    by_tokens : Lone cs → (r : Result (List Token) ContentError) → tokens_of cs ≡ r → OneUnit kind (dollar_sign ∷ cs) ⊎ UnitFails kind (dollar_sign ∷ cs)
    by_tokens lone (Err f) e =
        inr (λ frames mode done marks ready kept. dollar-whole kind frames mode done marks cs false ready (λ ts is. absurd (never f ts (sym e ∙ is))) ∙ whole-fault cs f (dollar false (standing kind frames mode done marks)) e)
      where
        never : (g : ContentError) (ts : List Token) → ◌≡◌ {A = Result (List Token) ContentError} (Err g) (Ok ts) → ⊥
        never g ts h = cc
    by_tokens lone (Ok ts) e = inl (spelled_unit kind (dollar_sign ∷ cs) (dollar_sign ∷ []) cs (spelling.dollar cs (lone-lacks cs lone ts e)) (omega arith))

    by_partner : Found cs ⊎ Lone cs → OneUnit kind (dollar_sign ∷ cs) ⊎ UnitFails kind (dollar_sign ∷ cs)
    by_partner (inl f) = inl record { members = Math f.inner ∷ []; rest = f.rest; is = math kind cs f.inner f.rest f.math; few = shorter f.inner f.rest f.math }
    by_partner (inr lone) = by_tokens lone (tokens_of cs) refl

more_units : (n : ℕ) → Progress n → (kind : Kind) (c : ℕ) (cs : List ℕ) → length (c ∷ cs) < suc n → Begins c → OneUnit kind (c ∷ cs) ⊎ UnitFails kind (c ∷ cs)
more_units n p kind c cs few begins = by_tests (eqb c backslash) (eqb c dollar_sign) (eqb c tilde) refl refl refl
  where
    by_tests : (x y z : Bool) → eqb c backslash ≡ x → eqb c dollar_sign ≡ y → eqb c tilde ≡ z → OneUnit kind (c ∷ cs) ⊎ UnitFails kind (c ∷ cs)
    by_tests true y z ex ey ez = subst (λ (x : ℕ). OneUnit kind (x ∷ cs) ⊎ UnitFails kind (x ∷ cs)) (sym (eqb-true c backslash ex)) (backslash-unit n p kind cs (omega (arith, few)))
    by_tests false true z ex ey ez = subst (λ (x : ℕ). OneUnit kind (x ∷ cs) ⊎ UnitFails kind (x ∷ cs)) (sym (eqb-true c dollar_sign ey)) (dollar-unit kind cs)
    by_tests false false true ex ey ez =
        inl (subst (λ (x : ℕ). OneUnit kind (x ∷ cs)) (sym (eqb-true c tilde ez)) (spelled_unit kind (tilde ∷ cs) (no_break_space ∷ []) cs (tie cs) (omega arith)))
    by_tests false false false ex ey ez =
        let plain = plain_from c (or_from _ _ (or_from _ _ begins.no_open begins.no_close) ex) ey ez begins.no_hyphen in
        inl (spelled_unit kind (c ∷ cs) (c ∷ []) cs (itself c cs plain) (omega arith))

-- ---- rows

-- after a group
group-row : (kind inside : Kind) (cs ds : List ℕ) → ((ms : List Member) (r : List ℕ) → AreRows inside ds ms (close_brace ∷ r) → IsRow kind cs ms r)
    → ((frames : Frames) (done : List Member) (marks : List ℕ) → whole cs (standing kind frames free done marks) ≡ whole ds (standing inside (around kind free frames) free done marks))
    → length ds ≤ length cs → Rows inside ds ⊎ Fails inside ds → Row kind cs ⊎ Fails kind cs
group-row kind inside cs ds is opens less (inr never) = inr (λ frames done marks. opens frames done marks ∙ never (around kind free frames) done marks)
group-row kind inside cs ds is opens less (inl r) = by_end r.stops
  where
    by_end : (r.rest ≡ []) ⊎ ((q : List ℕ) × (r.rest ≡ close_brace ∷ q)) → Row kind cs ⊎ Fails kind cs
    by_end (inl e) =
        inr (λ frames done marks. opens frames done marks
        ∙ (rows-again inside ds r.members r.rest r.are (around kind free frames) done marks
        ∙ (ap (λ (x : List ℕ). whole x (gave inside (around kind free frames) free done marks r.members)) e
        ∙ nil-fails inside kind frames free (done_with done marks r.members) (left_with free marks r.members))))
    by_end (inr (q, e)) =
        inl record { members = r.members; rest = q; is = is r.members q (subst (AreRows inside ds r.members) e r.are); few = omega (arith, less, r.few, ap length e) }

open-row : (n : ℕ) → Progress n → (kind : Kind) (cs : List ℕ) → length cs < n → Row kind (open_brace ∷ cs) ⊎ Fails kind (open_brace ∷ cs)
open-row n p kind [] few =
    group-row kind Verbatim (open_brace ∷ []) [] (λ ms r is. group kind [] r ms tt is) (λ frames done marks. group-opens kind frames done marks [] tt) (omega arith) (p.rows Verbatim [] few)
open-row n p kind (d ∷ ds) few = by_test (eqb d backslash) refl
  where
    by_test : (b : Bool) → eqb d backslash ≡ b → Row kind (open_brace ∷ d ∷ ds) ⊎ Fails kind (open_brace ∷ d ∷ ds)
    by_test true e =
        subst (λ (x : ℕ). Row kind (open_brace ∷ x ∷ ds) ⊎ Fails kind (open_brace ∷ x ∷ ds)) (sym (eqb-true d backslash e))
        (group-row kind kind (open_brace ∷ backslash ∷ ds) (backslash ∷ ds) (λ ms r is. command_group kind ds r ms is) (λ frames done marks. command_group-opens kind frames done marks ds) (omega arith)
        (p.rows kind (backslash ∷ ds) few))
    by_test false e =
        group-row kind Verbatim (open_brace ∷ d ∷ ds) (d ∷ ds) (λ ms r is. group kind (d ∷ ds) r ms e is) (λ frames done marks. group-opens kind frames done marks (d ∷ ds) e) (omega arith)
        (p.rows Verbatim (d ∷ ds) few)

a_row : (kind : Kind) (cs : List ℕ) (ms : List Member) (rest : List ℕ) → IsRow kind cs ms rest → length rest < length cs → Row kind cs
a_row kind cs ms rest is few = record { members = ms; rest = rest; is = is; few = few }

hyphen-row : (kind : Kind) (cs : List ℕ) → Row kind (hyphen ∷ cs)
hyphen-row kind [] = a_row kind (hyphen ∷ []) _ [] (one_hyphen kind [] tt) (omega arith)
hyphen-row kind (d ∷ ds) = by_second (eqb d hyphen) refl
  where
    by_third : (es : List ℕ) → ds ≡ es → Row kind (hyphen ∷ hyphen ∷ es)
    by_third [] e = a_row kind (hyphen ∷ hyphen ∷ []) _ [] (two_hyphens kind [] tt) (omega arith)
    by_third (e ∷ es) is = by_test (eqb e hyphen) refl
      where
        by_test : (b : Bool) → eqb e hyphen ≡ b → Row kind (hyphen ∷ hyphen ∷ e ∷ es)
        by_test true same =
            subst (λ (x : ℕ). Row kind (hyphen ∷ hyphen ∷ x ∷ es)) (sym (eqb-true e hyphen same)) (a_row kind (hyphen ∷ hyphen ∷ hyphen ∷ es) _ es (three_hyphens kind es) (omega arith))
        by_test false same = a_row kind (hyphen ∷ hyphen ∷ e ∷ es) _ (e ∷ es) (two_hyphens kind (e ∷ es) same) (omega arith)

    by_second : (b : Bool) → eqb d hyphen ≡ b → Row kind (hyphen ∷ d ∷ ds)
    by_second true same = subst (λ (x : ℕ). Row kind (hyphen ∷ x ∷ ds)) (sym (eqb-true d hyphen same)) (by_third ds refl)
    by_second false same = a_row kind (hyphen ∷ d ∷ ds) _ (d ∷ ds) (one_hyphen kind (d ∷ ds) same) (omega arith)

first_row : (n : ℕ) → Progress n → (kind : Kind) (c : ℕ) (cs : List ℕ) → length (c ∷ cs) < suc n → eqb c close_brace ≡ false → Row kind (c ∷ cs) ⊎ Fails kind (c ∷ cs)
first_row n p kind c cs few no_close = by_tests (eqb c open_brace) (eqb c hyphen) refl refl
  where
    by_unit : OneUnit kind (c ∷ cs) ⊎ UnitFails kind (c ∷ cs) → Row kind (c ∷ cs) ⊎ Fails kind (c ∷ cs)
    by_unit (inl u) = inl record { members = u.members; rest = u.rest; is = unit kind (c ∷ cs) u.rest u.members u.is; few = u.few }
    by_unit (inr never) = inr (λ frames done marks. never frames free done marks free_ready (omega arith))

    by_tests : (x y : Bool) → eqb c open_brace ≡ x → eqb c hyphen ≡ y → Row kind (c ∷ cs) ⊎ Fails kind (c ∷ cs)
    by_tests true y ex ey = subst (λ (x : ℕ). Row kind (x ∷ cs) ⊎ Fails kind (x ∷ cs)) (sym (eqb-true c open_brace ex)) (open-row n p kind cs (omega (arith, few)))
    by_tests false true ex ey = inl (subst (λ (x : ℕ). Row kind (x ∷ cs)) (sym (eqb-true c hyphen ey)) (hyphen-row kind cs))
    by_tests false false ex ey = by_unit (more_units n p kind c cs few record { no_hyphen = ey; no_open = ex; no_close = no_close })

after_row : (kind : Kind) (cs : List ℕ) (r : Row kind cs) → Rows kind r.rest ⊎ Fails kind r.rest → Rows kind cs ⊎ Fails kind cs
after_row kind cs r (inl more) =
    inl record {
      members = r.members ++ more.members;
      rest = more.rest;
      are = row kind cs r.rest more.rest r.members more.members r.is more.are;
      few = omega (arith, r.few, more.few);
      stops = more.stops;
    }
after_row kind cs r (inr never) = inr (λ frames done marks. row-again kind cs r.members r.rest r.is frames done marks ∙ never frames (done_with done marks r.members) (left_with free marks r.members))

more_rows : (n : ℕ) → Progress n → (kind : Kind) (cs : List ℕ) → length cs < suc n → Rows kind cs ⊎ Fails kind cs
more_rows n p kind [] few = inl record { members = []; rest = []; are = no_rows kind []; few = omega arith; stops = inl refl }
more_rows n p kind (c ∷ cs) few = by_test (eqb c close_brace) refl
  where
    by_row : Row kind (c ∷ cs) ⊎ Fails kind (c ∷ cs) → Rows kind (c ∷ cs) ⊎ Fails kind (c ∷ cs)
    by_row (inl r) = after_row kind (c ∷ cs) r (p.rows kind r.rest (omega (arith, few, r.few)))
    by_row (inr never) = inr never

    by_test : (b : Bool) → eqb c close_brace ≡ b → Rows kind (c ∷ cs) ⊎ Fails kind (c ∷ cs)
    by_test true e = inl record { members = []; rest = c ∷ cs; are = no_rows kind (c ∷ cs); few = omega arith; stops = inr (cs, ap (λ (x : ℕ). x ∷ cs) (eqb-true c close_brace e)) }
    by_test false e = by_row (first_row n p kind c cs few e)

progress : (n : ℕ) → Progress n
progress zero = record { rows = λ kind cs few. absurd (omega (arith, few)); units = λ kind c cs few begins. absurd (omega (arith, few)); groups = λ kind cs few. absurd (omega (arith, few)) }
progress (suc n) =
    let p = progress n in
    record { rows = λ kind cs few. more_rows n p kind cs few; units = λ kind c cs few begins. more_units n p kind c cs few begins; groups = λ kind cs few. more_groups n p kind cs few }

pub rows-take : (kind : Kind) (cs : List ℕ) → Rows kind cs ⊎ Fails kind cs
rows-take kind cs = (progress (suc (length cs))).rows kind cs (omega arith)
