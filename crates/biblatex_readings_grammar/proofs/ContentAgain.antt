-- What is related to a text of an ordinary field is read of it.
use Rattle.std.proofs.Common.{◌≡◌, ℕ, ◌≤◌, Bool, true, false, true≢false, List, [], ◌∷◌, ◌++◌, length, Option, Some, None, refl, sym, ap, ◌∙◌, arith}
use Rattle.std.proofs.lemmas.List.{length-append}
use Rattle.laws.specs.Characters.{dollar_sign, hyphen, backslash, open_brace, close_brace}
use Rattle.laws.specs.Runs.{AllPassTest, Bars}
use Rattle.laws.specs.Text.{text}
use Rattle.biblatex_tex.specs.Character.{is_blank, passes}
use Rattle.biblatex_tex.specs.Command.{sign_mark, letter_mark, letter_character}
use Rattle.biblatex_tex.specs.Token.{begins_command}
use Rattle.biblatex_content.specs.declared.chunk.Kind.{Kind}
use Rattle.biblatex_content.specs.declared.chunk.Kind.TheVariants.{Verbatim}
use Rattle.biblatex_content.specs.Styled.{Member, Math}
use Rattle.biblatex_content.specs.Ordinary.{kept_in, text_in, opened, sign, command, character_or_groups}
use Rattle.biblatex_readings_grammar.specs.Commands.{AreBlanks, IsCommand}
use Rattle.biblatex_readings_grammar.specs.Math.{IsMath}
use Rattle.biblatex_readings_grammar.specs.Ordinary.{accented, Lacks, AreRows, no_rows, row, IsRow, three_hyphens, two_hyphens, one_hyphen, command_group, group, unit, IsUnit, characters, accent_sign, accent_letter, passed_over, math, IsArgument, in_braces, a_hyphen, a_unit, AreGroups, no_groups, a_group}
use Rattle.biblatex_readings_grammar.proofs.Modes.{Mode, Frames, free, argument_of, groups_of, around, standing, counting, IsReady, free_ready, argument_ready}
use Rattle.biblatex_readings_grammar.proofs.AccentMarks.{with_marks, done_with, left_with, done-accent, left-accent, left-argument}
use Rattle.biblatex_readings_grammar.proofs.Total.{command-at}
use Rattle.biblatex_readings_grammar.proofs.Dollars.{math-partner, blank_plain}
use Rattle.biblatex_readings_grammar.proofs.Whole.{whole, gave, gave-join, gave-nil, sign-whole, command-whole, dollar-whole, blank-whole, three-whole, hyphens-whole, argument_hyphen-whole, open-whole, ready-open, groups-open, close-whole, groups_end-whole, math-balanced, math-ends}
use Rattle.biblatex_readings_grammar.proofs.Spelling.{mark_no_letter, Stays, spells-whole}

-- ---- what comes before the first character

pub free_stays : (cs : List ℕ) → Stays free cs
free_stays cs c ds p e = refl

pub argument_stays : (mode : Mode) (waited cs : List ℕ) → Bars is_blank cs → Stays (argument_of mode waited) cs
unfolding passes
argument_stays mode waited [] bars c ds p e = absurd cc
argument_stays mode waited (b ∷ bs) bars c ds p e = at (ap is_blank (sym (head_is b c bs ds e)) ∙ bars)
  where
    head_is : (x y : ℕ) (xs ys : List ℕ) → x ∷ xs ≡ y ∷ ys → x ≡ y
    head_is x y xs ys same = cc

    at : is_blank c ≡ false → text_in (argument_of mode waited) (c ∷ p) ≡ c ∷ p
    at other = rw other refl

skipped : (kind : Kind) (frames : Frames) (mode : Mode) (waited : List ℕ) (done : List Member) (marks t rest : List ℕ) → AllPassTest is_blank t
    → whole (t ++ rest) (standing kind frames (argument_of mode waited) done marks) ≡ whole rest (standing kind frames (argument_of mode waited) done marks)
skipped kind frames mode waited done marks [] rest all = refl
skipped kind frames mode waited done marks (c ∷ t) rest all =
    blank-whole kind frames mode waited done marks c (t ++ rest) all.0 (blank_plain c all.0) ∙ skipped kind frames mode waited done marks t rest all.1

pub blanks-whole : (kind : Kind) (frames : Frames) (mode : Mode) (waited : List ℕ) (done : List Member) (marks cs rest : List ℕ) → AreBlanks cs rest
    → whole cs (standing kind frames (argument_of mode waited) done marks) ≡ whole rest (standing kind frames (argument_of mode waited) done marks)
blanks-whole kind frames mode waited done marks cs rest (t, e, all, bars) =
    ap (λ (x : List ℕ). whole x (standing kind frames (argument_of mode waited) done marks)) e ∙ skipped kind frames mode waited done marks t rest all

blanks_bar : (cs rest : List ℕ) → AreBlanks cs rest → Bars is_blank rest
blanks_bar cs rest (t, e, all, bars) = bars

-- ---- groups

no_command : (cs : List ℕ) → Lacks backslash cs → begins_command cs ≡ false
no_command [] lacks = refl
no_command (c ∷ cs) lacks = lacks

-- before a group whose first character is no backslash
pub group-opens : (kind : Kind) (frames : Frames) (done : List Member) (marks cs : List ℕ) → Lacks backslash cs
    → whole (open_brace ∷ cs) (standing kind frames free done marks) ≡ whole cs (standing Verbatim (around kind free frames) free done marks)
group-opens kind frames done marks cs lacks =
    open-whole cs (standing kind frames free done marks) (λ f. ready-open kind frames free done marks f free_ready)
    ∙ ap (λ (b : Bool). whole cs (opened b (standing kind frames free done marks))) (no_command cs lacks)

pub command_group-opens : (kind : Kind) (frames : Frames) (done : List Member) (marks cs : List ℕ)
    → whole (open_brace ∷ backslash ∷ cs) (standing kind frames free done marks) ≡ whole (backslash ∷ cs) (standing kind (around kind free frames) free done marks)
command_group-opens kind frames done marks cs = open-whole (backslash ∷ cs) (standing kind frames free done marks) (λ f. ready-open kind frames free done marks f free_ready)

pub argument-opens : (kind : Kind) (frames : Frames) (mode : Mode) (waited : List ℕ) (done : List Member) (marks cs : List ℕ)
    → whole (open_brace ∷ cs) (standing kind frames (argument_of mode waited) done marks) ≡ whole cs (standing kind (around kind (argument_of mode waited) frames) free done marks)
argument-opens kind frames mode waited done marks cs =
    open-whole cs (standing kind frames (argument_of mode waited) done marks) (λ f. ready-open kind frames (argument_of mode waited) done marks f (argument_ready mode waited))

pub groups-open-whole : (kind : Kind) (frames : Frames) (mode : Mode) (waited : List ℕ) (done : List Member) (marks cs : List ℕ)
    → whole (open_brace ∷ cs) (standing kind frames (groups_of mode waited) done marks) ≡ whole cs (standing kind (around kind (groups_of mode waited) frames) free done marks)
groups-open-whole kind frames mode waited done marks cs = open-whole cs (standing kind frames (groups_of mode waited) done marks) (λ f. groups-open kind frames mode waited done marks f)

-- after the group of an argument
argument-closes : (kind : Kind) (frames : Frames) (mode : Mode) (waited : List ℕ) (done : List Member) (marks cs : List ℕ) (ms : List Member)
    → whole (close_brace ∷ cs) (gave kind (around kind (argument_of mode waited) frames) free done marks ms) ≡ whole cs (gave kind frames (argument_of mode waited) done marks ms)
argument-closes kind frames mode waited done marks cs ms =
    close-whole kind kind frames (argument_of mode waited) (done_with done marks ms) (left_with free marks ms) cs
    ∙ ap (λ (x : List ℕ). whole cs (standing kind frames free (done_with done marks ms) x)) (left-argument mode waited marks ms)

-- ---- accents and commands

pub accent-opens : (kind : Kind) (frames : Frames) (mode : Mode) (done : List Member) (marks : List ℕ) (c mark : ℕ) (cs : List ℕ) → IsReady mode → sign_mark c ≡ Some mark
    → whole (backslash ∷ c ∷ cs) (standing kind frames mode done marks) ≡ whole cs (standing kind frames (argument_of mode marks) done (marks ++ mark ∷ []))
accent-opens kind frames mode done marks c mark cs ready e =
    sign-whole kind frames mode done marks c cs ready (mark_no_letter c mark e) ∙ ap (λ (o : Option ℕ). whole cs (sign o c (standing kind frames mode done marks))) e

pub letter-opens : (kind : Kind) (frames : Frames) (mode : Mode) (done : List Member) (marks : List ℕ) (mark : ℕ) (cs name rest : List ℕ) → IsReady mode
    → IsCommand cs name rest → letter_mark (text name) ≡ Some mark
    → whole cs (standing kind frames mode done marks) ≡ whole rest (standing kind frames (argument_of mode marks) done (marks ++ mark ∷ []))
letter-opens kind frames mode done marks mark cs name rest ready is e =
    command-whole kind frames mode done marks cs name rest ready (command-at cs name rest is) ∙ ap (λ (o : Option ℕ). whole rest (command o (text name) (standing kind frames mode done marks))) e

pub passed-opens : (kind : Kind) (frames : Frames) (mode : Mode) (done : List Member) (marks cs name rest : List ℕ) → IsReady mode
    → IsCommand cs name rest → letter_mark (text name) ≡ None → letter_character (text name) ≡ None
    → whole cs (standing kind frames mode done marks) ≡ whole rest (standing kind frames (groups_of mode marks) done marks)
passed-opens kind frames mode done marks cs name rest ready is no_mark no_character =
    command-whole kind frames mode done marks cs name rest ready (command-at cs name rest is)
    ∙ (ap (λ (o : Option ℕ). whole rest (command o (text name) (standing kind frames mode done marks))) no_mark
    ∙ ap (λ (o : Option ℕ). whole rest (character_or_groups o (standing kind frames mode done marks))) no_character)

gave-accent : (kind : Kind) (frames : Frames) (mode : Mode) (done : List Member) (marks : List ℕ) (mark : ℕ) (ms : List Member) → kept_in mode marks ≤ length marks
    → gave kind frames (argument_of mode marks) done (marks ++ mark ∷ []) ms ≡ gave kind frames mode done marks (accented mark ms)
gave-accent kind frames mode done marks mark ms few =
    ap (λ (x : List Member). standing kind frames free x (left_with (argument_of mode marks) (marks ++ mark ∷ []) ms)) (done-accent done marks mark ms)
    ∙ ap (λ (x : List ℕ). standing kind frames free (done_with done marks (accented mark ms)) x) (left-accent mode marks mark ms few)

pub more_kept : (mode : Mode) (marks : List ℕ) (mark : ℕ) → kept_in mode marks ≤ length marks → kept_in mode marks ≤ length (marks ++ mark ∷ [])
more_kept mode marks mark few = omega (arith, few, length-append marks (mark ∷ []))

gave-groups : (kind : Kind) (frames : Frames) (mode : Mode) (done : List Member) (marks : List ℕ) (ms : List Member) → gave kind frames (groups_of mode marks) done marks ms ≡ gave kind frames mode done marks ms
gave-groups kind frames mode done marks [] = refl
gave-groups kind frames mode done marks (m ∷ ms) = refl

math_unmarked : (marks t : List ℕ) → with_marks marks (Math t ∷ []) ≡ Math t ∷ []
math_unmarked [] t = refl
math_unmarked (mark ∷ marks) t = ap (accented mark) (math_unmarked marks t)

pub math-whole : (kind : Kind) (frames : Frames) (mode : Mode) (done : List Member) (marks cs t rest : List ℕ) → IsReady mode → IsMath cs t rest
    → whole (dollar_sign ∷ cs) (standing kind frames mode done marks) ≡ whole rest (gave kind frames mode done marks (Math t ∷ []))
math-whole kind frames mode done marks cs t rest ready is =
    dollar-whole kind frames mode done marks cs true ready (math-partner cs t rest is)
    ∙ (ap (λ (x : List ℕ). whole x (counting frames kind frames done [] [])) is.1
    ∙ (math-balanced false t is.0 (dollar_sign ∷ rest) frames kind frames done [] [] (omega arith, λ e. absurd (true≢false (sym e)))
    ∙ (math-ends kind frames done [] t rest ∙ ap (λ (x : List Member). whole rest (standing kind frames free (done ++ x) [])) (sym (math_unmarked marks t)))))

-- ---- rows

mutual
  pub rows-again : (kind : Kind) (cs : List ℕ) (ms : List Member) (rest : List ℕ) → AreRows kind cs ms rest → (frames : Frames) (done : List Member) (marks : List ℕ)
      → whole cs (standing kind frames free done marks) ≡ whole rest (gave kind frames free done marks ms)
  rows-again kind cs ms rest (no_rows k r) frames done marks = ap (whole r) (sym (gave-nil k frames done marks))
  rows-again kind cs ms rest (row k ds a r ns os first more) frames done marks =
      row-again k ds ns a first frames done marks
      ∙ (rows-again k a os r more frames (done_with done marks ns) (left_with free marks ns) ∙ ap (whole r) (gave-join k frames free done marks ns os))

  pub row-again : (kind : Kind) (cs : List ℕ) (ms : List Member) (rest : List ℕ) → IsRow kind cs ms rest → (frames : Frames) (done : List Member) (marks : List ℕ)
      → whole cs (standing kind frames free done marks) ≡ whole rest (gave kind frames free done marks ms)
  row-again kind cs ms rest (three_hyphens k r) frames done marks = three-whole k frames done marks r
  row-again kind cs ms rest (two_hyphens k r lacks) frames done marks = hyphens-whole k frames done marks (hyphen ∷ []) r (refl, tt) lacks
  row-again kind cs ms rest (one_hyphen k r lacks) frames done marks = hyphens-whole k frames done marks [] r tt lacks
  row-again kind cs ms rest (command_group k a r ns inside) frames done marks =
      command_group-opens k frames done marks a
      ∙ (rows-again k (backslash ∷ a) ns (close_brace ∷ r) inside (around k free frames) done marks
      ∙ close-whole k k frames free (done_with done marks ns) (left_with free marks ns) r)
  row-again kind cs ms rest (group k a r ns lacks inside) frames done marks =
      group-opens k frames done marks a lacks
      ∙ (rows-again Verbatim a ns (close_brace ∷ r) inside (around k free frames) done marks
      ∙ close-whole Verbatim k frames free (done_with done marks ns) (left_with free marks ns) r)
  row-again kind cs ms rest (unit k ds r ns is) frames done marks = unit-again k ds ns r is frames free done marks free_ready (omega arith) (free_stays ds)

  pub unit-again : (kind : Kind) (cs : List ℕ) (ms : List Member) (rest : List ℕ) → IsUnit kind cs ms rest → (frames : Frames) (mode : Mode) (done : List Member) (marks : List ℕ)
      → IsReady mode → kept_in mode marks ≤ length marks → Stays mode cs → whole cs (standing kind frames mode done marks) ≡ whole rest (gave kind frames mode done marks ms)
  unit-again kind cs ms rest (characters k ds given r is) frames mode done marks ready few stays = spells-whole ds given r is k frames mode done marks ready stays
  unit-again kind cs ms rest (accent_sign k c mark a r ns e is) frames mode done marks ready few stays =
      accent-opens k frames mode done marks c mark a ready e
      ∙ (argument-again k a ns r is frames mode marks done (marks ++ mark ∷ []) (more_kept mode marks mark few) ∙ ap (whole r) (gave-accent k frames mode done marks mark ns few))
  unit-again kind cs ms rest (accent_letter k mark ds name a r ns command e is) frames mode done marks ready few stays =
      letter-opens k frames mode done marks mark ds name a ready command e
      ∙ (argument-again k a ns r is frames mode marks done (marks ++ mark ∷ []) (more_kept mode marks mark few) ∙ ap (whole r) (gave-accent k frames mode done marks mark ns few))
  unit-again kind cs ms rest (passed_over k ds name a r ns command no_mark no_character are) frames mode done marks ready few stays =
      passed-opens k frames mode done marks ds name a ready command no_mark no_character
      ∙ (groups-again k a ns r are frames mode marks done marks ∙ ap (whole r) (gave-groups k frames mode done marks ns))
  unit-again kind cs ms rest (math k a t r is) frames mode done marks ready few stays = math-whole k frames mode done marks a t r ready is

  pub argument-again : (kind : Kind) (cs : List ℕ) (ms : List Member) (rest : List ℕ) → IsArgument kind cs ms rest → (frames : Frames) (mode : Mode) (waited : List ℕ) (done : List Member) (marks : List ℕ)
      → kept_in mode waited ≤ length marks → whole cs (standing kind frames (argument_of mode waited) done marks) ≡ whole rest (gave kind frames (argument_of mode waited) done marks ms)
  argument-again kind cs ms rest (in_braces k ds a r ns blanks inside) frames mode waited done marks few =
      blanks-whole k frames mode waited done marks ds (open_brace ∷ a) blanks
      ∙ (argument-opens k frames mode waited done marks a
      ∙ (rows-again k a ns (close_brace ∷ r) inside (around k (argument_of mode waited) frames) done marks ∙ argument-closes k frames mode waited done marks r ns))
  argument-again kind cs ms rest (a_hyphen k ds r blanks) frames mode waited done marks few =
      blanks-whole k frames mode waited done marks ds (hyphen ∷ r) blanks ∙ argument_hyphen-whole k frames mode waited done marks r
  argument-again kind cs ms rest (a_unit k ds a r ns blanks is) frames mode waited done marks few =
      blanks-whole k frames mode waited done marks ds a blanks
      ∙ unit-again k a ns r is frames (argument_of mode waited) done marks (argument_ready mode waited) few (argument_stays mode waited a (blanks_bar ds a blanks))

  pub groups-again : (kind : Kind) (cs : List ℕ) (ms : List Member) (rest : List ℕ) → AreGroups kind cs ms rest → (frames : Frames) (mode : Mode) (waited : List ℕ) (done : List Member) (marks : List ℕ)
      → whole cs (standing kind frames (groups_of mode waited) done marks) ≡ whole rest (gave kind frames (groups_of mode waited) done marks ms)
  groups-again kind cs ms rest (no_groups k r lacks) frames mode waited done marks = groups_end-whole k frames mode waited done marks r lacks
  groups-again kind cs ms rest (a_group k a b r ns os inside more) frames mode waited done marks =
      groups-open-whole k frames mode waited done marks a
      ∙ (rows-again k a ns (close_brace ∷ b) inside (around k (groups_of mode waited) frames) done marks
      ∙ (close-whole k k frames (groups_of mode waited) (done_with done marks ns) (left_with free marks ns) b
      ∙ (groups-again k b os r more frames mode waited (done_with done marks ns) (left_with free marks ns) ∙ ap (whole r) (gave-join k frames (groups_of mode waited) done marks ns os))))
