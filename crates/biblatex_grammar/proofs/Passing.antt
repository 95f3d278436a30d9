-- What the machine passes over is what the reader's runs take.
use Rattle.std.proofs.Common.{◌≡◌, ℕ, Bool, true, false, not, ◌&&◌, cond, eqb, List, [], ◌∷◌, ◌++◌, Option, Some, None, Ok, refl, sym, ap, ◌∙◌, append_assoc, append-nil}
use Rattle.std.specs.Char.{is_whitespace}
use Rattle.std.specs.Option.{option_map, option_map_or}
use Rattle.biblatex_text.specs.Character.{is_id_continue, is_key}
use Rattle.biblatex_text.specs.Run.{only_if, next, depth_after, prefix_of, after}
use Rattle.biblatex_text.specs.Reading.{after_blanks}
use Rattle.biblatex_text.specs.Value.{braced_at, quoted_at}
use Rattle.biblatex_text.specs.Items.{next_item_at, key_run}
use Rattle.biblatex_grammar.proofs.States.{Run, blank, comment, outside, of_identifier, remark, braced, braced_escape, quoted, quoted_escape}
use Rattle.biblatex_grammar.proofs.States.{hidden as hidden_run}
use Rattle.biblatex_grammar.proofs.Machine.{Shape, curly, round, bracket_of, Class, between, gap, word, key, braces, quotes, Point, kind_done, key_first, key_done, comma_or_end, name_done, equals, bare_done, piece_or_end, Holder, class_of, before, naming, goes_on, at_depth, forward, starts, decides, continued, verdict, met}
use Rattle.biblatex_grammar.proofs.Machine.{remark as remarks}

-- the run that a sign and a number of open braces stand for
abbrev pub run_of : Class → Bool → ℕ → Run
run_of between false d = outside
run_of between true d = hidden_run
run_of gap false d = blank
run_of gap true d = comment
run_of word hides d = of_identifier
run_of (key s) hides d = key_run (bracket_of s)
run_of remarks hides d = remark d
run_of braces false d = braced d
run_of braces true d = braced_escape d
run_of quotes false d = quoted d
run_of quotes true d = quoted_escape d

abbrev run_at : Class → Bool × ℕ → Run
run_at class g = run_of class g.0 g.1

abbrev Same : Class → Bool → ℕ → ℕ → Type 0
Same class hides d c = option_map (run_at class) (forward class hides d c) ≡ next (run_of class hides d) c

-- the same choice of a run
chosen : (class : Class) (b : Bool) (x y : Option (Bool × ℕ)) (v w : Option Run) → option_map (run_at class) x ≡ v → option_map (run_at class) y ≡ w → option_map (run_at class) (cond b x y) ≡ cond b v w
chosen class true x y v w e f = e
chosen class false x y v w e f = f

only : (class : Class) (run : Run) (b : Bool) → run_of class false 0 ≡ run → option_map (run_at class) (goes_on b) ≡ only_if b run
only class run true e = ap (λ (r : Run). Some r) e
only class run false e = refl

line : (class : Class) (b : Bool) → Some (run_at class (cond b (false, 0) (true, 0))) ≡ Some (cond b (run_of class false 0) (run_of class true 0))
line class true = refl
line class false = refl

depth : (class : Class) (run : ℕ → Run) (o : Option ℕ) → ((d : ℕ) → run_of class false d ≡ run d) → option_map (run_at class) (option_map at_depth o) ≡ option_map (λ d. run d) o
depth class run None e = refl
depth class run (Some d) e = ap (λ (r : Run). Some r) (e d)

forward-same : (class : Class) (hides : Bool) (d c : ℕ) → Same class hides d c
unfolding next_item_at braced_at quoted_at
forward-same between false d c = chosen between (eqb c 37) (Some (true, 0)) (goes_on (not (eqb c 64))) (Some hidden_run) (only_if (not (eqb c 64)) outside) refl (only between outside (not (eqb c 64)) refl)
forward-same between true d c = line between (eqb c 10)
forward-same gap false d c = chosen gap (eqb c 37) (Some (true, 0)) (goes_on (is_whitespace c)) (Some comment) (only_if (is_whitespace c) blank) refl (only gap blank (is_whitespace c) refl)
forward-same gap true d c = line gap (eqb c 10)
forward-same word hides d c = only word of_identifier (is_id_continue c) refl
forward-same (key curly) hides d c = only (key curly) (key_run (bracket_of curly)) (is_key c) refl
forward-same (key round) hides d c = only (key round) (key_run (bracket_of round)) (is_key c && not (eqb c 41)) refl
forward-same remarks hides d c = depth remarks remark (depth_after d c) (λ e. refl)
forward-same braces false d c =
    chosen braces (eqb c 92) (Some (true, d)) (option_map at_depth (depth_after d c)) (Some (braced_escape d)) (option_map (λ e. braced e) (depth_after d c)) refl (depth braces braced (depth_after d c) (λ e. refl))
forward-same braces true d c = refl
forward-same quotes false d c =
    chosen quotes (eqb c 92) (Some (true, d)) (cond (eqb c 34 && eqb d 0) None (option_map at_depth (depth_after d c))) (Some (quoted_escape d)) (cond (eqb c 34 && eqb d 0) None (option_map (λ e. quoted e) (depth_after d c))) refl
    (chosen quotes (eqb c 34 && eqb d 0) None (option_map at_depth (depth_after d c)) None (option_map (λ e. quoted e) (depth_after d c)) refl (depth quotes quoted (depth_after d c) (λ e. refl)))
forward-same quotes true d c = refl

-- what is passed over before a point
pub skips : (k : Point) (cs : List ℕ) (hides : Bool) (d : ℕ) → verdict (before hides d k) cs ≡ met k (after (run_of (class_of k) hides d) cs)
skips k [] hides d = refl
skips k (c ∷ cs) hides d = by_next (forward (class_of k) hides d c) (λ h e. skips k cs h e) ∙ ap (λ (o : Option Run). met k (option_map_or (λ more. after more cs) o (c ∷ cs))) (forward-same (class_of k) hides d c)
  where
    by_next : (o : Option (Bool × ℕ)) → ((h : Bool) (e : ℕ) → verdict (before h e k) cs ≡ met k (after (run_of (class_of k) h e) cs))
        → continued (option_map_or (λ (g : Bool × ℕ). Ok (before g.0 g.1 k)) o (decides k c)) (c ∷ cs) (λ then. verdict then cs) ≡ met k (option_map_or (λ more. after more cs) (option_map (run_at (class_of k)) o) (c ∷ cs))
    by_next None more = refl
    by_next (Some (h, e)) more = more h e

pub skips-gap : (k : Point) → class_of k ≡ gap → (cs : List ℕ) → verdict (starts k) cs ≡ met k (after_blanks cs)
skips-gap k is cs = skips k cs false 0 ∙ ap (λ (class : Class). met k (after (run_of class false 0) cs)) is

-- a gap before what follows a name, a key or a bare piece
pub name-gap : (s : Shape) (cs : List ℕ) → met (name_done s) cs ≡ verdict (starts (equals s)) cs
name-gap s [] = refl
name-gap s (c ∷ cs) = refl

pub key-gap : (s : Shape) (cs : List ℕ) → met (key_done s) cs ≡ verdict (starts (comma_or_end s)) cs
key-gap s [] = refl
key-gap s (c ∷ cs) = refl

pub key-begins : (s : Shape) (cs : List ℕ) → met (key_first s) cs ≡ verdict (starts (key_done s)) cs
key-begins s [] = refl
key-begins s (c ∷ cs) = refl

pub bare-gap : (h : Holder) (cs : List ℕ) → met (bare_done h) cs ≡ verdict (starts (piece_or_end h)) cs
bare-gap h [] = refl
bare-gap h (c ∷ cs) = refl

-- the name of a kind
pub names : (cs name : List ℕ) → verdict (naming name) cs ≡ verdict (starts (kind_done (name ++ prefix_of of_identifier cs))) (after of_identifier cs)
names [] name = ap (λ (v : List ℕ). verdict (starts (kind_done v)) []) (sym (append-nil name))
names (c ∷ cs) name = by_test (is_id_continue c) refl (λ v. names cs v)
  where
    by_test : (b : Bool) → is_id_continue c ≡ b → ((v : List ℕ) → verdict (naming v) cs ≡ verdict (starts (kind_done (v ++ prefix_of of_identifier cs))) (after of_identifier cs))
        → verdict (naming name) (c ∷ cs) ≡ verdict (starts (kind_done (name ++ prefix_of of_identifier (c ∷ cs)))) (after of_identifier (c ∷ cs))
    by_test true is more =
        let here : verdict (naming name) (c ∷ cs) ≡ verdict (naming (name ++ c ∷ [])) cs = rw is refl in
        let prefix : prefix_of of_identifier (c ∷ cs) ≡ c ∷ prefix_of of_identifier cs = rw is refl in
        let behind : after of_identifier (c ∷ cs) ≡ after of_identifier cs = rw is refl in
        here ∙ (more (name ++ c ∷ []) ∙ (ap (λ (v : List ℕ). verdict (starts (kind_done v)) (after of_identifier cs)) (append_assoc name (c ∷ []) (prefix_of of_identifier cs))
        ∙ λ j. verdict (starts (kind_done (name ++ sym prefix j))) (sym behind j)))
    by_test false other more =
        let here : verdict (naming name) (c ∷ cs) ≡ verdict (starts (kind_done name)) (c ∷ cs) = rw other refl in
        let prefix : prefix_of of_identifier (c ∷ cs) ≡ [] = rw other refl in
        let behind : after of_identifier (c ∷ cs) ≡ c ∷ cs = rw other refl in
        here ∙ (ap (λ (v : List ℕ). verdict (starts (kind_done v)) (c ∷ cs)) (sym (append-nil name)) ∙ λ j. verdict (starts (kind_done (name ++ sym prefix j))) (sym behind j))

-- an identifier goes on with its first character
pub first-passed : (c : ℕ) (cs : List ℕ) → is_id_continue c ≡ true → after of_identifier (c ∷ cs) ≡ after of_identifier cs
first-passed c cs is = rw is refl

pub first-in-prefix : (c : ℕ) (cs : List ℕ) → is_id_continue c ≡ true → prefix_of of_identifier (c ∷ cs) ≡ c ∷ prefix_of of_identifier cs
first-in-prefix c cs is = rw is refl
