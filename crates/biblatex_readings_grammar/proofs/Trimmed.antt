-- A text without the white space at its ends is the text that is trimmed.
use Rattle.std.proofs.Common.{◌≡◌, Bool, true, false, [], ◌∷◌, ◌++◌, refl, sym, ap, ◌∙◌, subst, append-nil}
use Rattle.biblatex_lists.specs.declared.styled_char.StyledChar.{StyledChar}
use Rattle.biblatex_lists.specs.StyledChars.{is_gap}
use Rattle.biblatex_lists.specs.Parts.{without_first_gaps, before_others, without_last_gaps, trimmed}
use Rattle.biblatex_readings_grammar.specs.Words.{Text, is_blank, AllAnswer, BeginsTight, EndsTight, IsTrimmed}

-- white space at the start goes, and nothing else
blank_goes : (s : StyledChar) (ss : Text) → is_gap s ≡ true → without_first_gaps (s ∷ ss) ≡ without_first_gaps ss
blank_goes s ss e = rw e refl

other_stays : (s : StyledChar) (ss : Text) → is_gap s ≡ false → without_first_gaps (s ∷ ss) ≡ s ∷ ss
other_stays s ss e = rw e refl

blanks_go : (a ss : Text) → AllAnswer is_blank true a → without_first_gaps (a ++ ss) ≡ without_first_gaps ss
blanks_go [] ss all = refl
blanks_go (s ∷ a) ss all = blank_goes s (a ++ ss) all.0 ∙ blanks_go a ss all.1

-- white space before nothing goes, and nothing else
last_goes : (s : StyledChar) → is_gap s ≡ true → before_others s [] ≡ []
last_goes s e = rw e refl

last_stays : (s : StyledChar) → is_gap s ≡ false → before_others s [] ≡ s ∷ []
last_stays s e = rw e refl

all_go : (b : Text) → AllAnswer is_blank true b → without_last_gaps b ≡ []
all_go [] all = refl
all_go (s ∷ b) all = ap (before_others s) (all_go b all.1) ∙ last_goes s all.0

last_go : (t b : Text) → EndsTight t → AllAnswer is_blank true b → without_last_gaps (t ++ b) ≡ t
last_go [] b ends all = all_go b all
last_go (s ∷ []) b ends all = ap (before_others s) (all_go b all) ∙ last_stays s ends
last_go (s ∷ u ∷ t) b ends all = ap (before_others s) (last_go (u ∷ t) b ends all)

pub trimmed_is : (ss t : Text) → IsTrimmed ss t → trimmed ss ≡ t
trimmed_is ss [] (a, b, e, first, last, begins, ends) =
    let none : without_first_gaps b ≡ [] = ap without_first_gaps (sym (append-nil b)) ∙ blanks_go b [] last in
    ap trimmed e ∙ ap without_last_gaps (blanks_go a b first ∙ none)
trimmed_is ss (s ∷ t) (a, b, e, first, last, begins, ends) =
    ap trimmed e ∙ (ap without_last_gaps (blanks_go a ((s ∷ t) ++ b) first ∙ other_stays s (t ++ b) begins) ∙ last_go (s ∷ t) b ends last)

-- A text in two, of each of which something is known.
record Two (Front Rest : Text → Type 0) (ss : Text) : Type 0 where
  pub front : Text
  pub rest : Text
  pub is : ss ≡ front ++ rest
  pub before : Front front
  pub behind : Rest rest

abbrev AreBlank : Text → Type 0
AreBlank b = AllAnswer is_blank true b

-- white space and what follows it
first_of : (ss : Text) → Two AreBlank BeginsTight ss
first_of [] = record { front = []; rest = []; is = refl; before = tt; behind = tt }
first_of (s ∷ ss) = by_test (first_of ss) (is_blank s) refl
  where
    by_test : Two AreBlank BeginsTight ss → (b : Bool) → is_blank s ≡ b → Two AreBlank BeginsTight (s ∷ ss)
    by_test more true e = record { front = s ∷ more.front; rest = more.rest; is = ap (λ (x : Text). s ∷ x) more.is; before = (e, more.before); behind = more.behind }
    by_test more false e = record { front = []; rest = s ∷ ss; is = refl; before = tt; behind = e }

-- white space and what stands before it
last_of : (ss : Text) → Two EndsTight AreBlank ss
last_of [] = record { front = []; rest = []; is = refl; before = tt; behind = tt }
last_of (s ∷ ss) =
    let more = last_of ss in
    by_front more.front more.rest more.is more.before more.behind (is_blank s) refl
  where
    by_front : (front rest : Text) → ss ≡ front ++ rest → EndsTight front → AreBlank rest → (b : Bool) → is_blank s ≡ b → Two EndsTight AreBlank (s ∷ ss)
    by_front [] rest is ends all true e = record { front = []; rest = s ∷ rest; is = ap (λ (x : Text). s ∷ x) is; before = tt; behind = (e, all) }
    by_front [] rest is ends all false e = record { front = s ∷ []; rest = rest; is = ap (λ (x : Text). s ∷ x) is; before = e; behind = all }
    by_front (t ∷ front) rest is ends all b e = record { front = s ∷ t ∷ front; rest = rest; is = ap (λ (x : Text). s ∷ x) is; before = ends; behind = all }

begins_front : (t b : Text) → BeginsTight (t ++ b) → BeginsTight t
begins_front [] b begins = tt
begins_front (s ∷ t) b begins = begins

-- A text without the white space at its ends.
pub record Trimmed (ss : Text) : Type 0 where
  pub text : Text
  pub is : IsTrimmed ss text

pub trimmed_of : (ss : Text) → Trimmed ss
trimmed_of ss =
    let first = first_of ss in
    let last = last_of first.rest in
    let begins : BeginsTight (last.front ++ last.rest) = subst (λ (x : Text). BeginsTight x) last.is first.behind in
    record {
      text = last.front;
      is = (first.front, last.rest, first.is ∙ ap (λ (x : Text). first.front ++ x) last.is, first.before, last.behind, begins_front last.front last.rest begins, last.before);
    }
