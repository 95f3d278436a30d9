-- Places of a source that are counted from byte to byte.
use Rattle.std.proofs.Common.{◌≡◌, ◌≤◌, ◌<◌, ◌+◌, ◌-◌, ◌==◌, ℕ, Bool, true, false, cond, List, [], ◌∷◌, ◌++◌, length, take, drop, get_or, refl, sym, ap, ◌∙◌, arith, add-one, take-suc, length-take, length-take-le}
use Rattle.std.proofs.lemmas.List.{drop_all, drop-append-le, length-drop}
use Rattle.std.proofs.lemmas.List.Sums.{count_by-le-length, sum_by_push}
use Rattle.laws.specs.Characters.{line_feed}
use Rattle.source_positions.specs.Position.{Position, line_before, next_position, position_at, position_from}
use Rattle.fault_lines.specs.Places.{IsPlace, Place, begins_character, characters_begun, next_place}

abbrev nothing : Position
nothing = record { ended = 0; read = [] }

-- bytes after others
from_both : (p : Position) (bs cs : List ℕ) → position_from p (bs ++ cs) ≡ position_from (position_from p bs) cs
from_both p [] cs = refl
from_both p (b ∷ bs) cs = from_both (next_position p b) bs cs

-- one more byte of a source
taken : (source : List ℕ) (i d : ℕ) → i < length source → take (i + 1) source ≡ take i source ++ get_or source i d ∷ []
taken source i d here = ap (λ (n : ℕ). take n source) (add-one i) ∙ take-suc source i d here

one_more : (source : List ℕ) (i d : ℕ) → i < length source → position_at source (i + 1) ≡ next_position (position_at source i) (get_or source i d)
one_more source i d here = ap (position_from nothing) (taken source i d here) ∙ from_both nothing (take i source) (get_or source i d ∷ [])

take_short : (n : ℕ) (xs : List ℕ) → length (take n xs) ≤ n
take_short n xs = let short = length-take n xs in omega arith

-- a byte ends one line at most
next_few : (p : Position) (b : ℕ) → (next_position p b).ended ≤ p.ended + 1
next_few p b = by_feed (b == line_feed) refl
  where
    by_feed : (feed : Bool) → (b == line_feed) ≡ feed → (next_position p b).ended ≤ p.ended + 1
    by_feed true is = rw is (omega arith)
    by_feed false is = rw is (omega arith)

ended_few : (p : Position) (bs : List ℕ) → (position_from p bs).ended ≤ p.ended + length bs
ended_few p [] = omega arith
ended_few p (b ∷ bs) = let few = next_few p b in let more = ended_few (next_position p b) bs in omega arith

-- as many lines have ended, and as many characters have begun, as there are bytes, at most
pub few_lines : (source : List ℕ) (p : Place) → IsPlace source p → p.number ≤ p.at + 1
few_lines source p is =
    let few : (position_at source p.at).ended ≤ 0 + length (take p.at source) = ended_few nothing (take p.at source) in
    let short = take_short p.at source in
    let same = is.number in
    omega arith

pub few_begun : (source : List ℕ) (p : Place) → IsPlace source p → p.begun ≤ p.at
few_begun source p is =
    let few = count_by-le-length begins_character (line_before source p.at) in
    let whole : length (line_before source p.at) ≡ length (take p.at source) - p.start = ap length is.line ∙ length-drop p.start (take p.at source) in
    let short = take_short p.at source in
    let same = is.begun in
    omega arith

-- the place after one more byte, which stands there: the first of another line, or one of the same
fed : (source : List ℕ) (b : ℕ) (p : Place) → p.at < length source → position_at source (p.at + 1) ≡ next_position (position_at source p.at) b → (b == line_feed) ≡ true → IsPlace source p
    → IsPlace source (next_place p b)
fed source b p here more feed is =
    let next : position_at source (p.at + 1) ≡ record { ended = (position_at source p.at).ended + 1; read = [] } = more ∙ rw feed refl in
    rw feed (record {
      within = omega arith;
      started = omega arith;
      number = ap (λ (q : Position). q.ended + 1) next ∙ ap (λ (n : ℕ). n + 1) is.number;
      line = ap (λ (q : Position). q.read) next ∙ sym (drop_all (p.at + 1) (take (p.at + 1) source) (take_short (p.at + 1) source));
      begun = ap (λ (q : Position). characters_begun q.read) next;
    })

kept : (source : List ℕ) (d : ℕ) (p : Place) → p.at < length source → (get_or source p.at d == line_feed) ≡ false → IsPlace source p → IsPlace source (next_place p (get_or source p.at d))
kept source d p here other is =
    let b = get_or source p.at d in
    let next : position_at source (p.at + 1) ≡ record { ended = (position_at source p.at).ended; read = (position_at source p.at).read ++ b ∷ [] } = one_more source p.at d here ∙ rw other refl in
    let long : length (take p.at source) ≡ p.at = length-take-le p.at source (omega arith) in
    let started = is.started in
    let within : p.start ≤ length (take p.at source) = omega arith in
    rw other (record {
      within = omega arith;
      started = omega arith;
      number = ap (λ (q : Position). q.ended + 1) next ∙ is.number;
      line = ap (λ (q : Position). q.read) next
          ∙ (ap (λ (r : List ℕ). r ++ b ∷ []) is.line ∙ (sym (drop-append-le p.start (take p.at source) (b ∷ []) within) ∙ ap (drop p.start) (sym (taken source p.at d here))));
      begun = ap (λ (q : Position). characters_begun q.read) next
          ∙ (sum_by_push (λ (c : ℕ). cond {A = ℕ} (begins_character c) 1 0) (line_before source p.at) b ∙ ap (λ (n : ℕ). n + cond {A = ℕ} (begins_character b) 1 0) is.begun);
    })

pub goes_on : (source : List ℕ) (d : ℕ) (p : Place) → p.at < length source → IsPlace source p → IsPlace source (next_place p (get_or source p.at d))
goes_on source d p here is = by_feed (get_or source p.at d == line_feed) refl
  where
    by_feed : (feed : Bool) → (get_or source p.at d == line_feed) ≡ feed → IsPlace source (next_place p (get_or source p.at d))
    by_feed true feed = fed source (get_or source p.at d) p here (one_more source p.at d here) feed is
    by_feed false other = kept source d p here other is

-- the beginning of a source
pub begins : (source : List ℕ) → IsPlace source (record { number = 1; start = 0; begun = 0; at = 0 })
begins source = record { within = omega arith; started = omega arith; number = refl; line = refl; begun = refl }

pub next_at : (p : Place) (b : ℕ) → (next_place p b).at ≡ p.at + 1
next_at p b = by_feed (b == line_feed)
  where
    by_feed : (feed : Bool) → (cond {A = Place} feed (record { number = p.number + 1; start = p.at + 1; begun = 0; at = p.at + 1 }) (record { number = p.number; start = p.start; begun = p.begun + cond {A = ℕ} (begins_character b) 1 0; at = p.at + 1 })).at ≡ p.at + 1
    by_feed true = refl
    by_feed false = refl
