-- What pieces are to the marks of a page.
use Rattle.std.proofs.Common.{◌≡◌, ◌+◌, ◌-◌, ◌<◌, ◌≤◌, ℕ, zero, suc, Bool, true, false, not, ◌&&◌, ◌||◌, List, [], ◌∷◌, ◌++◌, length, take, get_or, refl, sym, ap, ◌∙◌, arith, Option}
use Rattle.std.specs.List.{fold, list_any}
use Rattle.std.specs.Char.{is_whitespace}
use Rattle.laws.specs.Text.{is_filled}
use Rattle.rendering_taxonomy.specs.declared.formatting.Formatting.{Formatting}
use Rattle.rendering_tree.specs.Tokens.{Token, letter, formula, link, transparent, opening, closing, mark, unmark, with_letters}
use Rattle.std.proofs.lemmas.Bool.{false≢true}
use Rattle.rendering_page.specs.Marks.{before_open, begins_nothing, closes, first_part, is_first, is_something, known_to_print, opens, prints_itself, with_part}
use Rattle.rendering_taxonomy.specs.declared.text_case.TextCase.{TextCase}
use Rattle.rendering_cases.specs.Cases.{applies, cased_text}
use Rattle.rendering_cases.proofs.Kept.{same_text}
use Rattle.rendering_page.specs.Pages.{prints, before_mark, before_prefix, is_begun, stripped_if}
use Rattle.rendering_page.specs.Views.{words_view, with_piece, pieces_view}
use Rattle.rendering_page.specs.declared.piece.Piece.{Piece}
use Rattle.rendering_page.specs.declared.piece.Piece.TheVariants as pieces
use Rattle.rendering_page.proofs.ViewsPieces.{tokens_more, tokens_push}

or_turned : (a b r : Bool) → (a || (b || r)) ≡ ((b || a) || r)
or_turned true true r = refl
or_turned true false r = refl
or_turned false true r = refl
or_turned false false r = refl

prints_letters : (f : Formatting) (cs : List ℕ) (n : ℕ) (ts : List Token) → prints n (with_letters f cs ts) ≡ (list_any (λ c. not (is_whitespace c)) cs || prints n ts)
prints_letters f [] n ts = refl
prints_letters f (c ∷ cs) n ts =
    prints_letters f cs n (letter f c ∷ ts) ∙ or_turned (list_any (λ c. not (is_whitespace c)) cs) (not (is_whitespace c)) (prints n ts)

-- a piece that prints
pub printed : (p : Piece) (n : ℕ) (ts : List Token) → prints_itself p ≡ true → prints n (with_piece ts p) ≡ true
printed (pieces.Text f w) n ts e = prints_letters f (words_view w) n ts ∙ ap (λ b. b || prints n ts) e
printed (pieces.Markup w) n ts e = refl
printed (pieces.Link l) n ts e = refl
printed (pieces.Transparent f k) n ts e = refl
printed (pieces.Opening d m) n ts e = cc
printed (pieces.MadeOpening d m) n ts e = cc
printed (pieces.Begin d m) n ts e = cc
printed (pieces.MadeBegin d m) n ts e = cc
printed pieces.BareBegin n ts e = cc
printed pieces.End n ts e = cc
printed pieces.BareEnd n ts e = cc
printed pieces.Closing n ts e = cc
printed pieces.Mark n ts e = cc
printed pieces.Unmark n ts e = cc

-- one that does not, where all its marks are passed; of the marks n those that begin in it are taken, and those that end in it come to them
pub printed_before : (p : Piece) (n k : ℕ) (ts : List Token) → prints_itself p ≡ false → k + opens p ≡ n + closes p → prints n (with_piece ts p) ≡ prints k ts
printed_before (pieces.Text f w) n k ts e h =
    let same : n ≡ k = omega (arith, h) in
    prints_letters f (words_view w) n ts ∙ ap (λ b. b || prints n ts) e ∙ ap (λ j. prints j ts) same
printed_before (pieces.Markup w) n k ts e h = cc
printed_before (pieces.Link l) n k ts e h = cc
printed_before (pieces.Transparent f i) n k ts e h = cc
printed_before (pieces.Opening d m) n k ts e h =
    let same : n ≡ k = omega (arith, h) in
    ap (λ j. prints j ts) same
printed_before (pieces.MadeOpening d m) n k ts e h =
    let same : n ≡ k = omega (arith, h) in
    ap (λ j. prints j ts) same
printed_before (pieces.Begin d m) n k ts e h =
    let more : n ≡ suc k = omega (arith, h) in
    ap (λ j. prints j (with_piece ts (pieces.Begin d m))) more
printed_before (pieces.MadeBegin d m) n k ts e h =
    let more : n ≡ suc k = omega (arith, h) in
    ap (λ j. prints j (with_piece ts (pieces.MadeBegin d m))) more
printed_before pieces.BareBegin n k ts e h =
    let more : n ≡ suc (suc k) = omega (arith, h) in
    ap (λ j. prints j (with_piece ts pieces.BareBegin)) more
printed_before pieces.End n k ts e h =
    let more : suc n ≡ k = omega (arith, h) in
    ap (λ j. prints j ts) more
printed_before pieces.BareEnd n k ts e h =
    let more : suc (suc n) ≡ k = omega (arith, h) in
    ap (λ j. prints j ts) more
printed_before pieces.Closing n k ts e h =
    let same : n ≡ k = omega (arith, h) in
    ap (λ j. prints j ts) same
printed_before pieces.Mark n k ts e h =
    let more : n ≡ suc k = omega (arith, h) in
    ap (λ j. prints j (with_piece ts pieces.Mark)) more
printed_before pieces.Unmark n k ts e h =
    let more : suc n ≡ k = omega (arith, h) in
    ap (λ j. prints j ts) more

-- one that has a mark more than are passed
pub open_in : (p : Piece) (n : ℕ) (ts : List Token) → n < opens p → prints n (with_piece ts p) ≡ false
open_in (pieces.Begin d m) zero ts h = refl
open_in (pieces.Begin d m) (suc n) ts h = absurd (omega (arith, h))
open_in (pieces.MadeBegin d m) zero ts h = refl
open_in (pieces.MadeBegin d m) (suc n) ts h = absurd (omega (arith, h))
open_in pieces.BareBegin zero ts h = refl
open_in pieces.BareBegin (suc zero) ts h = refl
open_in pieces.BareBegin (suc (suc n)) ts h = absurd (omega (arith, h))
open_in pieces.Mark zero ts h = refl
open_in pieces.Mark (suc n) ts h = absurd (omega (arith, h))
open_in (pieces.Text f w) n ts h = absurd (omega (arith, h))
open_in (pieces.Markup w) n ts h = absurd (omega (arith, h))
open_in (pieces.Link l) n ts h = absurd (omega (arith, h))
open_in (pieces.Transparent f k) n ts h = absurd (omega (arith, h))
open_in (pieces.Opening d m) n ts h = absurd (omega (arith, h))
open_in (pieces.MadeOpening d m) n ts h = absurd (omega (arith, h))
open_in pieces.End n ts h = absurd (omega (arith, h))
open_in pieces.BareEnd n ts h = absurd (omega (arith, h))
open_in pieces.Closing n ts h = absurd (omega (arith, h))
open_in pieces.Unmark n ts h = absurd (omega (arith, h))

before_mark_letters : (f : Formatting) (cs : List ℕ) (n : ℕ) (ts : List Token) → before_mark n (with_letters f cs ts) ≡ before_mark n ts
before_mark_letters f [] n ts = refl
before_mark_letters f (c ∷ cs) zero ts = before_mark_letters f cs zero (letter f c ∷ ts)
before_mark_letters f (c ∷ cs) (suc n) ts = before_mark_letters f cs (suc n) (letter f c ∷ ts)

before_formula : (n : ℕ) (cs : List ℕ) (ts : List Token) → before_mark n (formula cs ∷ ts) ≡ before_mark n ts
before_formula zero cs ts = refl
before_formula (suc n) cs ts = refl

before_link : (n : ℕ) (f : Formatting) (cs url : List ℕ) (ts : List Token) → before_mark n (link f cs url ∷ ts) ≡ before_mark n ts
before_link zero f cs url ts = refl
before_link (suc n) f cs url ts = refl

before_transparent : (n : ℕ) (f : Formatting) (k : ℕ) (ts : List Token) → before_mark n (transparent f k ∷ ts) ≡ before_mark n ts
before_transparent zero f k ts = refl
before_transparent (suc n) f k ts = refl

before_closing : (n : ℕ) (ts : List Token) → before_mark n (closing ∷ ts) ≡ before_mark n ts
before_closing zero ts = refl
before_closing (suc n) ts = refl

-- what stands before the mark where the marks of a piece are passed
pub before_passed : (p : Piece) (n k : ℕ) (ts : List Token) → k + opens p ≡ n + closes p → before_mark n (with_piece ts p) ≡ before_mark k ts
before_passed (pieces.Text f w) n k ts h =
    let same : n ≡ k = omega (arith, h) in
    before_mark_letters f (words_view w) n ts ∙ ap (λ j. before_mark j ts) same
before_passed (pieces.Markup w) n k ts h =
    let same : n ≡ k = omega (arith, h) in
    before_formula n (words_view w) ts ∙ ap (λ j. before_mark j ts) same
before_passed (pieces.Link l) n k ts h =
    let same : n ≡ k = omega (arith, h) in
    before_link n l.value.formatting (words_view l.value.text) (words_view l.value.url) ts ∙ ap (λ j. before_mark j ts) same
before_passed (pieces.Transparent f i) n k ts h =
    let same : n ≡ k = omega (arith, h) in
    before_transparent n f i ts ∙ ap (λ j. before_mark j ts) same
before_passed (pieces.Opening d m) zero k ts h =
    let same : zero ≡ k = omega (arith, h) in
    ap (λ j. before_mark j ts) same
before_passed (pieces.Opening d m) (suc n) k ts h =
    let same : suc n ≡ k = omega (arith, h) in
    ap (λ j. before_mark j ts) same
before_passed (pieces.MadeOpening d m) zero k ts h =
    let same : zero ≡ k = omega (arith, h) in
    ap (λ j. before_mark j ts) same
before_passed (pieces.MadeOpening d m) (suc n) k ts h =
    let same : suc n ≡ k = omega (arith, h) in
    ap (λ j. before_mark j ts) same
before_passed (pieces.Begin d m) n zero ts h =
    let more : n ≡ suc zero = omega (arith, h) in
    ap (λ j. before_mark j (with_piece ts (pieces.Begin d m))) more
before_passed (pieces.Begin d m) n (suc k) ts h =
    let more : n ≡ suc (suc k) = omega (arith, h) in
    ap (λ j. before_mark j (with_piece ts (pieces.Begin d m))) more
before_passed (pieces.MadeBegin d m) n zero ts h =
    let more : n ≡ suc zero = omega (arith, h) in
    ap (λ j. before_mark j (with_piece ts (pieces.MadeBegin d m))) more
before_passed (pieces.MadeBegin d m) n (suc k) ts h =
    let more : n ≡ suc (suc k) = omega (arith, h) in
    ap (λ j. before_mark j (with_piece ts (pieces.MadeBegin d m))) more
before_passed pieces.BareBegin n k ts h =
    let more : n ≡ suc (suc k) = omega (arith, h) in
    ap (λ j. before_mark j (with_piece ts pieces.BareBegin)) more
before_passed pieces.End n k ts h =
    let more : suc n ≡ k = omega (arith, h) in
    before_closing n (unmark ∷ ts) ∙ ap (λ j. before_mark j ts) more
before_passed pieces.BareEnd n k ts h =
    let more : suc (suc n) ≡ k = omega (arith, h) in
    ap (λ j. before_mark j ts) more
before_passed pieces.Closing n k ts h =
    let same : n ≡ k = omega (arith, h) in
    before_closing n ts ∙ ap (λ j. before_mark j ts) same
before_passed pieces.Mark n k ts h =
    let more : n ≡ suc k = omega (arith, h) in
    ap (λ j. before_mark j (with_piece ts pieces.Mark)) more
before_passed pieces.Unmark n k ts h =
    let more : suc n ≡ k = omega (arith, h) in
    ap (λ j. before_mark j ts) more

-- what stands before a mark of a piece that is open
pub before_opened : (p : Piece) (n : ℕ) (ts : List Token) → n < opens p → before_mark n (with_piece ts p) ≡ with_part ts (before_open p n)
before_opened (pieces.Begin d m) zero ts h = refl
before_opened (pieces.Begin d m) (suc n) ts h = absurd (omega (arith, h))
before_opened (pieces.MadeBegin d m) zero ts h = refl
before_opened (pieces.MadeBegin d m) (suc n) ts h = absurd (omega (arith, h))
before_opened pieces.BareBegin zero ts h = refl
before_opened pieces.BareBegin (suc zero) ts h = refl
before_opened pieces.BareBegin (suc (suc n)) ts h = absurd (omega (arith, h))
before_opened pieces.Mark zero ts h = refl
before_opened pieces.Mark (suc n) ts h = absurd (omega (arith, h))
before_opened (pieces.Text f w) n ts h = absurd (omega (arith, h))
before_opened (pieces.Markup w) n ts h = absurd (omega (arith, h))
before_opened (pieces.Link l) n ts h = absurd (omega (arith, h))
before_opened (pieces.Transparent f k) n ts h = absurd (omega (arith, h))
before_opened (pieces.Opening d m) n ts h = absurd (omega (arith, h))
before_opened (pieces.MadeOpening d m) n ts h = absurd (omega (arith, h))
before_opened pieces.End n ts h = absurd (omega (arith, h))
before_opened pieces.BareEnd n ts h = absurd (omega (arith, h))
before_opened pieces.Closing n ts h = absurd (omega (arith, h))
before_opened pieces.Unmark n ts h = absurd (omega (arith, h))

-- what stands before the first mark of a piece, or before the start of an element
pub before_first : (p : Piece) (ts : List Token) → is_first p ≡ true → before_prefix (with_piece ts p) ≡ with_part ts (first_part p)
before_first pieces.Mark ts h = refl
before_first (pieces.Opening d m) ts h = refl
before_first (pieces.MadeOpening d m) ts h = refl
before_first (pieces.Begin d m) ts h = refl
before_first (pieces.MadeBegin d m) ts h = refl
before_first pieces.BareBegin ts h = refl
before_first (pieces.Text f w) ts h = cc
before_first (pieces.Markup w) ts h = cc
before_first (pieces.Link l) ts h = cc
before_first (pieces.Transparent f k) ts h = cc
before_first pieces.End ts h = cc
before_first pieces.BareEnd ts h = cc
before_first pieces.Closing ts h = cc
before_first pieces.Unmark ts h = cc

-- one piece more
pub put_more : (ps : List Piece) (i j : ℕ) (p : Piece) (n : ℕ) → i + 1 ≡ j → j ≤ length ps → p ≡ get_or ps i p → prints n (pieces_view (take j ps)) ≡ prints n (with_piece (pieces_view (take i ps)) p)
put_more ps i j p n next low at = ap (prints n) (tokens_more ps i j p next low at)

before_prefix_letters : (f : Formatting) (cs : List ℕ) (ts : List Token) → before_prefix (with_letters f cs ts) ≡ before_prefix ts
before_prefix_letters f [] ts = refl
before_prefix_letters f (c ∷ cs) ts = before_prefix_letters f cs (letter f c ∷ ts)

-- what an element does not begin with
pub prefix_goes_on : (p : Piece) (ts : List Token) → is_first p ≡ false → before_prefix (with_piece ts p) ≡ before_prefix ts
prefix_goes_on (pieces.Text f w) ts e = before_prefix_letters f (words_view w) ts
prefix_goes_on (pieces.Opening d m) ts e = cc
prefix_goes_on (pieces.MadeOpening d m) ts e = cc
prefix_goes_on (pieces.Begin d m) ts e = cc
prefix_goes_on (pieces.MadeBegin d m) ts e = cc
prefix_goes_on pieces.BareBegin ts e = cc
prefix_goes_on pieces.Mark ts e = cc
prefix_goes_on (pieces.Markup w) ts e = refl
prefix_goes_on (pieces.Link l) ts e = refl
prefix_goes_on (pieces.Transparent f k) ts e = refl
prefix_goes_on pieces.End ts e = refl
prefix_goes_on pieces.BareEnd ts e = refl
prefix_goes_on pieces.Closing ts e = refl
prefix_goes_on pieces.Unmark ts e = refl

-- the last piece is taken off
pub taken_off : (change : List Token → List Token) (ps qs : List Piece) (p : Piece) → qs ≡ ps ++ p ∷ [] → change (pieces_view qs) ≡ change (with_piece (pieces_view ps) p)
taken_off change ps qs p e = ap (λ rs. change (pieces_view rs)) e ∙ ap change (tokens_push ps p)

-- where a piece has the mark that is looked for, what of it stands before that mark is left
pub cut_in : (ps qs : List Piece) (p : Piece) (n : ℕ) (part : Option Piece) (ts : List Token) → qs ≡ ps ++ p ∷ [] → n < opens p → part ≡ before_open p n → before_mark n (pieces_view qs) ≡ ts
    → with_part (pieces_view ps) part ≡ ts
cut_in ps qs p n part ts last low is known =
    ap (with_part (pieces_view ps)) is ∙ sym (before_opened p n (pieces_view ps) low) ∙ sym (taken_off (before_mark n) ps qs p last) ∙ known

-- where it has not, the mark is looked for before it
cut_before : (ps qs : List Piece) (p : Piece) (n k : ℕ) (ts : List Token) → qs ≡ ps ++ p ∷ [] → k + opens p ≡ n + closes p → before_mark n (pieces_view qs) ≡ ts → before_mark k (pieces_view ps) ≡ ts
cut_before ps qs p n k ts last marks known = sym (taken_off (before_mark n) ps qs p last ∙ before_passed p n k (pieces_view ps) marks) ∙ known

-- so it is with what the piece opens and closes, and there is one piece less
pub cut_goes_on : (ps qs : List Piece) (p : Piece) (n o e m : ℕ) (ts : List Token) → qs ≡ ps ++ p ∷ [] → length ps + 1 ≡ length qs → o ≡ opens p → e ≡ closes p → e ≤ 2 → o ≤ n
    → n + (length qs + length qs) ≤ m → before_mark n (pieces_view qs) ≡ ts
    → (n - o + e + (length ps + length ps) ≤ m) × (before_mark (n - o + e) (pieces_view ps) ≡ ts)
cut_goes_on ps qs p n o e m ts last long opened closed few low room known =
    let marks : n - o + e + opens p ≡ n + closes p = omega (arith, opened, closed, low) in
    (omega (arith, room, few, long, low), cut_before ps qs p n (n - o + e) ts last marks known)

-- where an element begins with a piece, what of it stands before is left
pub cut_first : (ps qs : List Piece) (p : Piece) (part : Option Piece) (ts : List Token) → qs ≡ ps ++ p ∷ [] → is_first p ≡ true → part ≡ first_part p → before_prefix (pieces_view qs) ≡ ts
    → with_part (pieces_view ps) part ≡ ts
cut_first ps qs p part ts last first is known =
    ap (with_part (pieces_view ps)) is ∙ sym (before_first p (pieces_view ps) first) ∙ sym (taken_off before_prefix ps qs p last) ∙ known

-- where it does not, it begins before
pub cut_more : (ps qs : List Piece) (p : Piece) (ts : List Token) → qs ≡ ps ++ p ∷ [] → is_first p ≡ false → before_prefix (pieces_view qs) ≡ ts → before_prefix (pieces_view ps) ≡ ts
cut_more ps qs p ts last none known = sym (taken_off before_prefix ps qs p last ∙ prefix_goes_on p (pieces_view ps) none) ∙ known

begun_still : (f : Formatting) (cs : List ℕ) (ts : List Token) → is_begun ts ≡ true → is_begun (with_letters f cs ts) ≡ true
begun_still f [] ts e = e
begun_still f (c ∷ cs) ts e = begun_still f cs (letter f c ∷ ts) refl

begun_letters : (f : Formatting) (cs : List ℕ) (ts : List Token) → is_begun (with_letters f cs ts) ≡ (is_filled cs || is_begun ts)
begun_letters f [] ts = refl
begun_letters f (c ∷ cs) ts = begun_still f cs (letter f c ∷ ts) refl

pub append_begun : (p : Piece) (ts : List Token) → is_begun (with_piece ts p) ≡ (is_something p || is_begun ts)
append_begun (pieces.Text f w) ts = begun_letters f (words_view w) ts
append_begun (pieces.Markup w) ts = refl
append_begun (pieces.Link l) ts = refl
append_begun (pieces.Transparent f n) ts = refl
append_begun (pieces.Opening d m) ts = refl
append_begun (pieces.MadeOpening d m) ts = refl
append_begun (pieces.Begin d m) ts = refl
append_begun (pieces.MadeBegin d m) ts = refl
append_begun pieces.BareBegin ts = refl
append_begun pieces.End ts = refl
append_begun pieces.BareEnd ts = refl
append_begun pieces.Closing ts = refl
append_begun pieces.Mark ts = refl
append_begun pieces.Unmark ts = refl

or_none : (b : Bool) → (b || false) ≡ b
or_none true = refl
or_none false = refl

begun_from : (ps : List Piece) (ts : List Token) → is_begun (fold with_piece ts ps) ≡ (list_any is_something ps || is_begun ts)
begun_from [] ts = refl
begun_from (p ∷ ps) ts =
    begun_from ps (with_piece ts p) ∙ ap (λ b. list_any is_something ps || b) (append_begun p ts) ∙ or_turned (list_any is_something ps) (is_something p) (is_begun ts)

-- something was appended by one of the pieces
pub begun_any : (ps : List Piece) → list_any is_something ps ≡ is_begun (pieces_view ps)
begun_any ps = sym (begun_from ps [] ∙ or_none (list_any is_something ps))

or_true : (a b : Bool) → b ≡ true → (a || b) ≡ true
or_true true b e = refl
or_true false b e = e

or_more : (a b d : Bool) → (b ≡ true → d ≡ true) → (a || b) ≡ true → (a || d) ≡ true
or_more true b d f e = refl
or_more false b d f e = f e

-- what prints after the marks that are passed prints after more of them
prints_more : (m n : ℕ) (ts : List Token) → m ≤ n → prints m ts ≡ true → prints n ts ≡ true
prints_more m n [] h e = e
prints_more m n (letter f c ∷ ts) h e = or_more (not (is_whitespace c)) (prints m ts) (prints n ts) (prints_more m n ts h) e
prints_more m n (formula cs ∷ ts) h e = refl
prints_more m n (link f cs url ∷ ts) h e = refl
prints_more m n (transparent f k ∷ ts) h e = refl
prints_more m n (opening d i ∷ ts) h e = prints_more m n ts h e
prints_more m n (closing ∷ ts) h e = prints_more m n ts h e
prints_more m n (unmark ∷ ts) h e = prints_more (suc m) (suc n) ts (omega (arith, h)) e
prints_more zero n (mark ∷ ts) h e = absurd (false≢true e)
prints_more (suc m) zero (mark ∷ ts) h e = absurd (omega (arith, h))
prints_more (suc m) (suc n) (mark ∷ ts) h e = prints_more m n ts (omega (arith, h)) e

-- and it does after a piece with which nothing begins
still_prints : (p : Piece) (ts : List Token) → begins_nothing p ≡ true → prints 0 ts ≡ true → prints 0 (with_piece ts p) ≡ true
still_prints (pieces.Text f w) ts g e = prints_letters f (words_view w) 0 ts ∙ or_true (list_any (λ c. not (is_whitespace c)) (words_view w)) (prints 0 ts) e
still_prints (pieces.Markup w) ts g e = refl
still_prints (pieces.Link l) ts g e = refl
still_prints (pieces.Transparent f k) ts g e = refl
still_prints (pieces.Opening d m) ts g e = e
still_prints (pieces.MadeOpening d m) ts g e = e
still_prints (pieces.Begin d m) ts g e = cc
still_prints (pieces.MadeBegin d m) ts g e = cc
still_prints pieces.BareBegin ts g e = cc
still_prints pieces.End ts g e = prints_more 0 1 ts (omega arith) e
still_prints pieces.BareEnd ts g e = prints_more 0 2 ts (omega arith) e
still_prints pieces.Closing ts g e = e
still_prints pieces.Mark ts g e = cc
still_prints pieces.Unmark ts g e = prints_more 0 1 ts (omega arith) e

-- what is known stays known after such a piece
pub known_push : (b : Bool) (ps qs : List Piece) (p : Piece) → begins_nothing p ≡ true → known_to_print b (pieces_view ps) ≡ true → qs ≡ ps ++ p ∷ [] → known_to_print b (pieces_view qs) ≡ true
known_push false ps qs p g e f = refl
known_push true ps qs p g e f = ap (λ rs. prints 0 (pieces_view rs)) f ∙ ap (prints 0) (tokens_push ps p) ∙ still_prints p (pieces_view ps) g e

-- a text prints that does not begin with white space, where no full stops go and no case applies
pub known_by : (case : Option TextCase) (is_english strips cased w b : Bool) (f : Formatting) (c : ℕ) (cs : List ℕ) (ts : List Token)
    → cased ≡ applies case is_english → w ≡ is_whitespace c → b ≡ (not strips && (not cased && not w))
    → known_to_print b (with_letters f (stripped_if strips (cased_text case is_english (c ∷ cs))) ts) ≡ true
known_by case is_english strips cased w false f c cs ts applied white is = refl
known_by case is_english true cased w true f c cs ts applied white is = absurd (false≢true (sym is))
known_by case is_english false true w true f c cs ts applied white is = absurd (false≢true (sym is))
known_by case is_english false false true true f c cs ts applied white is = absurd (false≢true (sym is))
known_by case is_english false false false true f c cs ts applied white is =
    ap (λ (xs : List ℕ). prints 0 (with_letters f xs ts)) (same_text case is_english (c ∷ cs) (sym applied))
    ∙ prints_letters f (c ∷ cs) 0 ts
    ∙ ap (λ (a : Bool). (not a || list_any (λ d. not (is_whitespace d)) cs) || prints 0 ts) (sym white)
