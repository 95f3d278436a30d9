-- Ranges that were written are read back.
use Rattle.std.proofs.Common.{◌≡◌, ℕ, ◌<◌, ◌^◌, Bool, true, false, List, [], ◌∷◌, ◌++◌, Some, None, Result, Ok, refl, sym, ap, ◌∙◌, append_assoc, append-nil, eqb}
use Rattle.std.specs.Fmt.{decimal}
use Rattle.std.specs.List.{flat_map}
use Rattle.std.specs.declared.ops.Range.{Range}
use Rattle.std.proofs.lemmas.Bool.{eqb-true}
use Rattle.laws.specs.Characters as character
use Rattle.laws.specs.Results.{◌>>=◌}
use Rattle.laws.specs.Runs.{Bars}
use Rattle.laws.specs.Steps.{each}
use Rattle.laws.proofs.Runs.{cuts}
use Rattle.laws.proofs.Steps.{each-none, each-some}
use Rattle.texts.specs.Character.{passes}
use Rattle.texts.specs.declared.character.Class.TheVariants.{Digit, Space, Dash}
use Rattle.texts.specs.declared.reader.Unreadable.{Unreadable}
use Rattle.texts.proofs.ReadingStarts.{Starts, decimal_starts, digit_bars, number_again}
use Rattle.biblatex_content.specs.declared.chunk.Kind.TheVariants.{Normal}
use Rattle.biblatex_values.specs.Pages.{from_to, page_at, dashes_after, range_at, comma_after, next_range_at, ranges_at, range_of, ranges_of, reads_range, reads_ranges, range_text, more_text, ranges_text, writes_range, writes_ranges, ArePages, AllArePages, AreSomePages}
use Rattle.biblatex_values.proofs.TextsPlain.{plain-letters}
use Rattle.biblatex_values.proofs.PagesRanges.{ranges_shorten}

page_again : (n : ℕ) (rest : List ℕ) → n < 2 ^ 31 → Bars (passes Digit) rest → page_at (decimal n ++ rest) ≡ Ok (n, rest)
page_again n rest small bars = let e = number_again n rest small bars in rw e refl

-- an en dash that was written before a number is read back
dash_again : (n : ℕ) (rest : List ℕ) → n < 2 ^ 31 → dashes_after (character.en_dash ∷ (decimal n ++ rest)) ≡ Some (decimal n ++ rest)
unfolding passes
dash_again n rest small =
    let b = digit_bars (decimal n ++ rest) (decimal_starts n rest small) in
    let dashes = (cuts (passes Dash) [] (decimal n ++ rest) tt b.2).after in
    let spaces = (cuts (passes Space) [] (decimal n ++ rest) tt b.1).after in
    rw (dashes, spaces) refl

dash_bars : (cs : List ℕ) → Bars (passes Digit) (character.en_dash ∷ cs)
unfolding passes
dash_bars cs = refl

-- a text that does not go on with a digit or dashes
record Stops (rest : List ℕ) : Type 0 where
  bars : Bars (passes Digit) rest
  none : dashes_after rest ≡ None

-- a range that was written is read back
range_again_before : (r : Range ℕ) (rest : List ℕ) → ArePages r → Stops rest → range_at (range_text r ++ rest) ≡ Ok (r, rest)
unfolding range_at
range_again_before r rest are stops = by_test (eqb r.start r.end) refl
  where
    alone : eqb r.start r.end ≡ true → range_at (decimal r.start ++ rest) ≡ Ok (r, rest)
    alone is =
        let first = page_again r.start rest are.0 stops.bars in
        let none = stops.none in
        let same : r.start ≡ r.end = eqb-true r.start r.end is in
        rw (first, none) (ap (λ (last : ℕ). Ok (from_to r.start last, rest)) same)

    two : range_at ((decimal r.start ++ character.en_dash ∷ decimal r.end) ++ rest) ≡ Ok (r, rest)
    two =
        let first = page_again r.start (character.en_dash ∷ (decimal r.end ++ rest)) are.0 (dash_bars (decimal r.end ++ rest)) in
        let dash = dash_again r.end rest are.1 in
        let last = page_again r.end rest are.1 stops.bars in
        ap range_at (append_assoc (decimal r.start) (character.en_dash ∷ decimal r.end) rest) ∙ rw (first, dash, last) refl

    by_test : (t : Bool) → eqb r.start r.end ≡ t → range_at (range_text r ++ rest) ≡ Ok (r, rest)
    by_test true is = rw is (alone is)
    by_test false is = rw is two

end_stops : Stops []
end_stops = record { bars = tt; none = refl }

others_stop : (rs : List (Range ℕ)) → Stops (flat_map more_text rs)
unfolding passes
others_stop [] = record { bars = tt; none = refl }
others_stop (r ∷ rs) = record { bars = refl; none = refl }

-- a text begins with a digit where a range does
range_starts : (r : Range ℕ) (rest : List ℕ) → ArePages r → Starts (passes Digit) (range_text r ++ rest)
range_starts r rest are = by_test (eqb r.start r.end) refl
  where
    by_test : (t : Bool) → eqb r.start r.end ≡ t → Starts (passes Digit) (range_text r ++ rest)
    by_test true is = rw is (decimal_starts r.start rest are.0)
    by_test false is = rw (is, append_assoc (decimal r.start) (character.en_dash ∷ decimal r.end) rest) (decimal_starts r.start (character.en_dash ∷ (decimal r.end ++ rest)) are.0)

comma_again : (cs : List ℕ) → Starts (passes Digit) cs → comma_after (character.comma ∷ character.space ∷ cs) ≡ Some cs
unfolding passes
comma_again cs s =
    let b = digit_bars cs s in
    let spaces = (cuts (passes Space) [] cs tt b.1).after in
    rw spaces refl

next_again : (r : Range ℕ) (rest : List ℕ) → ArePages r → Stops rest → next_range_at (more_text r ++ rest) ≡ Ok (Some r, rest)
unfolding next_range_at
next_again r rest are stops =
    let comma = comma_again (range_text r ++ rest) (range_starts r rest are) in
    let range = range_again_before r rest are stops in
    rw (comma, range) refl

no_next : next_range_at [] ≡ Ok (None, [])
unfolding next_range_at
no_next = refl

others_again : (rs : List (Range ℕ)) → AllArePages rs → each next_range_at (flat_map more_text rs) ≡ Ok (rs, [])
others_again [] are = each-none next_range_at [] [] no_next
others_again (r ∷ rs) are =
    each-some next_range_at ranges_shorten (flat_map more_text (r ∷ rs)) (flat_map more_text rs) r (next_again r (flat_map more_text rs) are.0 (others_stop rs))
    ∙ ap (λ (p : Result (List (Range ℕ) × List ℕ) Unreadable). p >>= λ p. Ok (r ∷ p.0, p.1)) (others_again rs are.1)

ranges_again_at : (r : Range ℕ) (rs : List (Range ℕ)) → AllArePages (r ∷ rs) → ranges_at (range_text r ++ flat_map more_text rs) ≡ Ok (r ∷ rs, [])
unfolding ranges_at
ranges_again_at r rs are =
    let first = range_again_before r (flat_map more_text rs) are.0 (others_stop rs) in
    let others = others_again rs are.1 in
    rw (first, others) refl

pub range_again : (r : Range ℕ) → ArePages r → reads_range (writes_range r) ≡ Ok r
range_again r are =
    let read : range_at (range_text r) ≡ Ok (r, []) = ap range_at (sym (append-nil (range_text r))) ∙ range_again_before r [] are end_stops in
    ap range_of (plain-letters Normal (range_text r)) ∙ rw read refl

pub ranges_again : (rs : List (Range ℕ)) → AreSomePages rs → reads_ranges (writes_ranges rs) ≡ Ok rs
ranges_again [] are = absurd are
ranges_again (r ∷ rs) are =
    let read = ranges_again_at r rs are in
    ap ranges_of (plain-letters Normal (ranges_text (r ∷ rs))) ∙ rw read refl
