-- Pages and ranges of the grammar are those that are read.
use Rattle.std.proofs.Common.{◌≡◌, ℕ, zero, suc, List, [], ◌∷◌, length, Option, Some, None, Result, Ok, refl, sym, ap, ◌∙◌, subst, inl, inr}
use Rattle.std.specs.declared.ops.Range.{Range}
use Rattle.laws.specs.Results.{◌>>=◌}
use Rattle.laws.specs.Runs.{Bars}
use Rattle.laws.specs.Steps.{go_on, each_below, each}
use Rattle.laws.proofs.Results.{bind_ok}
use Rattle.laws.proofs.Steps.{each-none, each-some}
use Rattle.texts.specs.Character.{passes}
use Rattle.texts.specs.declared.character.Class.TheVariants.{Digit}
use Rattle.texts.specs.declared.reader.Unreadable.{Unreadable}
use Rattle.texts.proofs.ReadingStarts.{Starts}
use Rattle.biblatex_values.specs.Pages.{from_to, page_at, dashes_after, last_from, range_at, comma_after, range_from, next_range_at, ranges_at}
use Rattle.biblatex_values.proofs.PagesRanges.{ranges_shorten}
use Rattle.biblatex_readings_grammar.specs.Pages.{IsPage, IsComma, IsRange, AreRanges}
use Rattle.biblatex_readings_grammar.proofs.PageMarks.{at_read, page-again, page-takes, page-starts, dashes-again, dashes-bar, dashes-take, comma-again, comma-bars, comma-no_dashes, comma-takes}

-- what may follow a range: no digit and no dashes
pub record Ends (cs : List ℕ) : Type 0 where
  pub bars : Bars (passes Digit) cs
  pub none : dashes_after cs ≡ None

pub nothing-ends : Ends []
nothing-ends = record { bars = tt; none = refl }

comma-ends : (cs rest : List ℕ) → IsComma cs rest → Ends cs
comma-ends cs rest is = record { bars = comma-bars cs rest is; none = comma-no_dashes cs rest is }

pub range-again : (cs rest : List ℕ) (r : Range ℕ) → IsRange cs r rest → Ends rest → range_at cs ≡ Ok (r, rest)
unfolding range_at
range-again cs rest r (inl (page, e)) ends =
    let first = page-again cs rest r.start page ends.bars in
    let none = ends.none in
    rw (first, none) (λ i. Ok (from_to r.start (sym e i), rest))
range-again cs rest r (inr (a, b, page, dashes, last)) ends =
    let first = page-again cs a r.start page (dashes-bar a b dashes) in
    let mark = dashes-again a b dashes (page-starts b rest r.end last) in
    let second = page-again b rest r.end last ends.bars in
    rw (first, mark, second) refl

range-starts : (cs rest : List ℕ) (r : Range ℕ) → IsRange cs r rest → Starts (passes Digit) cs
range-starts cs rest r (inl (page, e)) = page-starts cs rest r.start page
range-starts cs rest r (inr (a, b, page, dashes, last)) = page-starts cs a r.start page

pub range-takes : (cs : List ℕ) (p : Range ℕ × List ℕ) → range_at cs ≡ Ok p → IsRange cs p.0 p.1
unfolding range_at
range-takes cs p e =
    let first = bind_ok (page_at cs) _ p e in
    by_dashes first.0 (page-takes cs first.0 first.1) (dashes_after first.0.1) refl first.2
  where
    Is : Range ℕ × List ℕ → Type 0
    Is q = IsRange cs q.0 q.1

    by_dashes : (q : ℕ × List ℕ) → IsPage cs q.0 q.1 → (o : Option (List ℕ)) → dashes_after q.1 ≡ o → last_from q.0 q.1 o ≡ Ok p → Is p
    by_dashes q page None is h = at_read Is (from_to q.0 q.0, q.1) p h (inl (page, refl))
    by_dashes q page (Some rest) is h =
        let last = bind_ok (page_at rest) _ p h in
        at_read Is (from_to q.0 last.0.0, last.0.1) p last.2 (inr (q.1, rest, page, dashes-take q.1 rest is, page-takes rest last.0 last.1))

-- a first range and what is read after it
record Read (cs : List ℕ) (r : Range ℕ) (rs : List (Range ℕ)) : Type 0 where
  pub left : List ℕ
  pub first : range_at cs ≡ Ok (r, left)
  pub others : each next_range_at left ≡ Ok (rs, [])

no_next : next_range_at [] ≡ Ok (None, [])
unfolding next_range_at
no_next = refl

ranges-start : (rs : List (Range ℕ)) (r : Range ℕ) (cs : List ℕ) → AreRanges cs (r ∷ rs) → Starts (passes Digit) cs
ranges-start [] r cs are = range-starts cs [] r are
ranges-start (s ∷ rs) r cs (a, b, range, comma, more) = range-starts cs a r range

next-again : (a b rest : List ℕ) (r : Range ℕ) → comma_after a ≡ Some b → range_at b ≡ Ok (r, rest) → next_range_at a ≡ Ok (Some r, rest)
unfolding next_range_at
next-again a b rest r comma range = rw (comma, range) refl

ranges-read : (rs : List (Range ℕ)) (r : Range ℕ) (cs : List ℕ) → AreRanges cs (r ∷ rs) → Read cs r rs
ranges-read [] r cs are = record { left = []; first = range-again cs [] r are nothing-ends; others = each-none next_range_at [] [] no_next }
ranges-read (s ∷ rs) r cs (a, b, range, comma, more) =
    let m = ranges-read rs s b more in
    let step = next-again a b m.left s (comma-again a b comma (ranges-start rs s b more)) m.first in
    record {
      left = a;
      first = range-again cs a r range (comma-ends a b comma);
      others = each-some next_range_at ranges_shorten a m.left s step ∙ ap (λ (q : Result (List (Range ℕ) × List ℕ) Unreadable). q >>= λ p. Ok (s ∷ p.0, p.1)) m.others;
    }

pub ranges-again : (cs : List ℕ) (rs : List (Range ℕ)) → AreRanges cs rs → ranges_at cs ≡ Ok (rs, [])
unfolding ranges_at
ranges-again cs [] are = absurd are
ranges-again cs (r ∷ rs) are =
    let m = ranges-read rs r cs are in
    let first = m.first in
    let others = m.others in
    rw (first, others) refl

-- a comma or an ampersand and a range, or nothing
abbrev IsNext : List ℕ → Option (Range ℕ) × List ℕ → Type 0
IsNext cs (None, rest) = cs ≡ rest
IsNext cs (Some r, rest) = (a : List ℕ) × IsComma cs a × IsRange a r rest

next-takes : (cs : List ℕ) (p : Option (Range ℕ) × List ℕ) → next_range_at cs ≡ Ok p → IsNext cs p
unfolding next_range_at
next-takes cs p e = by_comma (comma_after cs) refl e
  where
    by_comma : (o : Option (List ℕ)) → comma_after cs ≡ o → range_from cs o ≡ Ok p → IsNext cs p
    by_comma None is h = at_read (IsNext cs) (None, cs) p h refl
    by_comma (Some rest) is h =
        let range = bind_ok (range_at rest) _ p h in
        at_read (IsNext cs) (Some range.0.0, range.0.1) p range.2 (rest, comma-takes cs rest is, range-takes rest range.0 range.1)

others-below : (k : ℕ) (r : Range ℕ) (cs a : List ℕ) (p : List (Range ℕ) × List ℕ) → IsRange cs r a → each_below k next_range_at a ≡ Ok p → p.1 ≡ [] → AreRanges cs (r ∷ p.0)
unfolding each_below
others-below zero r cs a p range e end =
    at_read (λ (q : List (Range ℕ) × List ℕ). q.1 ≡ [] → AreRanges cs (r ∷ q.0)) ([], a) p e (λ none. subst (λ (x : List ℕ). IsRange cs r x) none range) end
others-below (suc k) r cs a p range e end =
    let next = bind_ok (next_range_at a) _ p e in
    by_next (λ s b c q is h g. others-below k s b c q is h g) next.0 (next-takes a next.0 next.1) next.2
  where
    Are : List (Range ℕ) × List ℕ → Type 0
    Are q = q.1 ≡ [] → AreRanges cs (r ∷ q.0)

    by_next : ((s : Range ℕ) (b c : List ℕ) (q : List (Range ℕ) × List ℕ) → IsRange b s c → each_below k next_range_at c ≡ Ok q → q.1 ≡ [] → AreRanges b (s ∷ q.0))
        → (o : Option (Range ℕ) × List ℕ) → IsNext a o → go_on (λ rest. each_below k next_range_at rest) o.0 o.1 ≡ Ok p → AreRanges cs (r ∷ p.0)
    by_next more (None, rest) is h = at_read Are ([], rest) p h (λ none. subst (λ (x : List ℕ). IsRange cs r x) (is ∙ none) range) end
    by_next more (Some s, rest) (b, comma, second) h =
        let others = bind_ok (each_below k next_range_at rest) _ p h in
        at_read Are (s ∷ others.0.0, others.0.1) p others.2 (λ none. (a, b, range, comma, more s b rest others.0 second others.1 none)) end

pub ranges-take : (cs : List ℕ) (rs : List (Range ℕ)) → ranges_at cs ≡ Ok (rs, []) → AreRanges cs rs
unfolding ranges_at each
ranges-take cs rs e =
    let first = bind_ok (range_at cs) _ (rs, []) e in
    let others = bind_ok (each next_range_at first.0.1) _ (rs, []) first.2 in
    at_read (λ (q : List (Range ℕ) × List ℕ). q.1 ≡ [] → AreRanges cs q.0) (first.0.0 ∷ others.0.0, others.0.1) (rs, []) others.2
    (λ none. others-below (suc (length first.0.1)) first.0.0 cs first.0.1 others.0 (range-takes cs first.0 first.1) others.1 none) refl
