-- Page ranges that were written are read back.
use Rattle.std.proofs.Common.{◌≡◌, ℕ, true, List, [], ◌∷◌, ◌++◌, Option, Some, None, Result, Ok, Err, ℤ, refl, sym, ap, ◌∙◌, subst, append_assoc, append-nil}
use Rattle.std.specs.Fmt.{signed_decimal}
use Rattle.std.specs.List.{flat_map}
use Rattle.laws.specs.Characters.{en_dash}
use Rattle.laws.specs.Results.{GivesBack, GivesOrRefuses}
use Rattle.laws.proofs.Results.{gives_back_or_refuses}
use Rattle.literature_numbers.specs.Numerics.{Numbers, Numeral, plain, numbers_at}
use Rattle.literature_numbers.specs.NumericText.{delimiter_text, separator_text, linked_text, IsCount, AreLinked}
use Rattle.literature_numbers.specs.Pages.{Part, AmpersandPart, CommaPart, SinglePage, Range, page, pages_from, pages_of, part_text, pages_text, IsPage, IsSeparator, AreReadable}
use Rattle.literature_numbers.specs.PageViews.{pages_view, refusal_of_pages}
use Rattle.literature_numbers.specs.declared.separator.NumericDelimiter.{NumericDelimiter}
use Rattle.literature_numbers.specs.declared.separator.NumericDelimiter.TheVariants.{Comma, Ampersand, Hyphen}
use Rattle.literature_numbers.specs.declared.page_ranges.PageRanges.{PageRanges}
use Rattle.literature_numbers.specs.declared.page_ranges.PageRangesError.{PageRangesError}
use Rattle.texts.specs.declared.reader.Unreadable.{Unreadable}
use Rattle.literature_numbers.proofs.NumbersAgain.{numbers_again}

-- the numbers that parts were made of
record Grouped (ps : List Part) : Type 0 where
  first : ℤ × Option NumericDelimiter
  others : Numbers
  written : flat_map linked_text (first ∷ others) ≡ pages_text ps
  links : AreLinked (first ∷ others)
  grouped : pages_from None (first ∷ others) ≡ Ok ps

-- what follows the last number of a page or range: the separator after it, further numbers, and the parts that they make
record Follows (o : Option NumericDelimiter) (ns : Numbers) (ps : List Part) : Type 0 where
  written : separator_text o ++ flat_map linked_text ns ≡ pages_text ps
  links : (z : ℤ) → IsCount z → AreLinked ((z, o) ∷ ns)
  grouped : (first : Option ℤ) (z : ℤ) → pages_from first ((z, o) ∷ ns) ≡ Ok (page first z ∷ ps)

nothing_follows : Follows None [] []
nothing_follows = record { written = refl; links = λ z count. (count, refl); grouped = λ first z. refl }

separated : (d : NumericDelimiter) (s : Part) → part_text s ≡ delimiter_text d → (ps : List Part) (g : Grouped ps)
    → ((first : Option ℤ) (z : ℤ) → pages_from first ((z, Some d) ∷ g.first ∷ g.others) ≡ Ok (page first z ∷ s ∷ ps)) → Follows (Some d) (g.first ∷ g.others) (s ∷ ps)
separated d s same ps g grouped = record {
  written = (λ i. sym same i ++ g.written i);
  links = λ z count. (count, refl {a = true}, g.links);
  grouped = grouped;
}

separator_follows : (s : Part) → IsSeparator s → (ps : List Part) (g : Grouped ps) → (o : Option NumericDelimiter) × Follows o (g.first ∷ g.others) (s ∷ ps)
separator_follows CommaPart is ps g = let grouped = g.grouped in (Some Comma, separated Comma CommaPart refl ps g (λ first z. rw grouped refl))
separator_follows AmpersandPart is ps g = let grouped = g.grouped in (Some Ampersand, separated Ampersand AmpersandPart refl ps g (λ first z. rw grouped refl))
separator_follows (SinglePage n) is ps g = absurd is
separator_follows (Range m n) is ps g = absurd is

-- a page or a range, and what follows it
page_before : (p : Part) → IsPage p → (o : Option NumericDelimiter) (ns : Numbers) (ps : List Part) → Follows o ns ps → Grouped (p ∷ ps)
page_before AmpersandPart is o ns ps f = absurd is
page_before CommaPart is o ns ps f = absurd is
page_before (SinglePage n) is o ns ps f = subst (λ (m : Numeral). Grouped (SinglePage m ∷ ps)) (sym is.2) (record {
  first = (is.0, o);
  others = ns;
  written = append_assoc (signed_decimal is.0) (separator_text o) (flat_map linked_text ns) ∙ (λ i. sym (append-nil (signed_decimal is.0)) i ++ f.written i);
  links = f.links is.0 is.1;
  grouped = f.grouped None is.0;
})
page_before (Range m n) is o ns ps f = subst (λ (r : Part). Grouped (r ∷ ps)) (λ i. Range (sym is.0.2 i) (sym is.1.2 i)) (record {
  first = (is.0.0, Some Hyphen);
  others = (is.1.0, o) ∷ ns;
  written = range_text is.0.0 is.1.0;
  links = (is.0.1, refl {a = true}, f.links is.1.0 is.1.1);
  grouped = f.grouped (Some is.0.0) is.1.0;
})
  where
    range_text : (y z : ℤ) → flat_map linked_text ((y, Some Hyphen) ∷ (z, o) ∷ ns) ≡ pages_text (Range (plain y) (plain z) ∷ ps)
    range_text y z = simp (append_assoc, append-nil) (ap (λ (t : List ℕ). signed_decimal y ++ (en_dash ∷ (signed_decimal z ++ t))) f.written)

grouped_from : (ps : List Part) → AreReadable ps → Grouped ps
grouped_from [] are = absurd are
grouped_from (p ∷ []) are = page_before p are None [] [] nothing_follows
grouped_from (p ∷ s ∷ ps) are =
    let g = grouped_from ps are.2 in
    let f = separator_follows s are.1 ps g in
    page_before p are.0 f.0 (g.first ∷ g.others) (s ∷ ps) f.1

-- what was written is read back
pub pages_again : (ps : List Part) → AreReadable ps → pages_of (pages_text ps) ≡ Ok ps
unfolding pages_of
pages_again ps are =
    let g = grouped_from ps are in
    let whole : flat_map linked_text (g.first ∷ g.others) ++ [] ≡ pages_text ps = append-nil (flat_map linked_text (g.first ∷ g.others)) ∙ g.written in
    let read : numbers_at (pages_text ps) ≡ Ok (g.first ∷ g.others, []) = sym (ap numbers_at whole) ∙ numbers_again g.first g.others [] g.links tt in
    let grouped = g.grouped in
    rw (read, grouped) refl

-- so what means what was written is what was written
pub read_back_pages : (r : Result PageRanges PageRangesError) (cs : List ℕ) → GivesOrRefuses refusal_of_pages pages_view r (pages_of cs) → (ps : List Part) → AreReadable ps → cs ≡ pages_text ps → GivesBack refusal_of_pages pages_view r ps
read_back_pages r cs means ps are e = gives_back_or_refuses Unreadable refusal_of_pages pages_view r ps (rw (ap pages_of e ∙ pages_again ps are) at means)
