-- Pages and ranges of the grammar are those that are read.
use Rattle.std.proofs.Common.{◌≡◌, ℕ, List, [], ◌∷◌, Option, Some, None, Ok, ℤ, refl, sym, ap, ◌∙◌, subst}
use Rattle.laws.proofs.Results.{bind_ok, ok_is}
use Rattle.texts.specs.Reading.{end_at}
use Rattle.texts.specs.declared.reader.Unreadable.{Unreadable}
use Rattle.literature_numbers.specs.Numerics.{Numbers, Numeral, plain, numbers_at}
use Rattle.literature_numbers.specs.Pages.{Part, AmpersandPart, CommaPart, SinglePage, Range, page, pages_from, pages_of}
use Rattle.literature_numbers.specs.declared.separator.NumericDelimiter.{NumericDelimiter}
use Rattle.literature_numbers.specs.declared.separator.NumericDelimiter.TheVariants.{Comma, Ampersand, Hyphen}
use Rattle.literature_grammar.specs.Numbers.{IsNumber, IsSeparator, AreNumbers}
use Rattle.literature_grammar.specs.Pages.{IsRange, IsBetween, ArePages}
use Rattle.literature_grammar.proofs.NumberRuns.{given, end-takes}
use Rattle.literature_grammar.proofs.NumbersAgain.{numbers-again}
use Rattle.literature_grammar.proofs.NumbersTakes.{numbers-take}

-- the numbers that parts are made of
record Made (cs : List ℕ) (ps : List Part) : Type 0 where
  pub numbers : Numbers
  pub are : AreNumbers cs numbers []
  pub made : pages_from None numbers ≡ Ok ps

-- what follows the last number of a page or range: the separator after it, further numbers, and the parts that they make
record Follows (a : List ℕ) (o : Option NumericDelimiter) (ns : Numbers) (ps : List Part) : Type 0 where
  pub are : (cs : List ℕ) (z : ℤ) → IsNumber cs z a → AreNumbers cs ((z, o) ∷ ns) []
  pub made : (first : Option ℤ) (z : ℤ) → pages_from first ((z, o) ∷ ns) ≡ Ok (page first z ∷ ps)

nothing_follows : Follows [] None [] []
nothing_follows = record { are = λ cs z number. (number, refl); made = λ first z. refl }

part_follows : (s : Part) (a b : List ℕ) (ps : List Part) → IsBetween a s b → (m : Made b ps) → (o : Option NumericDelimiter) × Follows a o m.numbers (s ∷ ps)
part_follows AmpersandPart a b ps separator m =
    let made = m.made in
    (Some Ampersand, record { are = λ cs z number. (a, b, number, separator, m.are); made = λ first z. rw made refl })
part_follows CommaPart a b ps separator m =
    let made = m.made in
    (Some Comma, record { are = λ cs z number. (a, b, number, separator, m.are); made = λ first z. rw made refl })
part_follows (SinglePage n) a b ps none m = absurd none
part_follows (Range k n) a b ps none m = absurd none

range-made : (p : Part) (cs a : List ℕ) (o : Option NumericDelimiter) (ns : Numbers) (ps : List Part) → IsRange cs p a → Follows a o ns ps → Made cs (p ∷ ps)
range-made AmpersandPart cs a o ns ps none f = absurd none
range-made CommaPart cs a o ns ps none f = absurd none
range-made (SinglePage n) cs a o ns ps (z, number, e) f =
    record { numbers = (z, o) ∷ ns; are = f.are cs z number; made = f.made None z ∙ ap (λ (m : Numeral). Ok (SinglePage m ∷ ps)) (sym e) }
range-made (Range m n) cs a o ns ps (b, c, (y, first, e), separator, (z, last, g)) f = record {
  numbers = (y, Some Hyphen) ∷ (z, o) ∷ ns;
  are = (b, c, first, separator, f.are c z last);
  made = f.made (Some y) z ∙ (ap (λ (k : Numeral). Ok (Range k (plain z) ∷ ps)) (sym e) ∙ ap (λ (k : Numeral). Ok (Range m k ∷ ps)) (sym g));
}

pages-made : (ps : List Part) (cs : List ℕ) → ArePages cs ps → Made cs ps
pages-made [] cs are = absurd are
pages-made (p ∷ []) cs are = range-made p cs [] None [] [] are nothing_follows
pages-made (p ∷ s ∷ ps) cs (a, b, range, separator, more) =
    let m = pages-made ps b more in
    let f = part_follows s a b ps separator m in
    range-made p cs a f.0 m.numbers (s ∷ ps) range f.1

pub pages-again : (cs : List ℕ) (ps : List Part) → ArePages cs ps → pages_of cs ≡ Ok ps
unfolding pages_of
pages-again cs ps are =
    let m = pages-made ps cs are in
    let numbers = numbers-again m.numbers cs [] m.are tt in
    let made = m.made in
    rw (numbers, made) refl

-- a first page with dashes after it, where one stands
abbrev Opens : Option ℤ → List ℕ → List ℕ → Type 0
Opens None cs rest = cs ≡ rest
Opens (Some y) cs rest = (a : List ℕ) × IsNumber cs y a × IsSeparator a Hyphen rest

range-takes : (first : Option ℤ) (z : ℤ) (cs a rest : List ℕ) → Opens first cs a → IsNumber a z rest → IsRange cs (page first z) rest
range-takes None z cs a rest e number = (z, subst (λ (x : List ℕ). IsNumber x z rest) (sym e) number, refl)
range-takes (Some y) z cs a rest (b, number, separator) last = (b, a, (y, number, refl), separator, (z, last, refl))

parts-take : (ns : Numbers) (first : Option ℤ) (cs a : List ℕ) (ps : List Part) → Opens first cs a → AreNumbers a ns [] → pages_from first ns ≡ Ok ps → ArePages cs ps
parts-take [] first cs a ps opens are e = absurd are
parts-take ((z, None) ∷ []) first cs a ps opens (number, none) e = given (ArePages cs) (page first z ∷ []) ps e (range-takes first z cs a [] opens number)
parts-take ((z, None) ∷ n ∷ ns) first cs a ps opens (number, none) e = absurd cc
parts-take ((z, Some Hyphen) ∷ ns) None cs a ps opens (b, c, number, separator, more) e =
    parts-take ns (Some z) cs c ps (b, subst (λ (x : List ℕ). IsNumber x z b) (sym opens) number, separator) more e
parts-take ((z, Some Hyphen) ∷ ns) (Some y) cs a ps opens are e = absurd cc
parts-take ((z, Some Comma) ∷ ns) first cs a ps opens (b, c, number, separator, more) e =
    let others = bind_ok (pages_from None ns) _ ps e in
    given (ArePages cs) (page first z ∷ CommaPart ∷ others.0) ps others.2 (b, c, range-takes first z cs a b opens number, separator, parts-take ns None c c others.0 refl more others.1)
parts-take ((z, Some Ampersand) ∷ ns) first cs a ps opens (b, c, number, separator, more) e =
    let others = bind_ok (pages_from None ns) _ ps e in
    given (ArePages cs) (page first z ∷ AmpersandPart ∷ others.0) ps others.2 (b, c, range-takes first z cs a b opens number, separator, parts-take ns None c c others.0 refl more others.1)

pub pages-take : (cs : List ℕ) (ps : List Part) → pages_of cs ≡ Ok ps → ArePages cs ps
unfolding pages_of
pages-take cs ps e =
    let numbers = bind_ok (numbers_at cs) _ ps e in
    let end = bind_ok (end_at numbers.0.1) _ ps numbers.2 in
    let are = subst (λ (x : List ℕ). AreNumbers cs numbers.0.0 x) (end-takes numbers.0.1 end.0 end.1) (numbers-take cs numbers.0 numbers.1) in
    parts-take numbers.0.0 None cs cs ps refl are end.2

-- no text is that of two lists of pages
pub unique : (cs : List ℕ) (ps qs : List Part) → ArePages cs ps → ArePages cs qs → ps ≡ qs
unique cs ps qs are other = ok_is {F = Unreadable} ps qs (sym (pages-again cs ps are) ∙ pages-again cs qs other)
