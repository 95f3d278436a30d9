-- How great a number of a few digits may be.
use Rattle.std.proofs.Common.{◌≡◌, ℕ, ◌<◌, ◌≤◌, ◌^◌, ◌&&◌, List, length, Result, Ok, Err, leb, ap}
use Rattle.std.specs.Prelude.{IfOk}
use Rattle.std.specs.Str.Parse.{digits_value}
use Rattle.std.proofs.lemmas.Bool.{leb-true, and_parts}
use Rattle.std.proofs.lemmas.Str.Parse.{digits_value_short}
use Rattle.laws.specs.Results.{Reads}
use Rattle.laws.specs.Runs.{prefix_of, after}
use Rattle.laws.proofs.Results.{test_ok, ok_is}
use Rattle.laws.proofs.Runs.{all-prefix}
use Rattle.texts.specs.Character.{passes}
use Rattle.texts.specs.Reading.{digits_at}
use Rattle.texts.specs.declared.character.Class.TheVariants.{Digit}
use Rattle.texts.specs.declared.reader.Unreadable.{Unreadable}
use Rattle.texts.specs.declared.reader.Unreadable.TheVariants.{NotThere}
use Rattle.texts.proofs.ReadingDigits.{own, digits_all}

-- digits of a run are below the power of ten that is their number
pub run_below : (cs : List ℕ) (most : ℕ) → length (prefix_of (passes Digit) cs) ≤ most → digits_value 10 (prefix_of (passes Digit) cs) < 10 ^ most
run_below cs most few = digits_value_short own (prefix_of (passes Digit) cs) most (digits_all (prefix_of (passes Digit) cs) (all-prefix (passes Digit) cs)) few

-- so is the number that they give
pub digits_below : (least most n : ℕ) (cs rest : List ℕ) → digits_at least most cs ≡ Ok (n, rest) → n < 10 ^ most
digits_below least most n cs rest read =
    let ds : List ℕ = prefix_of (passes Digit) cs in
    let t = test_ok (leb least (length ds) && leb (length ds) most) (Ok (digits_value 10 ds, after (passes Digit) cs)) NotThere (n, rest) read in
    let few : length ds ≤ most = leb-true _ _ (and_parts (leb least (length ds)) (leb (length ds) most) t.0).1 in
    let same = ap (λ (p : ℕ × List ℕ). p.0) (ok_is _ _ t.1) in
    let below = run_below cs most few in
    rw same at below

-- what a call that reads digits answers is below it too
pub answer_below : (least most : ℕ) (cs rest : List ℕ) (r : Result ℕ Unreadable) → Reads (λ n. n) r rest (digits_at least most cs) → IfOk r (λ n. n < 10 ^ most)
answer_below least most cs rest (Ok n) read = digits_below least most n cs rest read
answer_below least most cs rest (Err e) read = tt
