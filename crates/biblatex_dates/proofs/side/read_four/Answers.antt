use Rattle.std.proofs.Common.{rules, ◌≡◌, ◌≤◌, ℕ, true, false, List, length, eqb, refl, sym, subst, ap, ◌∙◌, arith}
use Rattle.std.specs.Str.Parse.{digits_value}
use Rattle.laws.specs.Runs.{prefix_of}
use Rattle.laws.proofs.Results.{ok_is}
use Rattle.texts.specs.Character.{passes}
use Rattle.texts.specs.declared.character.Class.TheVariants.{Digit}
use Rattle.texts.specs.Views.{left}
use Rattle.texts.proofs.ReadingDigits.{run_bytes, digits_parsed}
use Rattle.texts.proofs.ReadingBounds.{run_below}
use Rattle.biblatex_dates.proofs.SideBounds.{is_four, is_other}
use Rattle.biblatex_dates.proofs.side.read_four.Goals as goal

pub returns-then-is_empty-clause-reads : goal.returns-then-is_empty-clause-reads
returns-then-is_empty-clause-reads c =
    let same = run_bytes c.run-digits.result.now (left c.args.reader.now) c.run-digits.utf8 c.run-digits.ensures.prefix in
    let none : eqb (length (prefix_of (passes Digit) (left c.args.reader.now))) 0 ≡ true = subst (λ (b : List ℕ). eqb (length b) 0 ≡ true) same (sym c.is_empty.ensures ∙ c.if-is_empty.true) in
    rw none refl

pub returns-then-digits-ne4-clause-reads : goal.returns-then-digits-ne4-clause-reads
returns-then-digits-ne4-clause-reads c =
    let same = run_bytes c.run-digits.result.now (left c.args.reader.now) c.run-digits.utf8 c.run-digits.ensures.prefix in
    let some : eqb (length (prefix_of (passes Digit) (left c.args.reader.now))) 0 ≡ false = subst (λ (b : List ℕ). eqb (length b) 0 ≡ false) same (sym c.is_empty.ensures ∙ c.if-is_empty.false) in
    let other : eqb (length (prefix_of (passes Digit) (left c.args.reader.now))) 4 ≡ false = subst (λ (b : List ℕ). eqb (length b) 4 ≡ false) same (is_other _ c.if-digits-ne4.true) in
    rw (some, other, c.run-digits.ensures.rest) refl

pub unwrap-requires : goal.unwrap-requires
unwrap-requires c =
    let p = digits_parsed c.run-digits.result.now (left c.args.reader.now) c.parse.result 4 4 c.run-digits.utf8 c.run-digits.ensures.prefix c.parse.ensures.value.0 (omega arith) (omega arith) (is_four _ c.if-digits-ne4.false) in
    search (rules, p)

pub returns-clause-reads : goal.returns-clause-reads
returns-clause-reads c =
    let same = run_bytes c.run-digits.result.now (left c.args.reader.now) c.run-digits.utf8 c.run-digits.ensures.prefix in
    let some : eqb (length (prefix_of (passes Digit) (left c.args.reader.now))) 0 ≡ false = subst (λ (b : List ℕ). eqb (length b) 0 ≡ false) same (sym c.is_empty.ensures ∙ c.if-is_empty.false) in
    let four : eqb (length (prefix_of (passes Digit) (left c.args.reader.now))) 4 ≡ true = subst (λ (b : List ℕ). eqb (length b) 4 ≡ true) same (let n = c.if-digits-ne4.false in rw n refl) in
    let p = digits_parsed c.run-digits.result.now (left c.args.reader.now) c.parse.result 4 4 c.run-digits.utf8 c.run-digits.ensures.prefix c.parse.ensures.value.0 (omega arith) (omega arith) (is_four _ c.if-digits-ne4.false) in
    let value : c.unwrap.result ≡ digits_value 10 (prefix_of (passes Digit) (left c.args.reader.now)) = sym (ok_is _ _ (sym p ∙ c.unwrap.ensures)) in
    rw (some, four, value, c.run-digits.ensures.rest) refl

pub returns-clause-few : goal.returns-clause-few
returns-clause-few c =
    let same = run_bytes c.run-digits.result.now (left c.args.reader.now) c.run-digits.utf8 c.run-digits.ensures.prefix in
    let four : length (prefix_of (passes Digit) (left c.args.reader.now)) ≤ 4 = omega (arith, ap length same, c.if-digits-ne4.false) in
    let p = digits_parsed c.run-digits.result.now (left c.args.reader.now) c.parse.result 4 4 c.run-digits.utf8 c.run-digits.ensures.prefix c.parse.ensures.value.0 (omega arith) (omega arith) (is_four _ c.if-digits-ne4.false) in
    let value : c.unwrap.result ≡ digits_value 10 (prefix_of (passes Digit) (left c.args.reader.now)) = sym (ok_is _ _ (sym p ∙ c.unwrap.ensures)) in
    omega (arith, value, run_below (left c.args.reader.now) 4 four)
