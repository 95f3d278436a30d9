use Rattle.std.proofs.Common.{rules, sym, ◌∙◌, Ok}
use Rattle.laws.proofs.Results.{ok_is}
use Rattle.texts.specs.Views.{left}
use Rattle.texts.proofs.ReadingDigits.{run_bytes, digits_parsed, digits_at-ok, digits_at-err}
use Rattle.texts.proofs.ReadingBounds.{digits_below}
use Rattle.texts.proofs.reader.Reader.digits.Goals as goal

pub returns-then-not-is_within-clause-reads : goal.returns-then-not-is_within-clause-reads
returns-then-not-is_within-clause-reads c =
    let digits = c.run-digits.result.now in
    let text = left c.args.self.now in
    digits_at-err digits text c.args.least c.args.most (run_bytes digits text c.run-digits.utf8 c.run-digits.ensures.prefix) (sym c.is_within.ensures ∙ c.if-not-is_within.true)

pub unwrap-requires : goal.unwrap-requires
unwrap-requires c =
    let digits = c.run-digits.result.now in
    let text = left c.args.self.now in
    let p = digits_parsed digits text c.parse.result c.args.least c.args.most c.run-digits.utf8 c.run-digits.ensures.prefix c.parse.ensures.value.0 c.requires.some c.requires.few
    (sym c.is_within.ensures ∙ c.if-not-is_within.false) in
    search (rules, p)

pub returns-clause-reads : goal.returns-clause-reads
returns-clause-reads c =
    let digits = c.run-digits.result.now in
    let text = left c.args.self.now in
    let test = sym c.is_within.ensures ∙ c.if-not-is_within.false in
    let p = digits_parsed digits text c.parse.result c.args.least c.args.most c.run-digits.utf8 c.run-digits.ensures.prefix c.parse.ensures.value.0 c.requires.some c.requires.few test in
    let same = ok_is _ _ (sym p ∙ c.unwrap.ensures) in
    digits_at-ok digits text c.args.least c.args.most (run_bytes digits text c.run-digits.utf8 c.run-digits.ensures.prefix) test
    ∙ (λ i. Ok (same i, sym c.run-digits.ensures.rest i))

pub returns-clause-below : goal.returns-clause-below
returns-clause-below c = digits_below c.args.least c.args.most c.unwrap.result (left c.args.self.now) (left c.run-digits.new.self) (returns-clause-reads c)
