use Rattle.std.proofs.Common.{rules, ◌≡◌, ◌++◌, ℕ, ◌+◌, ◌<◌, ◌^◌, List, pos, ◌<ℤ◌, subst, sym, ap, ◌∙◌, w32}
use Rattle.std.specs.Prelude.{unsigned_abs}
use Rattle.std.specs.Fmt.{WritesInCalls, decimal}
use Rattle.std.specs.Str.{chars}
use Rattle.std.proofs.lemmas.Int.{to_z-of_z}
use Rattle.std.proofs.lemmas.Result.{on_ok_weaker}
use Rattle.laws.specs.Text.{text}
use Rattle.rendering_numbers.proofs.YearsWritten.{before_one, text-in_era}
use Rattle.rendering_numbers.proofs.years.write_year.Goals as goal

pub returns-then-year-lt1 : goal.returns-then-year-lt1
returns-then-year-lt1 g c =
    let n = c.unsigned_abs.result in
    let small : n + 1 < 2 ^ 64 = search rules in
    let same : n ≡ unsigned_abs c.args.year = c.unsigned_abs.ensures.value ∙ ap unsigned_abs (to_z-of_z w32 c.args.year c.ranges.year) in
    let less : c.args.year <ℤ pos 1 = search rules in
    on_ok_weaker c.write.result
    (subst (λ (bs : List ℕ). WritesInCalls g.W.Write.write_str_gives c.args.w.now bs c.write.new.self)
    (sym (ap text (before_one c.args.year c.args.short (chars c.args.ad.now) (chars c.args.bc.now) less)
    ∙ ap (λ (k : ℕ). text (decimal (k + 1) ++ chars c.args.bc.now)) (sym same)
    ∙ text-in_era (n + 1) c.args.bc.now small c.utf8.bc)))
    c.write.ensures.writes
