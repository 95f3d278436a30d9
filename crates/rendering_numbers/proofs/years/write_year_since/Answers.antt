use Rattle.std.proofs.Common.{rules, ◌≡◌, ℕ, ◌<◌, ◌^◌, ◌%◌, Bool, true, false, List, subst, sym, ap, ◌∙◌}
use Rattle.std.specs.Prelude.{nat_le, if◌then◌else◌}
use Rattle.std.specs.Fmt.{WritesInCalls, decimal}
use Rattle.std.specs.Str.{chars}
use Rattle.std.proofs.Padding.{styled_decimal_is, padded_integral_zeros}
use Rattle.std.proofs.lemmas.Fmt.{IsAscii-decimal}
use Rattle.std.proofs.lemmas.Result.{on_ok_weaker}
use Rattle.laws.specs.Text.{text}
use Rattle.texts.proofs.GrowingWritten.{text-ascii}
use Rattle.date_parts.specs.Written.{padded}
use Rattle.date_parts.proofs.WrittenPadded.{text-padded}
use Rattle.rendering_numbers.proofs.YearsWritten.{early, late, text-in_era}
use Rattle.rendering_numbers.proofs.years.write_year_since.Goals as goal

pub returns-then-year-lt1000 : goal.returns-then-year-lt1000
returns-then-year-lt1000 g c =
    let n = c.args.year in
    let small : n < 2 ^ 64 = search rules in
    let is_early : nat_le 1000 n ≡ false = search rules in
    on_ok_weaker c.write.result
    (subst (λ (bs : List ℕ). WritesInCalls g.W.Write.write_str_gives c.args.w.now bs c.write.new.self)
    (sym (ap text (early n c.args.short (chars c.args.ad.now) is_early) ∙ text-in_era n c.args.ad.now small c.utf8.ad)))
    c.write.ensures.writes

pub returns-then-short : goal.returns-then-short
returns-then-short g c =
    let n : ℕ = c.args.year % 100 in
    let small : n < 2 ^ 64 = search rules in
    let is_late : nat_le 1000 c.args.year ≡ true = search rules in
    let plus : c.laid_out.result.plus ≡ false = search rules in
    let zeros : c.laid_out.result.zero ≡ true = search rules in
    let wide : c.laid_out.result.width ≡ 2 = search rules in
    on_ok_weaker c.write-then-short.result
    (subst (λ (bs : List ℕ). WritesInCalls g.W.Write.write_str_gives c.args.w.now bs c.write-then-short.new.self)
    (styled_decimal_is c.laid_out.result n ∙ padded_integral_zeros c.laid_out.result (decimal n) plus zeros
    ∙ ap (λ (w : ℕ). padded w n) wide ∙ sym (text-padded 2 n small)
    ∙ ap (λ (b : Bool). text (if b then padded 2 n else decimal c.args.year)) (sym c.if-short.true)
    ∙ ap text (sym (late c.args.year c.args.short (chars c.args.ad.now) is_late))))
    c.write-then-short.ensures.writes

pub returns : goal.returns
returns g c =
    let n = c.args.year in
    let small : n < 2 ^ 64 = search rules in
    let is_late : nat_le 1000 n ≡ true = search rules in
    on_ok_weaker c.write-2.result
    (subst (λ (bs : List ℕ). WritesInCalls g.W.Write.write_str_gives c.args.w.now bs c.write-2.new.self)
    (sym (text-ascii (decimal n) (IsAscii-decimal n small))
    ∙ ap (λ (b : Bool). text (if b then padded 2 (n % 100) else decimal n)) (sym c.if-short.false)
    ∙ ap text (sym (late n c.args.short (chars c.args.ad.now) is_late))))
    c.write-2.ensures.writes
