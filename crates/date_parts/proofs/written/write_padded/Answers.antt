use Rattle.std.proofs.Common.{rules, ◌≡◌, ℕ, ◌<◌, ◌^◌, false, true, sym, ap, ◌∙◌}
use Rattle.std.specs.Fmt.{decimal}
use Rattle.std.proofs.Output.{has_written_of_eq}
use Rattle.std.proofs.Padding.{styled_decimal_is, padded_integral_zeros}
use Rattle.date_parts.specs.Written.{padded}
use Rattle.date_parts.proofs.WrittenPadded.{text-padded}
use Rattle.date_parts.proofs.written.write_padded.Goals as goal

pub returns : goal.returns
returns g c = λ plain ok.
    let small : c.args.number < 2 ^ 64 = search rules in
    let plus : c.laid_out.result.plus ≡ false = search rules in
    let zeros : c.laid_out.result.zero ≡ true = search rules in
    let wide : c.laid_out.result.width ≡ c.args.width = search rules in
    has_written_of_eq _ _ _ _ _
    (styled_decimal_is c.laid_out.result c.args.number ∙ padded_integral_zeros c.laid_out.result (decimal c.args.number) plus zeros
    ∙ ap (λ (w : ℕ). padded w c.args.number) wide ∙ sym (text-padded c.args.width c.args.number small))
    (c.write.ensures.writes plain ok)
