use Rattle.std.proofs.Common.{refl, true, List, ℕ, ◌++◌, sym, ap, ◌∙◌}
use Rattle.std.proofs.Output.{has_written_of_eq, has_written_append}
use Rattle.laws.specs.Text.{text}
use Rattle.laws.proofs.Text.{text-append}
use Rattle.literature_numbers.specs.NumericText.{delimiter_text, numeral_text}
use Rattle.literature_numbers.specs.Views.{numeral_view}
use Rattle.literature_numbers.specs.declared.separator.NumericDelimiter.TheVariants.{Hyphen}
use Rattle.literature_numbers.proofs.page_ranges.write_range.Goals as goal

pub returns : goal.returns
returns g c = λ plain ok.
    let m : List ℕ = numeral_text (numeral_view c.args.first.now) in
    let n : List ℕ = numeral_text (numeral_view c.args.last.now) in
    let a = c.in_ok-fmt.ensures.writes plain (refl {a = true}) in
    let b = c.in_ok-fmt-2.ensures.writes a.plain (refl {a = true}) in
    has_written_of_eq _ _ _ _ _
    (sym (text-append m (delimiter_text Hyphen ++ n) ∙ ap (λ (t : List ℕ). text m ++ t) (text-append (delimiter_text Hyphen) n)))
    (has_written_append _ _ _ _ _ _ a (has_written_append _ _ _ _ _ _ b (c.fmt-3.ensures.writes b.plain ok)))
