use Rattle.std.proofs.Common.{◌++◌, sym, ◌∙◌}
use Rattle.std.specs.Prelude.{string_bytes}
use Rattle.std.proofs.lemmas.Result.{on_ok_weaker}
use Rattle.std.proofs.lemmas.Str.{IsUtf8-string_bytes}
use Rattle.laws.specs.Text.{characters}
use Rattle.literature_numbers.specs.NumericText.{separator_text}
use Rattle.rendering_numbers.proofs.NumbersSeparators.{chars-delimiter_after}
use Rattle.rendering_numbers.proofs.numbers.push_separator.Goals as goal

pub returns-in-Some : goal.returns-in-Some
returns-in-Some c =
    on_ok_weaker c.write.result
    (λ e. chars-delimiter_after (string_bytes c.args.out.now) _ c.in-Some.delimiter (IsUtf8-string_bytes c.args.out.now) e
    ∙ (λ i. characters c.args.out.now ++ separator_text (sym c.in-Some.is i)))
    c.write.ensures.bytes
