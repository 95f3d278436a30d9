use Rattle.std.proofs.Common.{refl, sym, ◌++◌}
use Rattle.literature_numbers.specs.NumericText.{delimiter_text, numeral_text}
use Rattle.literature_numbers.specs.Views.{numeral_view}
use Rattle.literature_numbers.specs.declared.separator.NumericDelimiter.TheVariants.{Hyphen}
use Rattle.rendering_context.proofs.PagesFilled.{filled_after}
use Rattle.rendering_context.proofs.pages.has_part_text.Goals as goal

pub returns-in-Range : goal.returns-in-Range
returns-in-Range c = rw c.in-Range.is (sym (filled_after (numeral_text (numeral_view c.in-Range.field-0)) (delimiter_text Hyphen ++ numeral_text (numeral_view c.in-Range.field-1)) refl))
