use Rattle.std.proofs.Common.{ap, sym, not, ◌∙◌}
use Rattle.rendering_context.proofs.PagesFilled.{filled_signed, some_filled}
use Rattle.rendering_context.proofs.pages.has_value_text.Goals as goal

pub returns-in-Number : goal.returns-in-Number
returns-in-Number c = rw c.in-Number.is (sym (filled_signed c.in-Number.field-0))

pub returns-in-Set : goal.returns-in-Set
returns-in-Set c = rw c.in-Set.is (ap not c.is_empty.ensures ∙ some_filled c.in-Set.numbers.len c.in-Set.numbers.items c.in-Set.numbers.ok.0)
