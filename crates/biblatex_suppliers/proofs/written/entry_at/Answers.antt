use Rattle.std.proofs.Common.{List, slice_get, ap, ◌∙◌}
use Rattle.biblatex_entries.specs.declared.entry.Entry.{Entry}
use Rattle.biblatex_suppliers.proofs.written.entry_at.Goals as goal

pub returns : goal.returns
returns c = c.member_at.ensures ∙ ap (λ (es : List Entry). slice_get es c.args.number) c.as_slice.ensures.value
