use Rattle.std.proofs.lemmas.Result.{IfOk-weaker}
use Rattle.biblatex_entries.proofs.EntriesPlain.{text_of_chunks}
use Rattle.biblatex_entries.proofs.entry.value_text.Goals as goal

pub returns : goal.returns
returns c = IfOk-weaker c.format_verbatim.result _ _ (λ s e. text_of_chunks s c.args.value.now e) c.format_verbatim.ensures
