use Rattle.std.proofs.Common.{length, sym, ap, ◌∙◌}
use Rattle.std.specs.Str.{chars}
use Rattle.std.proofs.lemmas.Str.{chars-nil}
use Rattle.std.proofs.lemmas.List.{nil_from_length}
use Rattle.biblatex_lists.proofs.PartsTested.{zero_length}
use Rattle.biblatex_lists.proofs.writing.is_empty.Goals as goal

pub returns : goal.returns
returns c = λ e. ap chars (nil_from_length c.args.text.now (zero_length (length c.args.text.now) (sym c.is_empty.ensures ∙ e))) ∙ chars-nil
