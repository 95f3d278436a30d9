use Rattle.std.proofs.Common.{◌≡◌, IfOk, sym, subst}
use Rattle.laws.specs.Text.{characters}
use Rattle.rendering_entries.specs.Library.{label_of}
use Rattle.rendering_entries.specs.Works.{Ancestry}
use Rattle.rendering_entries.proofs.WorksLevels.{ancestry_is}
use Rattle.rendering_entries.proofs.labels.Alphanumerical.citation.Goals as goal

pub returns : goal.returns
returns c = subst (λ (s : Ancestry). IfOk c.label.result (λ t. characters t ≡ label_of c.args.self.letters s)) (sym (ancestry_is c.args.entry.now)) c.label.ensures
