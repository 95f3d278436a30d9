use Rattle.std.proofs.Common.{◌≡◌, sym, ◌∙◌}
use Rattle.std.specs.Cmp.{booleans_Decides}
use Rattle.literature_entries.specs.EntriesData.{entry_view}
use Rattle.literature.specs.Holding.{holds_at}
use Rattle.literature.specs.Views.{selector_view}
use Rattle.literature.proofs.HoldingWorks.{holds_is}
use Rattle.cite_uses.proofs.alike.chooses_alike.Goals as goal

pub returns : goal.returns
returns c =
    let s = selector_view c.args.section.now in
    let one : c.matches.result ≡ holds_at s (entry_view c.args.work.now) = c.matches.ensures ∙ holds_is s c.args.work.now in
    let other : c.matches-2.result ≡ holds_at s (entry_view c.args.other.now) = c.matches-2.ensures ∙ holds_is s c.args.other.now in
    let d = booleans_Decides c.matches.result c.matches-2.result in
    (λ yes. sym one ∙ d.0 yes ∙ other, λ same. d.1 (one ∙ same ∙ sym other))
