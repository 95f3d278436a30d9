use Rattle.std.proofs.lemmas.Result.{IfOk-weaker}
use Rattle.literature_entries.specs.EntriesData.{entry_view}
use Rattle.cite_uses.specs.Alike.{asked_names, asked_selectors, works_view}
use Rattle.cite_uses.proofs.AlikePairs.{alike_both, alike_none}
use Rattle.cite_uses.proofs.alike.are_alike_at.Goals as goal

pub returns-in-Some : goal.returns-in-Some
returns-in-Some c =
    IfOk-weaker c.is_alike_at.result _ _
    (λ b e. alike_both (asked_names c.args.asked.now) (asked_selectors c.args.asked.now) (works_view c.args.first.now) (works_view c.args.second.now) c.args.pair (entry_view c.in-Some.work.now) b c.in-Some.ensures e)
    c.is_alike_at.ensures

pub returns-in-None : goal.returns-in-None
returns-in-None c = alike_none (asked_names c.args.asked.now) (asked_selectors c.args.asked.now) (works_view c.args.first.now) (works_view c.args.second.now) c.args.pair c.in-None.ensures
