use Rattle.std.proofs.lemmas.Result.{IfOk-weaker}
use Rattle.literature_entries.specs.EntriesData.{entry_view}
use Rattle.cite_uses.specs.Alike.{asked_names, asked_selectors, works_view}
use Rattle.cite_uses.proofs.AlikePairs.{alike_no_other, alike_other}
use Rattle.cite_uses.proofs.alike.is_alike_at.Goals as goal

pub returns-in-Some : goal.returns-in-Some
returns-in-Some c =
    IfOk-weaker c.are_alike_works.result _ _
    (λ b e. alike_other (asked_names c.args.asked.now) (asked_selectors c.args.asked.now) (works_view c.args.works.now) c.args.index (entry_view c.args.work.now) (entry_view c.in-Some.other.now) b c.in-Some.ensures e)
    c.are_alike_works.ensures

pub returns-in-None : goal.returns-in-None
returns-in-None c = alike_no_other (asked_names c.args.asked.now) (asked_selectors c.args.asked.now) (works_view c.args.works.now) c.args.index (entry_view c.args.work.now) c.in-None.ensures
