use Rattle.std.proofs.lemmas.Result.{IfOk-weaker}
use Rattle.literature_entries.specs.EntriesData.{entry_view}
use Rattle.cite_uses.specs.Alike.{asked_names}
use Rattle.cite_uses.proofs.AlikeNames.{by_answers, other_key, otherwise_chosen}
use Rattle.cite_uses.proofs.alike.are_alike_works.Goals as goal

pub returns-then-not-have_one_key : goal.returns-then-not-have_one_key
returns-then-not-have_one_key c =
    other_key (asked_names c.args.asked.now) c.args.asked.now.sections.now (entry_view c.args.work.now) (entry_view c.args.other.now) c.have_one_key.result c.have_one_key.ensures c.if-not-have_one_key.true

pub returns-then-not-are_chosen_alike : goal.returns-then-not-are_chosen_alike
returns-then-not-are_chosen_alike c =
    otherwise_chosen (asked_names c.args.asked.now) c.args.asked.now.sections.now (entry_view c.args.work.now) (entry_view c.args.other.now) c.are_chosen_alike.result c.are_chosen_alike.ensures c.if-not-are_chosen_alike.true

pub returns : goal.returns
returns c =
    IfOk-weaker c.answer_alike.result _ _
    (λ b e. by_answers (asked_names c.args.asked.now) c.args.asked.now.sections.now (entry_view c.args.work.now) (entry_view c.args.other.now) b (c.have_one_key.ensures.0 c.if-not-have_one_key.false) (c.are_chosen_alike.ensures.0 c.if-not-are_chosen_alike.false) e)
    c.answer_alike.ensures
