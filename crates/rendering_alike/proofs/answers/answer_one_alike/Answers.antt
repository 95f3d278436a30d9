use Rattle.std.proofs.Common.{◌↔◌, IsTrue, sym, subst}
use Rattle.std.proofs.lemmas.Result.{IfOk-weaker}
use Rattle.rendering_nodes.specs.Named.{AnswerAlike}
use Rattle.rendering_taxonomy.specs.declared.variable.Variable.{Variable}
use Rattle.rendering_alike.proofs.answers.answer_one_alike.Goals as goal

pub returns-in-Standard : goal.returns-in-Standard
returns-in-Standard g c =
    IfOk-weaker c.have_one_text.result _ _
    (λ b e. subst (λ (v : Variable). IsTrue b ↔ AnswerAlike (g.E.EntryLike.answers c.args.one.now) (g.E.EntryLike.answers c.args.other.now) v) (sym c.in-Standard.is) e)
    c.have_one_text.ensures
