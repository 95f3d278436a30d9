use Rattle.std.proofs.Common.{true≢false, sym}
use Rattle.std.proofs.lemmas.Bool.{iff_false}
use Rattle.std.proofs.lemmas.Result.{IfOk-weaker}
use Rattle.rendering_taxonomy.specs.declared.date.LongShortForm.TheVariants as forms
use Rattle.rendering_alike.proofs.AnswersAll.{both_forms}
use Rattle.rendering_alike.proofs.answers.have_one_text.Goals as goal

pub returns-then-not-branch : goal.returns-then-not-branch
returns-then-not-branch g c = (λ no. absurd (true≢false (sym no)), λ alike. absurd (iff_false c.in_ok-have_one_text_in.ensures c.if-not-branch.true (alike forms.Long)))

pub returns : goal.returns
returns g c =
    IfOk-weaker c.have_one_text_in-2.result _ _
    (λ yes e. both_forms (g.E.EntryLike.answers c.args.one.now) (g.E.EntryLike.answers c.args.other.now) c.args.variable yes (c.in_ok-have_one_text_in.ensures.0 c.if-not-branch.false) e)
    c.have_one_text_in-2.ensures
