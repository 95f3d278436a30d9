use Rattle.std.proofs.Common.{[], codes}
use Rattle.std.specs.Str.{chars}
use Rattle.std.proofs.lemmas.Str.{chars-nil}
use Rattle.rendering_context.specs.Views.{context_view, answer_if}
use Rattle.rendering_context.proofs.AnswersTexts.{doi_characters}
use Rattle.rendering_context.proofs.ContextCases.{doi_answer, if_same, url_answer}
use Rattle.rendering_context.proofs.context.Context.standard.Goals as goal

pub returns-in-Doi : goal.returns-in-Doi
returns-in-Doi g c =
    if_same c.address_of.result answer_if _ _
    (doi_answer (context_view (g.E.EntryLike.answers c.args.entry.now) c.args.self.now) c.args.form c.args.variable (chars (codes "https://doi.org/")) c.in-Doi.is doi_characters)
    c.address_of.ensures

pub returns-in-Url : goal.returns-in-Url
returns-in-Url g c =
    if_same c.address_of-in-Url.result answer_if _ _
    (url_answer (context_view (g.E.EntryLike.answers c.args.entry.now) c.args.self.now) c.args.form c.args.variable (chars []) c.in-Url.is chars-nil)
    c.address_of-in-Url.ensures
