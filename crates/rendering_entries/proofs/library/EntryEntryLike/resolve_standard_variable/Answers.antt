use Rattle.std.proofs.Common.{◌≡◌, IfOk, subst}
use Rattle.std.specs.Option.{option_map}
use Rattle.rendering_entries.specs.Answers.{Answers}
use Rattle.rendering_entries.specs.Views.{lent_text_view}
use Rattle.rendering_entries.proofs.LibraryAnswers.{answers_are}
use Rattle.rendering_entries.proofs.library.EntryEntryLike.resolve_standard_variable.Goals as goal

pub returns : goal.returns
returns c = subst (λ (a : Answers). IfOk c.standard_answer.result (λ t. option_map lent_text_view t ≡ a.standard c.args.form c.args.variable)) (answers_are c.args.self.now) c.standard_answer.ensures
