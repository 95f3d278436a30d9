use Rattle.std.proofs.Common.{◌≡◌, IfOk, subst}
use Rattle.std.specs.Option.{option_map}
use Rattle.rendering_entries.specs.Answers.{Answers}
use Rattle.rendering_entries.specs.Views.{lent_number_view}
use Rattle.rendering_entries.proofs.LibraryAnswers.{answers_are}
use Rattle.rendering_entries.proofs.library.EntryEntryLike.resolve_number_variable.Goals as goal

pub returns : goal.returns
returns c = subst (λ (a : Answers). IfOk c.number_answer.result (λ n. option_map lent_number_view n ≡ a.number c.args.variable)) (answers_are c.args.self.now) c.number_answer.ensures
