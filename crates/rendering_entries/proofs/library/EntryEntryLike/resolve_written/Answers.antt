use Rattle.std.proofs.Common.{◌≡◌, IfOk, subst}
use Rattle.std.specs.Option.{option_map}
use Rattle.laws.specs.Text.{characters}
use Rattle.rendering_entries.specs.Answers.{Answers}
use Rattle.rendering_entries.proofs.LibraryAnswers.{answers_are}
use Rattle.rendering_entries.proofs.library.EntryEntryLike.resolve_written.Goals as goal

pub returns : goal.returns
returns c = subst (λ (a : Answers). IfOk c.written_answer.result (λ t. option_map characters t ≡ a.written c.args.variable)) (answers_are c.args.self.now) c.written_answer.ensures
