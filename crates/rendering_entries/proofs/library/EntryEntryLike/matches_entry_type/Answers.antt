use Rattle.std.proofs.Common.{◌≡◌, subst}
use Rattle.rendering_entries.specs.Answers.{Answers}
use Rattle.rendering_entries.proofs.LibraryAnswers.{answers_are}
use Rattle.rendering_entries.proofs.library.EntryEntryLike.matches_entry_type.Goals as goal

pub returns : goal.returns
returns c = subst (λ (a : Answers). c.kind_answer.result ≡ a.kind c.args.kind) (answers_are c.args.self.now) c.kind_answer.ensures
