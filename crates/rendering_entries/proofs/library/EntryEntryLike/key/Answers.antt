use Rattle.std.proofs.Common.{◌≡◌, subst}
use Rattle.rendering_entries.specs.Answers.{Answers}
use Rattle.rendering_entries.proofs.LibraryAnswers.{answers_are}
use Rattle.rendering_entries.proofs.library.EntryEntryLike.key.Goals as goal

pub returns : goal.returns
returns c = subst (λ (a : Answers). c.key.result.now ≡ a.key) (answers_are c.args.self.now) c.key.ensures
