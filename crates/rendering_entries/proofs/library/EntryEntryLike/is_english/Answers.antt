use Rattle.std.proofs.Common.{◌≡◌, subst}
use Rattle.rendering_entries.specs.Answers.{Answers}
use Rattle.rendering_entries.proofs.LibraryAnswers.{answers_are}
use Rattle.rendering_entries.proofs.library.EntryEntryLike.is_english.Goals as goal

pub returns : goal.returns
returns c = subst (λ (a : Answers). c.english_answer.result ≡ a.english) (answers_are c.args.self.now) c.english_answer.ensures
