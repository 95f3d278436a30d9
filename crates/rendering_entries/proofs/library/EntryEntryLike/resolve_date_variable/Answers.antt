use Rattle.std.proofs.Common.{◌≡◌, subst}
use Rattle.std.specs.Cow.{cow_value}
use Rattle.std.specs.Option.{option_map}
use Rattle.rendering_entries.specs.Answers.{Answers}
use Rattle.rendering_entries.proofs.LibraryAnswers.{answers_are}
use Rattle.rendering_entries.proofs.library.EntryEntryLike.resolve_date_variable.Goals as goal

pub returns : goal.returns
returns c = subst (λ (a : Answers). option_map cow_value c.date_answer.result ≡ a.date c.args.variable) (answers_are c.args.self.now) c.date_answer.ensures
