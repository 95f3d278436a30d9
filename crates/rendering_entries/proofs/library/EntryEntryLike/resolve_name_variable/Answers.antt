use Rattle.std.proofs.Common.{◌≡◌, IfOk, map, subst}
use Rattle.literature_values.specs.PersonViews.{lent_person_view}
use Rattle.rendering_entries.specs.Answers.{Answers}
use Rattle.rendering_entries.proofs.LibraryAnswers.{answers_are}
use Rattle.rendering_entries.proofs.library.EntryEntryLike.resolve_name_variable.Goals as goal

pub returns : goal.returns
returns c = subst (λ (a : Answers). IfOk c.people_answer.result (λ ps. map lent_person_view ps.items ≡ a.people c.args.variable)) (answers_are c.args.self.now) c.people_answer.ensures
