use Rattle.std.proofs.Common.{◌≡◌, IfOk, subst}
use Rattle.std.specs.Option.{option_map}
use Rattle.literature_numbers.specs.PageViews.{pages_view}
use Rattle.literature_values.specs.TypedViews.{typed_view}
use Rattle.rendering_entries.specs.Answers.{Answers}
use Rattle.rendering_entries.proofs.LibraryAnswers.{answers_are}
use Rattle.rendering_entries.proofs.library.EntryEntryLike.resolve_page_variable.Goals as goal

pub returns : goal.returns
returns c = subst (λ (a : Answers). IfOk c.page_answer.result (λ p. option_map (typed_view pages_view) p ≡ a.pages)) (answers_are c.args.self.now) c.page_answer.ensures
