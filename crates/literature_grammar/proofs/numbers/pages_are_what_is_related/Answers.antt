use Rattle.literature_numbers.specs.Pages.{pages_of}
use Rattle.literature_grammar.specs.Pages.{ArePages}
use Rattle.literature_grammar.proofs.Pages.{pages-again, pages-take}
use Rattle.literature_grammar.proofs.Answers.{answers}
use Rattle.literature_grammar.proofs.numbers.pages_are_what_is_related.Goals as goal

pub returns : goal.returns
returns c cs = answers (ArePages cs) (pages_of cs) (pages-again cs) (pages-take cs)
