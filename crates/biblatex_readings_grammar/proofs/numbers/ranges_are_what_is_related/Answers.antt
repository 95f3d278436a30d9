use Rattle.std.proofs.Common.{ap}
use Rattle.biblatex_values.specs.Pages.{ranges_at, whole, ranges_of}
use Rattle.biblatex_readings_grammar.specs.Pages.{AreRanges}
use Rattle.biblatex_readings_grammar.proofs.Pages.{ranges-again, ranges-take}
use Rattle.biblatex_readings_grammar.proofs.Answers.{answers, whole-takes, whole-refuses}
use Rattle.biblatex_readings_grammar.proofs.numbers.ranges_are_what_is_related.Goals as goal

pub returns : goal.returns
returns c cs =
    answers (AreRanges cs) (ranges_of cs) (λ rs are. ap whole (ranges-again cs rs are)) (λ rs e. ranges-take cs rs (whole-takes (ranges_at cs) rs e)) (λ f e. whole-refuses (ranges_at cs) f e)
