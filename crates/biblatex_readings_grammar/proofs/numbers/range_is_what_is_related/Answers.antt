use Rattle.std.proofs.Common.{[], ap}
use Rattle.biblatex_values.specs.Pages.{range_at, whole, range_of}
use Rattle.biblatex_readings_grammar.specs.Pages.{IsOneRange}
use Rattle.biblatex_readings_grammar.proofs.Pages.{nothing-ends, range-again, range-takes}
use Rattle.biblatex_readings_grammar.proofs.Answers.{answers, whole-takes, whole-refuses}
use Rattle.biblatex_readings_grammar.proofs.numbers.range_is_what_is_related.Goals as goal

pub returns : goal.returns
returns c cs =
    answers (IsOneRange cs) (range_of cs) (λ r is. ap whole (range-again cs [] r is nothing-ends)) (λ r e. range-takes cs (r, []) (whole-takes (range_at cs) r e)) (λ f e. whole-refuses (range_at cs) f e)
