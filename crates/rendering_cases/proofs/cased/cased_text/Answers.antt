use Rattle.std.proofs.Common.{Some}
use Rattle.std.specs.Str.{chars}
use Rattle.rendering_cases.proofs.Letters.{letters_said, unlettered_said}
use Rattle.rendering_cases.proofs.cased.cased_text.Goals as goal

pub returns-in-Some-clause-by_letters : goal.returns-in-Some-clause-by_letters
returns-in-Some-clause-by_letters c = rw c.in-Some.is (letters_said c.text_in_case.result (Some c.in-Some.wanted) c.args.is_english (chars c.args.text.now) c.text_in_case.ensures)

pub returns-in-Some-clause-unlettered : goal.returns-in-Some-clause-unlettered
returns-in-Some-clause-unlettered c = rw c.in-Some.is (unlettered_said c.text_in_case.result (Some c.in-Some.wanted) c.args.is_english (chars c.args.text.now) c.text_in_case.ensures)
