use Rattle.std.proofs.Common.{◌∙◌, rules, tests}
use Rattle.std.proofs.lemmas.Iterator.{YieldsList-from_slice}
use Rattle.std.proofs.lemmas.Iterator.Search.{any_from_yields_List}
use Rattle.rendering_page.specs.Marks.{is_something}
use Rattle.rendering_page.proofs.PagesMarks.{begun_any}
use Rattle.rendering_page.proofs.marks.is_begun.Goals as goal

pub returns : goal.returns
returns c =
    any_from_yields_List is_something _ _ _ c.any.ensures.ran (YieldsList-from_slice c.args.pieces.now cc) (λ x b q k. search (rules, tests))
    ∙ begun_any c.args.pieces.now
