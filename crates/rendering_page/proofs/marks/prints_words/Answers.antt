use Rattle.std.proofs.Common.{not, ap, ◌∙◌, rules, tests}
use Rattle.std.specs.Char.{is_whitespace}
use Rattle.std.specs.List.{list_any}
use Rattle.std.proofs.lemmas.Iterator.{YieldsList-from_chars}
use Rattle.std.proofs.lemmas.Iterator.Search.{any_from_yields_List}
use Rattle.rendering_page.proofs.marks.prints_words.Goals as goal

pub returns : goal.returns
returns c =
    any_from_yields_List (λ x. not (is_whitespace x)) _ _ _ c.any.ensures.ran (YieldsList-from_chars c.as_str.result.now c.as_str.utf8 c.chars.ensures.rest) (λ x b q k. search (rules, tests))
    ∙ ap (list_any (λ x. not (is_whitespace x))) c.as_str.ensures
