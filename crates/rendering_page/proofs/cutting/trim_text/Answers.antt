use Rattle.std.proofs.Common.{ap, ◌∙◌, reverse, ◌++◌}
use Rattle.rendering_tree.specs.Tokens.{without_letters}
use Rattle.rendering_page.specs.Cursors.{blanks, text_of}
use Rattle.rendering_page.specs.Views.{words_view, with_piece}
use Rattle.rendering_page.proofs.CursorsTrimming.{trimmed_piece}
use Rattle.rendering_page.proofs.cutting.trim_text.Goals as goal

pub returns-in-Text : goal.returns-in-Text
returns-in-Text c xs ts =
    ap (λ p. without_letters (blanks (reverse (text_of p) ++ xs)) (with_piece ts p)) c.in-Text.is
    ∙ trimmed_piece c.in-Text.formatting (words_view c.in-Text.words) (words_view c.trim_words.new.words) c.trim_words.result ts xs c.trim_words.ensures.text c.trim_words.ensures.empty
