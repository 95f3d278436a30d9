use Rattle.rendering_page.proofs.PageCharactersPages.{shows_nothing}
use Rattle.rendering_page.proofs.page_characters.shown_of.Goals as goal

pub returns-in_default : goal.returns-in_default
returns-in_default c = shows_nothing c.args.piece.now c.in_default.not-Text c.in_default.not-Markup c.in_default.not-Link
