use Rattle.std.proofs.Common.{sym, ◌∙◌}
use Rattle.rendering_page.specs.Pages.{before_prefix}
use Rattle.rendering_page.specs.Views.{pieces_view}
use Rattle.rendering_page.proofs.PagesMarks.{cut_more}
use Rattle.rendering_page.proofs.marks.cut_prefix.Goals as goal

pub loop-piece-preserved-else-is_first : goal.loop-piece-preserved-else-is_first
loop-piece-preserved-else-is_first c =
    cut_more c.pop.new.self.items c.loop-piece.pieces.items c.in-Some.piece (before_prefix (pieces_view c.args.pieces.now.items)) c.in-Some.ensures.items (sym c.is_first.ensures ∙ c.if-is_first.false)
    c.loop-piece.invariant

pub loop-piece-preserved-else-is_first-2 : goal.loop-piece-preserved-else-is_first-2
loop-piece-preserved-else-is_first-2 c =
    cut_more c.pop.new.self.items c.loop-piece.pieces.items c.in-Some.piece (before_prefix (pieces_view c.args.pieces.now.items)) c.in-Some.ensures.items (sym c.is_first.ensures ∙ c.if-is_first.false)
    c.loop-piece.invariant
