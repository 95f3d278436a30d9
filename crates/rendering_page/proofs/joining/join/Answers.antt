use Rattle.std.proofs.Common.{[], length, sym, ap, ◌∙◌}
use Rattle.std.specs.Prelude.{fold}
use Rattle.rendering_page.specs.Joints.{Joining, joining}
use Rattle.rendering_page.specs.Views.{with_piece}
use Rattle.rendering_page.specs.declared.piece.Piece.{Piece}
use Rattle.rendering_page.proofs.JoiningSteps.{joining_all}
use Rattle.rendering_page.proofs.joining.join.Goals as goal

pub loop-piece-init : goal.loop-piece-init
loop-piece-init c =
    let e = c.into_iter-piece-iterator.ensures.into_iter_gives in
    record {
      same = (λ k. fold (λ (j : Joining) (p : Piece). joining c.args.inside (with_piece [] p) j) (c.new-joining.ensures k) (e.0 k)) ∙ joining_all c.args.inside c.args.pieces.items;
      long = e.1 ∙ (c.args.pieces.ok.0 ∙ sym (ap length e.0));
    }
