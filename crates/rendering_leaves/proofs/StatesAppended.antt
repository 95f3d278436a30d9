-- What a state is after pieces were appended to its page.
use Rattle.std.proofs.Common.{◌≡◌, List, ap, ◌∙◌}
use Rattle.rendering_context.specs.Contexts.{Context}
use Rattle.rendering_leaves.specs.NodeSettings.{State, append}
use Rattle.rendering_page.specs.Pages.{Page}
use Rattle.rendering_page.specs.Pieces.{Piece, append_pieces}

-- only its page is another
pub append-page : (c : Context) (ps : List Piece) (old now : State) (page : Page) → now ≡ old → page ≡ append_pieces c.quotes ps now.page → record now { page = page } ≡ append c ps old
append-page c ps old now page same e = (λ i. record now { page = e i }) ∙ ap (append c ps) same
