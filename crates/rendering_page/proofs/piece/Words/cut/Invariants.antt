use Rattle.std.proofs.Common.{◌≡◌, ◌+◌, ℕ, List, ◌++◌, length}
use Rattle.rendering_page.specs.Views.{words_view}
use Rattle.rendering_page.proofs.piece.Words.cut.Given as goal

abbrev pub invariant-loop-missing : goal.invariant-loop-missing
invariant-loop-missing l = (back : List ℕ) × (words_view l.fn.self ≡ words_view l.self ++ back) × (length back + l.missing ≡ l.fn.count)

abbrev pub decreases-loop-missing : goal.decreases-loop-missing
decreases-loop-missing l = l.missing
