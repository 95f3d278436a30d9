-- The style of titles is not refused.
use Rattle.std.proofs.Common.{ℕ, zero, suc, ◌<◌, [], ◌∷◌, refl, None, arith}
use Rattle.reference_graph.specs.References.{IsCircular}
use Rattle.rendering_style.specs.Opening.{IsAnswer}
use Rattle.cite_uses.specs.Titles.{title_layout, title_macro, titles}

-- a macro that calls none does not reach itself
no_ring : (i : ℕ) → IsCircular ([] ∷ []) i → ⊥
no_ring zero circular = let below : circular.1.1.0 < 0 = circular.1.1.1 in omega (arith, below)
no_ring (suc i) circular = let below : circular.1.1.0 < 0 = circular.1.1.1 in omega (arith, below)

pub titles_accepted : IsAnswer titles None
unfolding title_macro title_layout titles
titles_accepted = (no_ring, refl)
