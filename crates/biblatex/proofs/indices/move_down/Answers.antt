use Rattle.std.proofs.Common.{ℕ, set, ap, ◌∙◌, arith}
use Rattle.std.proofs.lemmas.List.Edits.{map_over_more}
use Rattle.biblatex.specs.Indices.{named_down}
use Rattle.biblatex.proofs.indices.move_down.Goals as goal

pub loop-place-preserved : goal.loop-place-preserved
loop-place-preserved c =
    let x = c.index_mut-named.result.now in
    let moved = λ (index : ℕ). set c.loop-place.names.items c.loop-place.place (record { name = x.name; index = index }) in (
      ap moved c.index_down-named.ensures ∙ map_over_more (named_down c.args.out) c.args.names.now.items c.loop-place.names.items c.loop-place.place x (omega (arith, c.loop-place-test.true, c.len-place-end.ensures, c.args.names.now.ok.0)) c.loop-place.invariant.0 c.index_mut-named.ensures.value,
      c.loop-place.invariant.1,
    )
