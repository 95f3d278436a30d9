use Rattle.std.proofs.Common.{string_bytes, sym, ap, ◌∙◌}
use Rattle.std.specs.BTreeMap.{get_by_text}
use Rattle.rendering_style.specs.declared.parts.Macro.{Macro}
use Rattle.rendering_style.proofs.OpeningIndices.{index_more}
use Rattle.rendering_style.proofs.calls.table_of.Goals as goal

pub loop-index-preserved : goal.loop-index-preserved
loop-index-preserved c =
    index_more (get_by_text c.loop-index.table) (get_by_text c.bind.new.table) c.args.macros.now c.loop-index.index c.index-macros-index.result c.as_str.result.now
    c.loop-index-test.true c.index-macros-index.is (c.as_str.ensures.value ∙ ap (λ (m : Macro). string_bytes m.name) (sym c.index-macros-index.is)) c.loop-index.invariant c.in_ok-bind.ensures
