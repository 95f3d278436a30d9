use Rattle.std.proofs.Common.{◌≡◌, sym, ap, ◌∙◌, None, string_bytes}
use Rattle.std.specs.Option.{option_map}
use Rattle.std.proofs.lemmas.Result.{on_ok_weaker}
use Rattle.driver_blocks.specs.Indexed.{key_of_names, indices_of}
use Rattle.driver_blocks.specs.Views.{blocks_view, gathered_view}
use Rattle.driver_blocks.proofs.IndexedSteps.{indices_nameless, put_nameless}
use Rattle.driver_blocks.proofs.blocks.put.Goals as goal

pub returns-in-None-clause-blocks : goal.returns-in-None-clause-blocks
returns-in-None-clause-blocks c =
    let x = gathered_view c.args.cite in
    let none : key_of_names c.args.by_text x ≡ None = sym c.in_ok-key.ensures ∙ ap (option_map string_bytes) c.in-None.is in
    on_ok_weaker c.put_alone.result (λ is. is ∙ sym (put_nameless c.args.by_text x (blocks_view c.args.blocks.now.items) none)) c.put_alone.ensures

pub returns-in-None-clause-table : goal.returns-in-None-clause-table
returns-in-None-clause-table c =
    let x = gathered_view c.args.cite in
    let none : key_of_names c.args.by_text x ≡ None = sym c.in_ok-key.ensures ∙ ap (option_map string_bytes) c.in-None.is in
    on_ok_weaker c.put_alone.result (λ is q. c.requires q ∙ sym (indices_nameless c.args.by_text x q (blocks_view c.args.blocks.now.items) none) ∙ ap (indices_of c.args.by_text q 0) (sym is)) c.put_alone.ensures
