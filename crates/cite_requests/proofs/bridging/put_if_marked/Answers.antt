use Rattle.std.proofs.Common.{Bool, [], ◌++◌, map, slice_get, sym, ap, ◌∙◌}
use Rattle.std.specs.Prelude.{if◌then◌else◌, option_to_list}
use Rattle.std.proofs.lemmas.Result.{on_ok_weaker}
use Rattle.interop.specs.Views.{fault_view, library_view}
use Rattle.cite_requests.specs.Cited.{come_to}
use Rattle.cite_requests.proofs.bridging.put_if_marked.Goals as goal

pub returns-then-is_marked : goal.returns-then-is_marked
returns-then-is_marked c =
    let o = slice_get c.args.file.now.entries c.args.index in
    on_ok_weaker c.put_at.result (λ step rest.
    step rest ∙ ap (λ (b : Bool). come_to (map fault_view c.args.faults.now.items) (library_view c.args.library.now) ((if b then option_to_list o else []) ++ rest)) (sym (sym c.is_marked.ensures ∙ c.if-is_marked.true))) c.put_at.ensures

pub returns-else-is_marked : goal.returns-else-is_marked
returns-else-is_marked c = λ rest.
    let o = slice_get c.args.file.now.entries c.args.index in
    ap (λ (b : Bool). come_to (map fault_view c.args.faults.now.items) (library_view c.args.library.now) ((if b then option_to_list o else []) ++ rest)) (sym (sym c.is_marked.ensures ∙ c.if-is_marked.false))
