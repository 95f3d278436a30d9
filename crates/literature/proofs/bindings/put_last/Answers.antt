use Rattle.std.proofs.Common.{◌≡◌, Some, cond, length, bytes_eq, sym, ap, ◌∙◌}
use Rattle.literature.specs.BoundNames.{index_of}
use Rattle.literature.proofs.NamesBound.{index_last}
use Rattle.literature.proofs.bindings.put_last.Goals as goal

pub returns-clause-indices : goal.returns-clause-indices
returns-clause-indices c q =
    let name = c.args.name.now in
    let ps = c.args.entries.now.items in
    let count : c.len.result ≡ length ps = c.len.ensures ∙ c.args.entries.now.ok.0 in
    c.in_ok-insert.ensures.ok q
    ∙ (λ i. cond (bytes_eq (c.in_ok-from_str.ensures.ok i) q) (Some (count i)) (c.requires.indices q i))
    ∙ sym (index_last name q ps (c.in_ok-from_str-2.field-0, c.args.entry) c.in_ok-from_str-2.ensures.ok c.requires.new)
    ∙ ap (index_of q) (sym c.in_ok-push.ensures.items)
