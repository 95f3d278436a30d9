use Rattle.std.proofs.Common.{◌≡◌, ◌<◌, arith, length, map, set, Some, None, Bor, String, sym, ap, ◌∙◌}
use Rattle.std.specs.Global.{Global}
use Rattle.std.specs.Vec.{vec_len}
use Rattle.literature_entries.specs.declared.entry.Entry.{Entry}
use Rattle.literature.specs.BoundNames.{binding_view, index_of}
use Rattle.literature.proofs.NamesBound.{bound_last, index_rebound, place, rebound, with_entry}
use Rattle.literature.proofs.bindings.bind.Goals as goal

pub index_mut-requires : goal.index_mut-requires
index_mut-requires c =
    let q = c.args.name.now in
    let ps = c.args.entries.now.items in
    let value : index_of q ps ≡ Some c.in-Some.index = sym (c.requires q) ∙ (sym c.get.ensures ∙ c.in-Some.is) in
    let less : c.in-Some.index < length ps = (place q ps c.in-Some.index value).0 in
    let count : vec_len c.args.entries.now ≡ length ps = c.args.entries.now.ok.0 in
    omega (arith, less, count)

pub returns-in-Some-clause-entries : goal.returns-in-Some-clause-entries
returns-in-Some-clause-entries c =
    let q = c.args.name.now in
    let ps = c.args.entries.now.items in
    let at = c.in-Some.index in
    let value : index_of q ps ≡ Some at = sym (c.requires q) ∙ (sym c.get.ensures ∙ c.in-Some.is) in
    ap (λ (p : String Global × Bor Entry). map binding_view (set ps at (with_entry p c.args.entry))) c.index_mut.ensures.value
    ∙ rebound q c.args.entry ps at c.index_mut.result.now value

pub returns-in-Some-clause-indices : goal.returns-in-Some-clause-indices
returns-in-Some-clause-indices c q =
    let name = c.args.name.now in
    let ps = c.args.entries.now.items in
    let at = c.in-Some.index in
    let value : index_of name ps ≡ Some at = sym (c.requires name) ∙ (sym c.get.ensures ∙ c.in-Some.is) in
    c.requires q ∙ sym (index_rebound q c.args.entry ps at c.index_mut.result.now (place name ps at value).0)
    ∙ ap (λ (p : String Global × Bor Entry). index_of q (set ps at (with_entry p c.args.entry))) (sym c.index_mut.ensures.value)

pub returns-in_ok-put_last-in-None-clause-entries :
    goal.returns-in_ok-put_last-in-None-clause-entries
returns-in_ok-put_last-in-None-clause-entries c =
    let q = c.args.name.now in
    let ps = c.args.entries.now.items in
    let none : index_of q ps ≡ None = sym (c.requires q) ∙ (sym c.get.ensures ∙ c.in-None.is) in
    c.in_ok-put_last-in-None.ensures.entries ∙ sym (bound_last q c.args.entry.now ps none)
