use Rattle.std.proofs.Common.{◌≡◌, ◌<◌, length, Some, None, sym, ap, ◌∙◌, arith, Bor, String}
use Rattle.std.specs.Global.{Global}
use Rattle.std.specs.Vec.{vec_len}
use Rattle.literature_entries.specs.declared.entry.Entry.{Entry}
use Rattle.literature.specs.BoundNames.{index_of}
use Rattle.literature.proofs.NamesBound.{none_bound, place}
use Rattle.literature.proofs.bindings.Bindings.get.Goals as goal

pub index-requires : goal.index-requires
index-requires c =
    let q = c.args.name.now in
    let b = c.args.self.now in
    let value : index_of q b.entries.items ≡ Some c.in-Some.index = sym (b.indexed q) ∙ (sym c.get.ensures ∙ c.in-Some.is) in
    let less : c.in-Some.index < length b.entries.items = (place q b.entries.items c.in-Some.index value).0 in
    let count : vec_len b.entries ≡ length b.entries.items = b.entries.ok.0 in
    omega (arith, less, count)

pub returns-in-Some : goal.returns-in-Some
returns-in-Some c =
    let q = c.args.name.now in
    let b = c.args.self.now in
    let value : index_of q b.entries.items ≡ Some c.in-Some.index = sym (b.indexed q) ∙ (sym c.get.ensures ∙ c.in-Some.is) in
    ap (λ (p : String Global × Bor Entry). Some p.1.now) c.index.ensures ∙ sym ((place q b.entries.items c.in-Some.index value).1 c.index.result.now).1

pub returns-in-None : goal.returns-in-None
returns-in-None c =
    let q = c.args.name.now in
    let b = c.args.self.now in
    let none : index_of q b.entries.items ≡ None = sym (b.indexed q) ∙ (sym c.get.ensures ∙ c.in-None.is) in
    sym (none_bound q b.entries.items none)
