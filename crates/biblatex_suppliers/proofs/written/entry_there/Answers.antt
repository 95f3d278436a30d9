use Rattle.std.proofs.Common.{◌≡◌, ◌<◌, length, refl, arith}
use Rattle.std.proofs.lemmas.Option.{slice_get_read}
use Rattle.biblatex_suppliers.specs.Written.{written_view}
use Rattle.biblatex_suppliers.proofs.WrittenEntries.{written_long}
use Rattle.biblatex_suppliers.proofs.written.entry_there.Goals as goal

pub index-requires : goal.index-requires
index-requires c =
    let w = c.args.entries.now in
    let long : length (written_view w) ≡ length w.entries.items = written_long w in
    omega (arith, long, c.requires, w.entries.ok.0)

pub returns : goal.returns
returns c =
    let w = c.args.entries.now in
    let long : length (written_view w) ≡ length w.entries.items = written_long w in
    let low : c.args.number < length w.entries.items = omega (arith, long, c.requires) in
    slice_get_read w.entries.items _ c.args.number c.index.result.now refl low c.index.ensures
