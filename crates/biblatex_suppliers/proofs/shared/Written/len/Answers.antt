use Rattle.std.proofs.Common.{◌≡◌, length, arith}
use Rattle.biblatex_suppliers.specs.Written.{written_view}
use Rattle.biblatex_suppliers.proofs.WrittenEntries.{written_long}
use Rattle.biblatex_suppliers.proofs.shared.Written.len.Goals as goal

pub returns : goal.returns
returns c =
    let w = c.args.self.now in
    let long : length (written_view w) ≡ length w.entries.items = written_long w in
    omega (arith, long, c.len.ensures, w.entries.ok.0)
