use Rattle.biblatex_entries.specs.Entries.{source_view}
use Rattle.biblatex_suppliers.specs.declared.shared.Shared.{Shared}
use Rattle.biblatex_suppliers.proofs.WrittenAside.{put_beside}
use Rattle.biblatex_suppliers.proofs.apart.put_beside.Goals as goal

pub returns : goal.returns
returns c = λ whole aside.
    let s : Shared = record { name = c.args.name; value = c.args.value } in
    put_beside whole (source_view c.args.entry.now) (source_view c.remove.new.self) c.args.shared.now.items c.push.new.self.items s c.as_str.result.now c.iter.ensures.ordered c.as_str.ensures.value c.remove.ensures.rest c.in_ok-push.ensures.items c.requires.said
    c.requires.value aside
