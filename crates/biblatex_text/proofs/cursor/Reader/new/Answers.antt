use Rattle.biblatex_text.proofs.ReadingOffsets.{stands_first}
use Rattle.biblatex_text.proofs.cursor.Reader.new.Goals as goal

pub invariant_of-result : goal.invariant_of-result
invariant_of-result c =
    let s = stands_first c.args.source.now c.utf8.source in
    record { within = s.within; tail = s.tail; boundary = s.boundary }
