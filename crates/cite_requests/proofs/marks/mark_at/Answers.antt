use Rattle.std.proofs.Common.{true, sym, arith}
use Rattle.std.proofs.lemmas.List.{set_past}
use Rattle.cite_requests.proofs.marks.mark_at.Goals as goal

pub returns-then-marks-index : goal.returns-then-marks-index
returns-then-marks-index c = sym (set_past c.args.marks.now c.args.index true (omega arith))
