use Rattle.hashes.proofs.IndexKept.{nothing}
use Rattle.hashes.proofs.text_index.TextIndex.new.Goals as goal

pub returns : goal.returns
returns c = nothing (record { firsts = c.new.result; others = c.new-2.result }) c.new.ensures.empty c.new-2.ensures.empty
