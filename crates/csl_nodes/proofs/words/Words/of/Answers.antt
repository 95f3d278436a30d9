use Rattle.std.proofs.Common.{ℕ, List, [], map, string_bytes}
use Rattle.std.specs.Borrow.{Bor}
use Rattle.csl_nodes.proofs.Once.{once_step}
use Rattle.csl_nodes.proofs.words.Words.of.Goals as goal

pub loop-word-preserved : goal.loop-word-preserved
loop-word-preserved c =
    let d : Bor (List ℕ) = record { ref_ptr = (0, 0); now = [] } in
    record {
      once = once_step c.args.listed.now c.loop-word.word-index d (map string_bytes c.loop-word.words.items) (map string_bytes c.add.new.words.items) c.loop-word-test.true c.loop-word.invariant.once
          c.in_ok-add.ensures.words;
      placed = c.in_ok-add.ensures.places;
    }
