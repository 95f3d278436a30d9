use Rattle.std.proofs.Common.{ap, ◌∙◌}
use Rattle.hashes.specs.Hashes.{text_hash}
use Rattle.driver_disambiguation.proofs.hashed_text.HashedText.new.Goals as goal

pub invariant_of-result : goal.invariant_of-result
invariant_of-result c = record { hashed = c.hash_of-hash.ensures ∙ ap text_hash c.as_str.ensures.value }
