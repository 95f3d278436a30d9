use Rattle.std.proofs.Common.{rules}
use Rattle.hashes.specs.Hashes.{hash_of}
use Rattle.hashes.proofs.hash_of.Goals as goal

pub returns : goal.returns
unfolding hash_of
returns g c = search rules
