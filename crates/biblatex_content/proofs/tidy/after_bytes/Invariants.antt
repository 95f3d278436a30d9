use Rattle.std.proofs.Common.{◌≡◌, drop}
use Rattle.biblatex_content.specs.Tidy.{spaced_after}
use Rattle.biblatex_content.proofs.tidy.after_bytes.Given as goal

abbrev pub invariant-loop-byte : goal.invariant-loop-byte
invariant-loop-byte l = spaced_after l.is_after (drop l.byte-index l.bytes) ≡ spaced_after l.fn.is_after_space l.bytes
