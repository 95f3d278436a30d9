use Rattle.std.proofs.Common.{◌≡◌, ◌++◌, length, string_bytes}
use Rattle.laws.specs.Borrowed.{borrowed}
use Rattle.cite_csl_styles.specs.CslLines.{listed}
use Rattle.cite_csl_styles.proofs.csl_texts.listing.Given as goal

abbrev pub invariant-loop-rest : goal.invariant-loop-rest
invariant-loop-rest l = string_bytes l.text ++ listed (borrowed l.rest) ≡ l.words ++ listed (borrowed l.names)

abbrev pub decreases-loop-rest : goal.decreases-loop-rest
decreases-loop-rest l = length l.rest
