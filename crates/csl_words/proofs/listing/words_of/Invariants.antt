use Rattle.std.proofs.Common.{◌≡◌, ◌++◌, length}
use denote.Shadow.{shadow}
use denote.Text.{Utf8}
use Rattle.laws.specs.Borrowed.{borrowed}
use Rattle.csl_words.specs.Looking.{words_of}
use Rattle.csl_words.proofs.listing.words_of.Given as goal

abbrev pub invariant-loop-part : goal.invariant-loop-part
invariant-loop-part l = (borrowed l.words.items ++ words_of l.rest ≡ words_of l.text) × shadow (Utf8 l.rest)

abbrev pub decreases-loop-part : goal.decreases-loop-part
decreases-loop-part l = length l.rest
