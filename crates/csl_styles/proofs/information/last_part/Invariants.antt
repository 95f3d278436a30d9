use Rattle.std.proofs.Common.{◌≡◌, [], eqb, length}
use denote.Shadow.{shadow}
use denote.Text.{Utf8}
use Rattle.std.specs.List.{slice_split}
use Rattle.laws.specs.Characters.{slash}
use Rattle.csl_styles.specs.Information.{last_or}
use Rattle.csl_styles.proofs.information.last_part.Given as goal

abbrev pub invariant-loop-more : goal.invariant-loop-more
invariant-loop-more l = (last_or [] (slice_split (λ b. eqb b slash) l.rest) ≡ last_or [] (slice_split (λ b. eqb b slash) l.text)) × shadow (Utf8 l.rest)

abbrev pub decreases-loop-more : goal.decreases-loop-more
decreases-loop-more l = length l.rest
