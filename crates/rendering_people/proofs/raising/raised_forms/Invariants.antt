use Rattle.std.proofs.Common.{◌≡◌, ◌++◌, drop}
use Rattle.rendering_people.specs.Raised.{raised_forms}
use Rattle.rendering_people.proofs.raising.raised_forms.Given as goal

abbrev pub invariant-loop-count : goal.invariant-loop-count
invariant-loop-count l = l.raised.items ++ raised_forms (drop l.count-index l.counts) l.rest l.others l.other_forms ≡ raised_forms l.counts l.forms l.others l.other_forms
