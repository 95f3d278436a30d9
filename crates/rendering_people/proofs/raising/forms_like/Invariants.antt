use Rattle.std.proofs.Common.{◌≡◌, drop}
use Rattle.rendering_people.specs.Raised.{forms_like}
use Rattle.rendering_people.proofs.raising.forms_like.Given as goal

abbrev pub invariant-loop-other : goal.invariant-loop-other
invariant-loop-other l = forms_like l.count (drop l.other-index l.others) l.rest ≡ forms_like l.count l.others l.forms
