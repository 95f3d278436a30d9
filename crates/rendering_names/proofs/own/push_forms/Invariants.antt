use Rattle.std.proofs.Common.{◌≡◌, ◌++◌, replicate}
use Rattle.rendering_names.proofs.own.push_forms.Given as goal

abbrev pub invariant-loop-n : goal.invariant-loop-n
invariant-loop-n l = l.forms.items ≡ l.initial.forms.items ++ replicate l._n l.form
