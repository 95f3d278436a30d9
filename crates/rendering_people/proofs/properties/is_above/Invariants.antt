use Rattle.std.proofs.Common.{◌≡◌, map, drop}
use Rattle.rendering_taxonomy.specs.NameForms.{rank}
use Rattle.rendering_people.specs.Properties.{is_above}
use Rattle.rendering_people.proofs.properties.is_above.Given as goal

abbrev pub invariant-loop-form : goal.invariant-loop-form
invariant-loop-form l = is_above (map rank (drop l.form-index l.forms)) (map rank l.left) ≡ is_above (map rank l.forms) (map rank l.others)
