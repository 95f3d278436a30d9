-- The fields of an entry stand in the order of their names.
use Rattle.biblatex_fields.specs.contracts.fields.Fields.{the_view, the_invariant}
use Rattle.biblatex_fields.specs.declared.fields.Fields.TheInside.{Inside}
use Rattle.biblatex_fields.specs.Fields.{AreInOrder}

-- the fields of every value of `Fields` stand in the order of their names
pub in_order : (fields : Inside) → the_invariant fields → AreInOrder (the_view fields)
in_order fields h = h.0
