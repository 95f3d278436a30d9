use Rattle.std.proofs.Common.{◌≡◌, ℕ, List, drop}
use Rattle.biblatex_fields.specs.Fields.{value_named}
use Rattle.biblatex_inheritance.specs.Resolved.{first, first_offer}
use Rattle.biblatex_inheritance.specs.Views.{offers_in}
use Rattle.biblatex_inheritance.proofs.inherit.pass_on_all_of.Given as goal

abbrev pub invariant-loop-reference : goal.invariant-loop-reference
invariant-loop-reference l =
    (q : List ℕ) → first (value_named q l.fields) (first_offer l.role (offers_in l.entries (drop l.reference-index l.references)) q) ≡ first (value_named q l.fn.fields) (first_offer l.role (offers_in l.entries l.references) q)
