use Rattle.std.proofs.Common.{◌≡◌, ℕ, true, List, drop}
use Rattle.biblatex_fields.specs.Fields.{value_named}
use Rattle.biblatex_inheritance.specs.Resolved.{first, first_offer, offers}
use Rattle.biblatex_suppliers.specs.Asked.{is_asked}
use Rattle.biblatex_suppliers.specs.Suppliers.{supplied_fields, seen}
use Rattle.biblatex_suppliers.specs.Written.{written_view}
use Rattle.biblatex_suppliers.proofs.passing.suppliers_for.Given as goal

abbrev pub invariant-loop-reference : goal.invariant-loop-reference
invariant-loop-reference l =
    (q : List ℕ) → is_asked l.role q ≡ true
    → first (value_named q (supplied_fields (written_view l.entries) l.suppliers.items)) (first_offer l.role (offers (written_view l.entries) (seen (written_view l.entries) l.supplies) (drop l.reference-index l.references)) q)
    ≡ first_offer l.role (offers (written_view l.entries) (seen (written_view l.entries) l.supplies) l.references) q
