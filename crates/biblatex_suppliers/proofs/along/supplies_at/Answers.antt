use Rattle.std.proofs.Common.{◌≡◌, ℕ, List, Option, Some, None, option_map, slice_get, sym, subst, ◌∙◌}
use Rattle.std.proofs.lemmas.Option.{same_Some}
use Rattle.std.proofs.lemmas.Result.{IfOk-weaker}
use Rattle.reference_graph.specs.References.{lists, references_of}
use Rattle.biblatex_entries.specs.Roles.{role_of}
use Rattle.biblatex_entries.specs.Entries.{Source}
use Rattle.biblatex_entries.specs.declared.role.Role.{Role}
use Rattle.biblatex_inheritance.specs.Resolved.{Offer, offers}
use Rattle.biblatex_inheritance.proofs.SolutionAlong.{references_there}
use Rattle.biblatex_suppliers.specs.Written.{written_view}
use Rattle.biblatex_suppliers.specs.Suppliers.{seen}
use Rattle.biblatex_suppliers.specs.Seen.{AreSupplied, AreSuppliedAt}
use Rattle.biblatex_suppliers.specs.declared.supplier.Supplies.{Supplies}
use Rattle.biblatex_suppliers.proofs.along.supplies_at.Goals as goal

-- what is known by the role of an entry is known of the entry
placed : (es : List Source) (os : List Offer) (o : Option Source) (role : Role) (s : Supplies) → Some role ≡ option_map (λ (e : Source). role_of e.entry_type) o → AreSupplied es role os s → AreSuppliedAt es os o s
placed es os None role s is known = absurd cc
placed es os (Some e) role s is known = subst (λ (r : Role). AreSupplied es r os s) (same_Some role (role_of e.entry_type) is) known

-- and nothing is to be known where there is none
nowhere : (es : List Source) (os : List Offer) (o : Option Source) (s : Supplies) → None ≡ option_map (λ (e : Source). role_of e.entry_type) o → AreSuppliedAt es os o s
nowhere es os None s is = tt
nowhere es os (Some e) s is = absurd cc

pub returns-in-Some : goal.returns-in-Some
returns-in-Some c =
    let es = written_view c.args.entries.now in
    let ss = c.args.supplies.now in
    let refs = c.args.references.now in
    let n = c.args.number in
    let there = references_there refs n c.index-references-number.result c.requires c.index-references-number.is ∙ sym c.as_slice.ensures.value in
    IfOk-weaker c.supplies_for.result _ _
    (λ s known. placed es (offers es (seen es ss) (references_of (lists refs) n)) (slice_get es n) c.in-Some.role s c.in-Some.ensures
    (subst (λ (rs : List ℕ). AreSupplied es c.in-Some.role (offers es (seen es ss) rs) s) (sym there) known)) c.supplies_for.ensures

pub returns-in-None : goal.returns-in-None
returns-in-None c =
    let es = written_view c.args.entries.now in
    nowhere es (offers es (seen es c.args.supplies.now) (references_of (lists c.args.references.now) c.args.number)) (slice_get es c.args.number) c.nothing.result c.in-None.ensures
