use Rattle.std.proofs.Common.{ℕ, List, [], slice_get, Option, Some, None, Bor, option_map, length, sym, ap, subst, ◌≡◌, ◌∙◌, eqb-true}
use Rattle.std.specs.Prelude.{IfSome}
use Rattle.std.specs.Bool.{OnTrue}
use Rattle.std.proofs.lemmas.List.{nil_from_length}
use Rattle.biblatex_entries.specs.Entries.{source_view}
use Rattle.biblatex_entries.specs.declared.entry.Entry.{Entry}
use Rattle.biblatex_inherited_fields.specs.Offered.{Table}
use Rattle.biblatex_suppliers.specs.Written.{beside, entry_with, written_view}
use Rattle.biblatex_suppliers.specs.Suppliers.{seen, written_of, IsMadeAs}
use Rattle.biblatex_suppliers.specs.declared.shared.Shared.{Shared}
use Rattle.biblatex_suppliers.specs.declared.shared.Written.{Written}
use Rattle.biblatex_suppliers.proofs.MakingEntries.{whole_made}
use Rattle.biblatex_suppliers.proofs.WrittenEntries.{written_there}
use Rattle.biblatex_suppliers.proofs.entries.whole_entry.Goals as goal

there : (w : Written) (n : ℕ) (r : Option (Bor Entry)) (t : Table) → option_map (λ (e : Bor Entry). e.now) r ≡ slice_get w.entries.items n → beside w.shared.items n ≡ [] → ((q : List ℕ) → t q ≡ written_of (slice_get (written_view w) n) q)
    → IfSome r (λ d. IsMadeAs (slice_get (written_view w) n) t (source_view d.now))
there w n None t at alone same = tt
there w n (Some d) t at alone same =
    whole_made (slice_get (written_view w) n) (source_view d.now) t (sym (written_there w n d.now (sym at) ∙ ap (λ (ss : List Shared). Some (entry_with (source_view d.now) ss)) alone)) same

pub returns-then-is_whole : goal.returns-then-is_whole
returns-then-is_whole c =
    let w = c.args.entries.now in
    let n = c.args.number in
    let alone : beside w.shared.items n ≡ [] = nil_from_length (beside w.shared.items n) (eqb-true (length (beside w.shared.items n)) 0 (sym c.stands_alone.ensures ∙ c.if-not-stands_alone.false)) in
    there w n c.entry_at.result (seen (written_view w) c.args.supplies.now n) c.entry_at.ensures alone
    (subst (λ b. OnTrue b ((q : List ℕ) → seen (written_view w) c.args.supplies.now n q ≡ written_of (slice_get (written_view w) n) q)) c.if-is_whole.true c.is_whole.ensures)
