use Rattle.std.proofs.Common.{Some, option_map, sym, ap, ◌∙◌}
use Rattle.biblatex_entries.specs.Roles.{role_of}
use Rattle.biblatex_entries.specs.Entries.{Source}
use Rattle.biblatex_suppliers.proofs.WrittenEntries.{written_there, written_nowhere}
use Rattle.biblatex_suppliers.proofs.written.role_at.Goals as goal

pub returns-in-Some : goal.returns-in-Some
returns-in-Some c = ap Some c.role.ensures ∙ sym (ap (option_map (λ (e : Source). role_of e.entry_type)) (written_there c.args.entries.now c.args.number c.in-Some.entry.now (sym c.in-Some.ensures)))

pub returns-in-None : goal.returns-in-None
returns-in-None c = sym (ap (option_map (λ (e : Source). role_of e.entry_type)) (written_nowhere c.args.entries.now c.args.number (sym c.in-None.ensures)))
