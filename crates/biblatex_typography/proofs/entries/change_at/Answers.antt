use Rattle.std.proofs.Common.{Option, refl, sym, subst}
use Rattle.std.specs.Prelude.{IfSome}
use Rattle.std.proofs.lemmas.Result.{on_ok_weaker}
use Rattle.biblatex_entries.specs.Entries.{Source, source_view}
use Rattle.biblatex_fields.specs.Fields.{AreJoined}
use Rattle.biblatex_typography.proofs.Fields.{none_changed, one_changed}
use Rattle.biblatex_typography.proofs.entries.change_at.Goals as goal

pub change_entry-requires : goal.change_entry-requires
change_entry-requires c = subst (λ (o : Option Source). IfSome o (λ e. AreJoined e.fields)) (sym c.in-Some.ensures.value) c.requires

pub returns-in-Some-clause-entries : goal.returns-in-Some-clause-entries
returns-in-Some-clause-entries c =
    on_ok_weaker c.change_entry.result
    (λ is. one_changed c.args.index c.args.file.now.entries (source_view c.in-Some.entry.now) (source_view c.change_entry.new.entry) c.in-Some.ensures.value is)
    c.change_entry.ensures

pub returns-in-Some-clause-names : goal.returns-in-Some-clause-names
returns-in-Some-clause-names c = on_ok_weaker c.change_entry.result (λ is. refl) c.change_entry.ensures

pub returns-in-None-clause-entries : goal.returns-in-None-clause-entries
returns-in-None-clause-entries c = none_changed c.args.index c.args.file.now.entries c.in-None.ensures.value
