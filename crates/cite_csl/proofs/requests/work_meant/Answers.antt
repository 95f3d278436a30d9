use Rattle.std.proofs.Common.{◌≡◌, ℕ, List, Option, Some, None, sym, ap, ◌∙◌}
use Rattle.std.specs.Prelude.{MatchOption}
use Rattle.std.specs.Option.{option_map}
use Rattle.std.specs.Borrow.{Bor}
use Rattle.literature_entries.specs.EntriesData.{EntryData, entry_view}
use Rattle.literature_entries.specs.declared.entry.Entry.{Entry}
use Rattle.laws.proofs.Text.{text_of_chars}
use Rattle.cite_requests.specs.Works.{meaning}
use Rattle.cite_csl.specs.Views.{cited_view}
use Rattle.cite_csl.proofs.requests.work_meant.Goals as goal

-- what an entry that was found is
found : (o : Option (Bor Entry)) (m : Option EntryData) → option_map (λ (e : Bor Entry). entry_view e.now) o ≡ m → MatchOption o (m ≡ None) (λ e. m ≡ Some (entry_view e.now))
found None m is = sym is
found (Some e) m is = sym is

pub returns : goal.returns
returns c =
    found c.meant.result _ (c.meant.ensures ∙ ap (λ (n : List ℕ). meaning n (cited_view c.args.works)) (sym (text_of_chars c.args.name.now c.utf8.name)))
