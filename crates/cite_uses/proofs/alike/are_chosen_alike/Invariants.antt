use Rattle.std.proofs.Common.{◌≡◌, ◌↔◌, drop}
use Rattle.std.specs.List.{AllByRecursion}
use Rattle.literature_entries.specs.EntriesData.{entry_view}
use Rattle.literature.specs.Holding.{holds_at}
use Rattle.literature.specs.Views.{selector_view}
use Rattle.literature.specs.declared.selector.Selector.{Selector}
use Rattle.cite_uses.proofs.alike.are_chosen_alike.Given as goal

abbrev pub invariant-loop-section : goal.invariant-loop-section
invariant-loop-section l =
    AllByRecursion (λ (s : Selector). holds_at (selector_view s) (entry_view l.work) ≡ holds_at (selector_view s) (entry_view l.other)) (drop l.section-index l.sections)
    ↔ AllByRecursion (λ (s : Selector). holds_at (selector_view s) (entry_view l.work) ≡ holds_at (selector_view s) (entry_view l.other)) l.sections
