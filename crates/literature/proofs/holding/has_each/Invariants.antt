use Rattle.std.proofs.Common.{◌≡◌, take, true, string_bytes}
use Rattle.std.specs.List.{list_all}
use Rattle.laws.specs.Text.{is_filled}
use Rattle.literature_entries.specs.Names.{has}
use Rattle.literature_entries.specs.Views.{fields_view, parents}
use Rattle.literature.proofs.holding.has_each.Given as goal

abbrev pub invariant-loop-name : goal.invariant-loop-name
invariant-loop-name l = list_all (λ s. has (string_bytes s) (fields_view l.entry) (is_filled (parents l.entry))) (take l.name-index l.names) ≡ true
