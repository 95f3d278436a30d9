use Rattle.std.proofs.Common.{◌≡◌, ◌++◌, ℕ, List, drop, string_bytes}
use Rattle.std.specs.List.{list_any}
use Rattle.laws.specs.Borrowed.{borrowed}
use Rattle.programs.specs.Files.{read_at}
use Rattle.cite_csl_styles.specs.Sources.{lacks_memory, unread_lines}
use Rattle.cite_csl_styles.proofs.sources.unread_lines.Given as goal

abbrev pub invariant-loop-path : goal.invariant-loop-path
invariant-loop-path l = (string_bytes l.lines ++ unread_lines (read_at l.files) (borrowed (drop l.path-index l.paths)) ≡ unread_lines (read_at l.files) (borrowed l.paths))
    × (list_any (λ (p : List ℕ). lacks_memory (read_at l.files p)) (borrowed (drop l.path-index l.paths)) ≡ list_any (λ (p : List ℕ). lacks_memory (read_at l.files p)) (borrowed l.paths))
