-- Rows of tables without where their texts lie in memory.
use Rattle.std.specs.Prelude.{ℕ, List, None, Some}
use Rattle.std.specs.Borrow.{Bor}
use Rattle.laws.specs.Text.{spelled}
use Rattle.rendering_locale.specs.Locales.{DatePart, LocalizedTerm, OrdinalEnding}
use Rattle.cite_styles.specs.Dates.{ending, part}
use Rattle.rendering_taxonomy.specs.declared.date.DatePartForm.{DatePartForm}
use Rattle.rendering_taxonomy.specs.declared.term.Term.{Term}
use Rattle.rendering_taxonomy.specs.declared.term.TermForm.{TermForm}

-- the term of a row
abbrev pub term_row_view : Term × TermForm × Bor (List ℕ) × Bor (List ℕ) → LocalizedTerm
term_row_view r = record { name = r.0; form = r.1; single = Some (spelled r.2); multiple = Some (spelled r.3); gender = None }

-- the part of a date of a row
abbrev pub part_row_view : DatePartForm × Bor (List ℕ) → DatePart
part_row_view r = part r.0 (spelled r.1)

-- the ending of a row
abbrev pub ending_row_view : ℕ × Bor (List ℕ) → OrdinalEnding
ending_row_view r = ending r.0 (spelled r.1)
