use Rattle.std.proofs.Common.{ℕ, List, None, subst}
use Rattle.std.specs.Prelude.{if◌then◌else◌, ◌||◌}
use Rattle.std.proofs.lemmas.Result.{on_ok_weaker}
use Rattle.biblatex_inherited_fields.specs.Table.{is_among, of_all, of_articles, of_parts, source_name}
use Rattle.biblatex_inherited_fields.specs.Views.{PassesOn}
use Rattle.biblatex_suppliers.specs.Asked.{of_dates}
use Rattle.biblatex_suppliers.specs.Suppliers.{supplied_fields, seen}
use Rattle.biblatex_suppliers.specs.Written.{written_view}
use Rattle.biblatex_suppliers.proofs.PassingAsked.{both_passed}
use Rattle.biblatex_suppliers.proofs.passing.push_all.Goals as goal

pub returns : goal.returns
returns c =
    let es = written_view c.args.entries.now in
    let given = λ (q : List ℕ). seen es c.args.supplies.now c.args.reference (source_name c.args.to c.args.from q) in
    let old = supplied_fields es c.args.suppliers.now.items in
    let first = supplied_fields es c.push_both.new.suppliers.items in
    let second = supplied_fields es c.push_named.new.suppliers.items in
    let last = supplied_fields es c.push_named-2.new.suppliers.items in
    on_ok_weaker c.push_named-2.result (λ more.
    both_passed given old first last
    (λ q. is_among of_all q || is_among of_articles q) (λ q. is_among of_parts q || is_among of_dates q)
    (subst (λ (ns : List (List ℕ)). PassesOn old first (λ q. if is_among of_all q || is_among ns q then given q else None)) c.of_articles.ensures c.in_ok-push_both.ensures)
    (both_passed given first second last (is_among of_parts) (is_among of_dates)
    (subst (λ (ns : List (List ℕ)). PassesOn first second (λ q. if is_among ns q then given q else None)) c.of_parts.ensures c.in_ok-push_named.ensures)
    (subst (λ (ns : List (List ℕ)). PassesOn second last (λ q. if is_among ns q then given q else None)) c.of_dates.ensures more)))
    c.push_named-2.ensures
