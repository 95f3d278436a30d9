use Rattle.std.proofs.Common.{ℕ, map, sym, subst}
use Rattle.std.proofs.lemmas.List.{length-map}
use Rattle.biblatex_text.specs.Views.{field_view}
use Rattle.biblatex_fields.specs.Abbreviations.{Copied}
use Rattle.biblatex_fields.proofs.AbbreviationsFlags.{copied_all}
use Rattle.biblatex_fields.proofs.ValueStack.{by_the_rule}
use Rattle.biblatex_fields.proofs.abbreviations.Abbreviations.new.Goals as goal

pub returns-clause-rule : goal.returns-clause-rule
returns-clause-rule c =
    let ds = map field_view c.args.definitions.now in
    let flags = c.in_ok-circular.circular.items in
    let marks = c.in_ok-order.order.circular in
    let copied = subst (λ (n : ℕ). Copied flags marks n) (sym (length-map c.args.definitions.now field_view)) c.in_ok-circular.ensures in
    by_the_rule (record { definitions = ds; flags = flags }) (copied_all flags marks ds (c.in_ok-order.ensures c.in_ok-indices.ensures).marks copied)

pub returns-clause-flags : goal.returns-clause-flags
returns-clause-flags c =
    let flags = c.in_ok-circular.circular.items in
    let marks = c.in_ok-order.order.circular in
    let copied = subst (λ (n : ℕ). Copied flags marks n) (sym (length-map c.args.definitions.now field_view)) c.in_ok-circular.ensures in
    copied_all flags marks (map field_view c.args.definitions.now) (c.in_ok-order.ensures c.in_ok-indices.ensures).marks copied
