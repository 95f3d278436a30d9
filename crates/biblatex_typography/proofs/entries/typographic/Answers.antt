use Rattle.std.proofs.Common.{◌≡◌, true, List, Option, sym, subst, ◌∙◌, arith}
use Rattle.std.specs.Prelude.{IfSome}
use Rattle.biblatex.specs.Indices.{meaning_in}
use Rattle.biblatex_entries.specs.Entries.{Source}
use Rattle.biblatex_fields.specs.Fields.{AreJoined}
use Rattle.biblatex_writing.specs.Settled.{have_distinct_keys}
use Rattle.biblatex_typography.proofs.Fields.{changed_on, distinct_kept, finished, not_yet}
use Rattle.biblatex_typography.proofs.entries.typographic.Goals as goal

pub change_at-requires : goal.change_at-requires
change_at-requires c =
    subst (λ (o : Option Source). IfSome o (λ e. AreJoined e.fields)) (sym (not_yet c.args.file.entries c.loop-index.file.entries c.loop-index.index c.loop-index.invariant.0)) (c.requires c.loop-index.index)

pub loop-index-preserved : goal.loop-index-preserved
loop-index-preserved c =
    let old = c.args.file.entries in
    let i = c.loop-index.index in (
      c.in_ok-change_at.ensures.entries ∙ changed_on old c.loop-index.file.entries i (omega (arith, c.loop-index-test.true, c.len-index-end.ensures)) c.loop-index.invariant.0,
      c.in_ok-change_at.ensures.names ∙ c.loop-index.invariant.1,
    )

pub returns-clause-printed : goal.returns-clause-printed
returns-clause-printed c =
    let all = finished c.args.file.entries c.loop-index.file.entries c.loop-index.index (omega (arith, c.loop-index-test.false, c.len-index-end.ensures)) c.loop-index.invariant.0 in
    λ i. record { entries = all i; index = meaning_in (c.loop-index.invariant.1 i) }

pub returns-clause-distinct : goal.returns-clause-distinct
returns-clause-distinct c distinct =
    let all = finished c.args.file.entries c.loop-index.file.entries c.loop-index.index (omega (arith, c.loop-index-test.false, c.len-index-end.ensures)) c.loop-index.invariant.0 in
    subst (λ (es : List Source). have_distinct_keys es ≡ true) (sym all) (distinct_kept c.args.file.entries distinct)
