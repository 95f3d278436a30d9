use Rattle.std.proofs.Common.{refl, true, sym, ◌∙◌, ap}
use Rattle.std.specs.Str.{chars}
use Rattle.literature_values.specs.Initials.{next_run_at, initials_of}
use Rattle.literature_values.specs.PersonViews.{run_view, initials_style_view}
use Rattle.texts.specs.Views.{left}
use Rattle.literature_values.proofs.InitialsSteps.{runs_shorten, initials_none, begins, goes_on, ends}
use Rattle.literature_values.proofs.WritingSteps.{nothing_written}
use Rattle.literature_values.proofs.person.write_initials.Goals as goal

pub returns-in_default : goal.returns-in_default
returns-in_default g c = λ ok.
    let s = initials_style_view c.args.style in
    let whole = chars c.args.given.now in
    nothing_written _ _ (initials_of s whole) (initials_none s whole (left c.next_run.new.reader) (ap next_run_at (sym c.new-reader.ensures) ∙ c.in_default.ensures))

pub loop-run-init : goal.loop-run-init
loop-run-init g c =
    begins _ _ (initials_style_view c.args.style) (chars c.args.given.now) (run_view c.in-Some.first) (left c.next_run.new.reader) _ (ap next_run_at (sym c.new-reader.ensures) ∙ c.in-Some.ensures) (c.in_ok-write_initial.ensures (refl {a = true}))

pub loop-run-smaller : goal.loop-run-smaller
loop-run-smaller g c =
    let e = rw c.in-Some-next_run.is at c.next_run-in-loop-run.ensures in
    runs_shorten (left c.loop-run.reader) (left c.next_run-in-loop-run.new.reader) (run_view c.in-Some-next_run.run') e

pub loop-run-preserved : goal.loop-run-preserved
loop-run-preserved g c =
    let e = rw c.in-Some-next_run.is at c.next_run-in-loop-run.ensures in
    goes_on _ _ _ _ (run_view c.in-Some-next_run.run') (left c.loop-run.reader) _ _ _ c.loop-run.invariant e (c.in_ok-write_further.ensures (refl {a = true}))

pub returns : goal.returns
returns g c = λ ok.
    let e = rw c.in_default-next_run.is at c.next_run-in-loop-run.ensures in
    ends _ _ _ _ (left c.loop-run.reader) _ _ c.loop-run.invariant e
