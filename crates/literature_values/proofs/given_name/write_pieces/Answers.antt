use Rattle.std.proofs.Common.{refl, true, sym, ◌∙◌, ap}
use Rattle.std.specs.Str.{chars}
use Rattle.literature_values.specs.GivenNames.{all_shown, by_piece}
use Rattle.literature_values.specs.PersonViews.{shown_view, initials_style_view}
use Rattle.texts.specs.Views.{left}
use Rattle.literature_values.proofs.GivenNameSteps.{given_none, begins, goes_on, ends}
use Rattle.literature_values.proofs.WritingSteps.{nothing_written}
use Rattle.literature_values.proofs.given_name.write_pieces.Goals as goal

pub returns-in_default : goal.returns-in_default
returns-in_default g c = λ ok.
    let s = initials_style_view c.args.style in
    let given = chars c.args.given.now in
    nothing_written _ _ (by_piece c.args.cuts s given) (given_none c.args.cuts s given (ap (all_shown c.args.cuts) (sym c.new-reader.ensures) ∙ c.in_default.ensures.first))

pub loop-next-init : goal.loop-next-init
loop-next-init g c =
    begins _ _ c.args.cuts (initials_style_view c.args.style) (chars c.args.given.now) (shown_view c.in-Some.first) (left c.next_shown.new.reader) _
    (ap (all_shown c.args.cuts) (sym c.new-reader.ensures) ∙ c.in-Some.ensures.first) (c.in_ok-write_shown.ensures (refl {a = true}))

pub loop-next-preserved : goal.loop-next-preserved
loop-next-preserved g c =
    let e = rw c.in-Some-next_shown.is at c.next_shown-in-loop-next.ensures.first in
    goes_on _ _ _ _ _ (shown_view c.loop-next.last) (shown_view c.in-Some-next_shown.next) (left c.loop-next.reader) _ _ _ c.loop-next.invariant e (c.in_ok-write_further.ensures (refl {a = true}))

pub returns : goal.returns
returns g c = λ ok.
    let e = rw c.in_default-next_shown.is at c.next_shown-in-loop-next.ensures.first in
    ends _ _ _ _ _ (shown_view c.loop-next.last) (left c.loop-next.reader) _ c.loop-next.invariant e
