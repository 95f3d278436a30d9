use Rattle.std.proofs.Common.{sym, ◌∙◌}
use Rattle.std.proofs.lemmas.Result.{on_ok_weaker}
use Rattle.rendering_page.specs.Views.{words_view}
use Rattle.rendering_page.proofs.JoiningSteps.{first_in_place, first_inside, first_left_out, first_outside}
use Rattle.rendering_page.proofs.joining.Joining.meet.Goals as goal

pub returns-then-takes_place : goal.returns-then-takes_place
returns-then-takes_place c = λ cs is.
    on_ok_weaker c.put_in_place.result
    (λ e.
    first_in_place c.args.inside c.args.formatting c.args.first cs (words_view c.args.words) c.args.self.now c.put_in_place.new.self
    (sym c.takes_place.ensures ∙ c.if-takes_place.true) is e)
    c.put_in_place.ensures

pub returns-then-leaves_out : goal.returns-then-leaves_out
returns-then-leaves_out c = λ cs is.
    on_ok_weaker c.go_on.result
    (λ e.
    first_left_out c.args.inside c.args.formatting c.args.first cs c.args.self.now c.make_room.new.self c.go_on.new.self (sym c.takes_place.ensures ∙ c.if-takes_place.false) c.make_room.ensures
    (sym c.leaves_out.ensures ∙ c.if-leaves_out.true) e)
    (c.go_on.ensures c.args.first cs is)

pub returns-then-takes_inside : goal.returns-then-takes_inside
returns-then-takes_inside c = λ cs is.
    on_ok_weaker c.go_inside.result
    (λ e.
    first_inside c.args.inside c.args.formatting c.args.first cs c.args.self.now c.make_room.new.self c.go_inside.new.self (sym c.takes_place.ensures ∙ c.if-takes_place.false) c.make_room.ensures
    (sym c.leaves_out.ensures ∙ c.if-leaves_out.false) (sym c.takes_inside.ensures ∙ c.if-takes_inside.true) e)
    (c.go_inside.ensures cs is)

pub returns : goal.returns
returns c = λ cs is.
    on_ok_weaker c.put_text.result
    (λ e.
    first_outside c.args.inside c.args.formatting c.args.first cs (words_view c.args.words) c.args.self.now c.make_room.new.self c.put_text.new.self (sym c.takes_place.ensures ∙ c.if-takes_place.false) c.make_room.ensures
    (sym c.leaves_out.ensures ∙ c.if-leaves_out.false) (sym c.takes_inside.ensures ∙ c.if-takes_inside.false) is e)
    c.put_text.ensures
