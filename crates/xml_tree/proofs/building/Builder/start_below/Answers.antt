use Rattle.std.proofs.Common.{Ok, sym, ap, ◌∙◌}
use Rattle.std.proofs.lemmas.Result.{err_from_is_err_and}
use Rattle.xml_text.specs.Views.{tag_view}
use Rattle.xml_tree.specs.Building.{Open, State, started}
use Rattle.xml_tree.specs.Views.{refusal_of, said_view, state_view}
use Rattle.xml_tree.proofs.Started.{room_lacks, below_fails, below_goes}
use Rattle.xml_tree.proofs.building.Builder.start_below.Goals as goal

pub returns-then-not-has_room : goal.returns-then-not-has_room
returns-then-not-has_room c =
    let s = state_view c.args.self.now in
    room_lacks s.root s.open_ones c.args.left (tag_view c.args.tag) (sym c.has_room.ensures ∙ c.if-not-has_room.true)

pub returns-in_err-said : goal.returns-in_err-said
returns-in_err-said c =
    let p = err_from_is_err_and c.from_residual.result c.from_residual.ensures.1 in
    let s = state_view c.args.self.now in
    rw (p.1, p.2) (below_fails s.root s.open_ones c.args.left (tag_view c.args.tag) (sym c.has_room.ensures ∙ c.if-not-has_room.false) (refusal_of c.in_err-said.field-0.0) c.in_err-said.ensures)

pub returns : goal.returns
returns c =
    let s = state_view c.args.self.now in
    let tag = tag_view c.args.tag in
    below_goes s.root s.open_ones c.args.left tag (said_view c.in_ok-said.said) (sym c.has_room.ensures ∙ c.if-not-has_room.false) c.in_ok-said.ensures
    ∙ ap (λ (n : State). Ok n) (sym (c.in_ok-put_started.ensures ∙ ap (λ (o : Open). started s.root s.open_ones c.args.tag.empty o) c.opened-inner.ensures))
