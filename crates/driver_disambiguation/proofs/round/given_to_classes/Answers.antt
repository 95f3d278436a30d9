use Rattle.std.proofs.Common.{List, ap, sym, ◌∙◌, subst}
use Rattle.std.specs.Prelude.{Vec}
use Rattle.std.specs.Global.{Global}
use Rattle.std.specs.Borrow.{Bor}
use Rattle.std.proofs.lemmas.Result.{err_from_is_err_and}
use Rattle.laws.specs.Results.{EndsWith}
use Rattle.driver_requests.specs.Errors.{overflow_of}
use Rattle.driver_requests.specs.Suffixes.{Origin}
use Rattle.driver_disambiguation.specs.Rounds as rounds
use Rattle.driver_names.specs.Prints.{GivenState}
use Rattle.driver_names.specs.Views.{class_view, given_states_view}
use Rattle.driver_disambiguation.specs.Views.{unless_beyond}
use Rattle.driver_names.specs.declared.printed.Printed.{Printed}
use Rattle.driver_disambiguation.proofs.Gathering.{gathers_more, gathers_refused, given_in_turn, in_range_before_suffixes}
use Rattle.driver_disambiguation.proofs.round.given_to_classes.Goals as goal

pub give_suffixes-requires-clause-indices : goal.give_suffixes-requires-clause-indices
give_suffixes-requires-clause-indices c =
    let o : Origin = record { round = c.args.round; class = c.loop-class.class } in
    in_range_before_suffixes c.args.adds_names o (class_view c.as_slice-cites.result.now) (given_states_view c.loop-class.given.items)
    (given_states_view c.in_ok-named.named.items) (given_states_view c.append.new.given.items) (given_states_view c.give_branches.new.given.items)
    c.loop-class.invariant.1.0 c.in_ok-named.ensures c.in_ok-append.ensures.given c.in_ok-give_branches.ensures.given

pub loop-class-preserved : goal.loop-class-preserved
loop-class-preserved c =
    let o : Origin = record { round = c.args.round; class = c.loop-class.class } in
    let turns = given_in_turn c.args.adds_names c.args.has_dates o (class_view c.as_slice-cites.result.now) (given_states_view c.loop-class.given.items)
    (given_states_view c.in_ok-named.named.items) (given_states_view c.append.new.given.items) (given_states_view c.give_branches.new.given.items)
    c.in_ok-named.ensures c.in_ok-append.ensures.given c.in_ok-give_branches.ensures.given in (
      c.in_ok-give_suffixes.ensures.entries,
      gathers_more (λ (v : Vec (Bor Printed) Global). class_view v.items) c.args.adds_names c.args.has_dates c.args.round c.args.classes.now c.loop-class.class c.index-classes-class.result
          (given_states_view c.loop-class.given.items) (given_states_view c.give_suffixes.new.given.items) c.loop-class-test.true c.index-classes-class.is c.loop-class.invariant.1
          (ap (λ ss. unless_beyond (rounds.given_by c.args.adds_names c.args.has_dates (given_states_view c.loop-class.given.items) o (class_view ss))) (sym c.as_slice-cites.ensures.value)
          ∙ ap unless_beyond (sym turns)
          ∙ c.in_ok-give_suffixes.ensures.given),
    )

pub returns-in_err-give_suffixes : goal.returns-in_err-give_suffixes
returns-in_err-give_suffixes c =
    let p = err_from_is_err_and c.from_residual-in_err-give_suffixes.result c.from_residual-in_err-give_suffixes.ensures.1 in
    let o : Origin = record { round = c.args.round; class = c.loop-class.class } in
    let turns = given_in_turn c.args.adds_names c.args.has_dates o (class_view c.as_slice-cites.result.now) (given_states_view c.loop-class.given.items)
    (given_states_view c.in_ok-named.named.items) (given_states_view c.append.new.given.items) (given_states_view c.give_branches.new.given.items)
    c.in_ok-named.ensures c.in_ok-append.ensures.given c.in_ok-give_branches.ensures.given in
    let gave : EndsWith (overflow_of c.in_err-give_suffixes.field-0.0) (unless_beyond (rounds.given_by c.args.adds_names c.args.has_dates (given_states_view c.loop-class.given.items) o (class_view c.as_slice-cites.result.now))) =
    subst (λ (gs : List GivenState). EndsWith (overflow_of c.in_err-give_suffixes.field-0.0) (unless_beyond gs)) turns c.in_err-give_suffixes.ensures.given in
    rw (p.1, p.2) (gathers_refused (λ (v : Vec (Bor Printed) Global). class_view v.items) c.args.adds_names c.args.has_dates c.args.round c.args.classes.now c.loop-class.class c.index-classes-class.result
    (given_states_view c.loop-class.given.items) (overflow_of c.in_err-give_suffixes.field-0.0) c.loop-class-test.true c.index-classes-class.is c.loop-class.invariant.1
    (rw (sym c.as_slice-cites.ensures.value) gave))
