use Rattle.std.proofs.Common.{◌+◌, ◌≤◌, ℕ, List, length, map, ap, subst, ◌∙◌, Vec}
use Rattle.std.proofs.lemmas.List.{length-map}
use Rattle.std.specs.Global.{Global}
use Rattle.driver_disambiguation.specs.Rounds.{names_given}
use Rattle.driver_rounds.specs.CitesInStep.{all_cites}
use Rattle.driver_rounds.specs.FirstPrints.{printed_undisambiguated, with_first_names}
use Rattle.driver_rounds.specs.Naming.{states_by}
use Rattle.driver_rounds.specs.declared.cite.NumberedCite.{NumberedCite}
use Rattle.driver_rounds.proofs.NamingSteps.{cites_named_again, named_lengths}
use Rattle.driver_rounds.proofs.first_names.names_given.Goals as goal

pub first_prints-requires : goal.first_prints-requires
first_prints-requires g c = record {
  contexts = c.requires.contexts;
  runs = ap (λ (vs : List (Vec NumberedCite Global)). map (λ (v : Vec NumberedCite Global). length v.items) vs) c.deref.ensures.value
      ∙ named_lengths (states_by c.args.states) c.args.cites.runs.now c.in_ok-runs.runs.items c.in_ok-runs.ensures
      ∙ c.requires.runs;
}

pub returns-clause-given : goal.returns-clause-given
returns-clause-given g c =
    let again = cites_named_again g.T.EntryLike.answers (states_by c.args.states) c.args.cites.requests.now c.args.cites.runs.now c.in_ok-runs.runs.items c.deref.result.now c.deref.ensures.value c.in_ok-runs.ensures in
    c.in_ok-given.ensures
    ∙ ap (names_given c.args.adds_names) (c.in_ok-compared.ensures ∙ c.in_ok-prints.ensures.printed ∙ ap (map printed_undisambiguated) again)

pub returns-clause-effort : goal.returns-clause-effort
returns-clause-effort g c =
    let again = cites_named_again g.T.EntryLike.answers (states_by c.args.states) c.args.cites.requests.now c.args.cites.runs.now c.in_ok-runs.runs.items c.deref.result.now c.deref.ensures.value c.in_ok-runs.ensures in
    let many = ap length again ∙ length-map (all_cites g.T.EntryLike.answers c.args.cites) (with_first_names (states_by c.args.states)) in
    subst (λ (n : ℕ). c.first_prints.new.effort ≤ c.args.effort.now + n) many c.in_ok-prints.ensures.effort
