use Rattle.std.proofs.Common.{◌≡◌, ◌<◌, ◌+◌, ◌-◌, ℕ, List, Option, length, take, take_all, sym, ap, ◌∙◌, arith}
use Rattle.std.specs.Option.{option_map, option_or}
use Rattle.laws.specs.Text.{spelled}
use Rattle.xml_tree.specs.Building.{scope_of}
use Rattle.xml_tree.specs.Views.{opens_of}
use Rattle.xml_tree.specs.declared.building.Open.{Open}
use Rattle.xml_tree.proofs.Stacks.{around_next}
use Rattle.xml_tree.proofs.building.found_around.Goals as goal

pub loop-count-init : goal.loop-count-init
loop-count-init c =
    let p = option_map spelled c.args.prefix in
    record { few = omega arith; same = ap (λ (os : List Open). scope_of (opens_of os) p) (take_all (length c.args.opens.now) c.args.opens.now (omega arith)) }

pub loop-count-preserved : goal.loop-count-preserved
loop-count-preserved c =
    let p = option_map spelled c.args.prefix in
    let os = c.args.opens.now in
    let n = c.loop-count.count in
    let next : (n - 1) + 1 ≡ n = omega (arith, c.loop-count-test.true) in
    let less : n - 1 < length os = omega (arith, c.loop-count-test.true, c.loop-count.invariant.few) in
    let x = c.index-opens-count.result in
    record {
      few = omega (arith, c.loop-count.invariant.few);
      same = ap (λ (o : Option (Option (List ℕ))). option_or o (scope_of (opens_of (take (n - 1) os)) p)) c.in-None.ensures
          ∙ (sym (around_next os (n - 1) n x p next less) ∙ c.loop-count.invariant.same);
    }

pub returns-in-Some : goal.returns-in-Some
returns-in-Some c =
    let p = option_map spelled c.args.prefix in
    let os = c.args.opens.now in
    let n = c.loop-count.count in
    let next : (n - 1) + 1 ≡ n = omega (arith, c.loop-count-test.true) in
    let less : n - 1 < length os = omega (arith, c.loop-count-test.true, c.loop-count.invariant.few) in
    let x = c.index-opens-count.result in
    ap (λ (o : Option (Option (List ℕ))). option_or o (scope_of (opens_of (take (n - 1) os)) p)) c.in-Some.ensures
    ∙ (sym (around_next os (n - 1) n x p next less) ∙ c.loop-count.invariant.same)

pub returns : goal.returns
returns c =
    let p = option_map spelled c.args.prefix in
    let none : c.loop-count.count ≡ 0 = omega (arith, c.loop-count-test.false) in
    sym (ap (λ (n : ℕ). scope_of (opens_of (take n c.args.opens.now)) p) none) ∙ c.loop-count.invariant.same
