use Rattle.std.proofs.Common.{◌≡◌, ◌<◌, ◌≤◌, length, map, subst, sym, ◌∙◌, arith}
use Rattle.std.proofs.lemmas.List.{map_push}
use Rattle.std.proofs.lemmas.Result.{err_from_is_err_and}
use Rattle.laws.proofs.Results.{if_ok_at}
use Rattle.literature.specs.Trees.{one_or_alternatives, one_or_multi}
use Rattle.literature.specs.Reading.{unary_in, level}
use Rattle.literature.specs.Views.{left, tree_view, fault}
use Rattle.laws.specs.Characters.{ampersand, vertical_bar}
use Rattle.laws.specs.Results.{EndsWith, GivesRest}
use Rattle.literature.proofs.ReadingRepeats.{taken_less, AtMost, prepended_goes_on, prepended_stops, prepended_fails, parted_ends, parted_fails_later}
use Rattle.literature.proofs.ReadingLevels.{unary_leaves, level_leaves, no_level_unary, no_level_ancestry, unary_below, ancestry_below}
use Rattle.literature.proofs.reader.Reader.+selector.Goals as goal

pub alternatives-returns-in_err-ancestry : goal.alternatives-returns-in_err-ancestry
alternatives-returns-in_err-ancestry below c =
    let p = err_from_is_err_and c.from_residual-in_err-ancestry.result c.from_residual-in_err-ancestry.ensures.1 in
    let o = fault c.in_err-ancestry.field-0.0 in
    let here = rw c.loop-alloc-test.true at c.take.ensures in
    let read = (level c.args.levels).ancestry in
    let later = subst (λ r. EndsWith o r) c.loop-alloc.invariant.reads (prepended_fails vertical_bar read (map tree_view c.loop-alloc.others.items) (left c.loop-alloc.self) (left c.take.new.self) o here c.in_err-ancestry.ensures) in
    rw (p.1, p.2) (parted_fails_later vertical_bar one_or_alternatives read (left c.args.self.now) (left c.ancestry.new.self) (tree_view c.in_ok-first.first) o c.in_ok-first.ensures later)

pub alternatives-loop-alloc-smaller : goal.alternatives-loop-alloc-smaller
alternatives-loop-alloc-smaller below c =
    let here = rw c.loop-alloc-test.true at c.take.ensures in
    let rest = left c.take.new.self in
    let more = left c.ancestry-in-loop-alloc.new.self in
    let read = (level c.args.levels).ancestry in
    let fewer : length more ≤ length rest = if_ok_at (AtMost (length rest)) (read rest) (tree_view c.in_ok-ancestry.field-0, more) c.in_ok-ancestry.ensures ((level_leaves c.args.levels).ancestry rest) in
    let less : length more < length (left c.loop-alloc.self) = omega (arith, taken_less vertical_bar (left c.loop-alloc.self) rest here) in
    less

pub alternatives-loop-alloc-preserved : goal.alternatives-loop-alloc-preserved
alternatives-loop-alloc-preserved below c =
    let here = rw c.loop-alloc-test.true at c.take.ensures in
    let others = c.loop-alloc.others.items in
    let one = c.in_ok-ancestry.field-0 in
    let read = (level c.args.levels).ancestry in
    record {
      first = c.loop-alloc.invariant.first;
      reads = rw (c.in_ok-push.ensures.items, map_push tree_view others one) (sym (prepended_goes_on vertical_bar read ((level_leaves c.args.levels).ancestry) (map tree_view others) (left c.loop-alloc.self) (left c.take.new.self) (left c.ancestry-in-loop-alloc.new.self) (tree_view one) here c.in_ok-ancestry.ensures) ∙ c.loop-alloc.invariant.reads);
    }

pub alternatives-returns : goal.alternatives-returns
alternatives-returns below c =
    let here = rw c.loop-alloc-test.false at c.take.ensures in
    let others = map tree_view c.loop-alloc.others.items in
    let read = (level c.args.levels).ancestry in
    rw (c.in_ok-one_or_alternatives.ensures, c.loop-alloc.invariant.first)
    (parted_ends vertical_bar one_or_alternatives read (left c.args.self.now) (left c.ancestry.new.self) (left c.take.new.self) (tree_view c.in_ok-first.first) others c.in_ok-first.ensures
    (sym c.loop-alloc.invariant.reads ∙ prepended_stops vertical_bar read others (left c.loop-alloc.self) (left c.take.new.self) here))

pub multi-returns-in_err-unary_in : goal.multi-returns-in_err-unary_in
multi-returns-in_err-unary_in below c =
    let p = err_from_is_err_and c.from_residual-in_err-unary_in.result c.from_residual-in_err-unary_in.ensures.1 in
    let o = fault c.in_err-unary_in.field-0.0 in
    let here = rw c.loop-alloc-test.true at c.take.ensures in
    let read = unary_in (level c.args.levels) in
    let later = subst (λ r. EndsWith o r) c.loop-alloc.invariant.reads (prepended_fails ampersand read (map tree_view c.loop-alloc.others.items) (left c.loop-alloc.self) (left c.take.new.self) o here c.in_err-unary_in.ensures) in
    rw (p.1, p.2) (parted_fails_later ampersand one_or_multi read (left c.args.self.now) (left c.unary_in.new.self) (tree_view c.in_ok-first.first) o c.in_ok-first.ensures later)

pub multi-loop-alloc-smaller : goal.multi-loop-alloc-smaller
multi-loop-alloc-smaller below c =
    let here = rw c.loop-alloc-test.true at c.take.ensures in
    let rest = left c.take.new.self in
    let more = left c.unary_in-in-loop-alloc.new.self in
    let read = unary_in (level c.args.levels) in
    let fewer : length more ≤ length rest = if_ok_at (AtMost (length rest)) (read rest) (tree_view c.in_ok-unary_in.field-0, more) c.in_ok-unary_in.ensures (unary_leaves (level c.args.levels) (level_leaves c.args.levels) rest) in
    let less : length more < length (left c.loop-alloc.self) = omega (arith, taken_less ampersand (left c.loop-alloc.self) rest here) in
    less

pub multi-loop-alloc-preserved : goal.multi-loop-alloc-preserved
multi-loop-alloc-preserved below c =
    let here = rw c.loop-alloc-test.true at c.take.ensures in
    let others = c.loop-alloc.others.items in
    let one = c.in_ok-unary_in.field-0 in
    let read = unary_in (level c.args.levels) in
    record {
      first = c.loop-alloc.invariant.first;
      reads = rw (c.in_ok-push.ensures.items, map_push tree_view others one) (sym (prepended_goes_on ampersand read (unary_leaves (level c.args.levels) (level_leaves c.args.levels)) (map tree_view others) (left c.loop-alloc.self) (left c.take.new.self) (left c.unary_in-in-loop-alloc.new.self) (tree_view one) here c.in_ok-unary_in.ensures) ∙ c.loop-alloc.invariant.reads);
    }

pub multi-returns : goal.multi-returns
multi-returns below c =
    let here = rw c.loop-alloc-test.false at c.take.ensures in
    let others = map tree_view c.loop-alloc.others.items in
    let read = unary_in (level c.args.levels) in
    rw (c.in_ok-one_or_multi.ensures, c.loop-alloc.invariant.first)
    (parted_ends ampersand one_or_multi read (left c.args.self.now) (left c.unary_in.new.self) (left c.take.new.self) (tree_view c.in_ok-first.first) others c.in_ok-first.ensures
    (sym c.loop-alloc.invariant.reads ∙ prepended_stops ampersand read others (left c.loop-alloc.self) (left c.take.new.self) here))

pub ancestry-returns-then-levels-eq0 : goal.ancestry-returns-then-levels-eq0
ancestry-returns-then-levels-eq0 below c =
    let none : c.args.levels ≡ 0 = omega arith in
    no_level_ancestry c.args.levels (left c.args.self.now) none

pub ancestry-returns : goal.ancestry-returns
ancestry-returns below c =
    let some : 0 < c.args.levels = omega arith in
    subst (λ r. GivesRest fault tree_view c.ancestry_in.result (left c.ancestry_in.new.self) r) (sym (ancestry_below c.args.levels (left c.args.self.now) some)) c.ancestry_in.ensures

pub unary-returns-then-levels-eq0 : goal.unary-returns-then-levels-eq0
unary-returns-then-levels-eq0 below c =
    let none : c.args.levels ≡ 0 = omega arith in
    no_level_unary c.args.levels (left c.args.self.now) none

pub unary-returns : goal.unary-returns
unary-returns below c =
    let some : 0 < c.args.levels = omega arith in
    subst (λ r. GivesRest fault tree_view c.unary_in.result (left c.unary_in.new.self) r) (sym (unary_below c.args.levels (left c.args.self.now) some)) c.unary_in.ensures
