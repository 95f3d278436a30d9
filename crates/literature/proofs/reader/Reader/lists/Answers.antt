use Rattle.std.proofs.Common.{◌<◌, ◌≤◌, ℕ, List, Ok, length, map, ap, subst, sym, ◌∙◌, arith}
use Rattle.std.proofs.lemmas.List.{map-append, append-nil}
use Rattle.std.proofs.lemmas.Result.{err_from_is_err_and}
use Rattle.laws.proofs.Results.{if_ok_at}
use Rattle.literature.specs.Reading.{names_at}
use Rattle.literature.specs.Views.{left, fault}
use Rattle.laws.specs.Characters.{open_bracket}
use Rattle.laws.specs.Results.{EndsWith}
use Rattle.laws.specs.Text.{characters}
use Rattle.literature.proofs.ReadingRepeats.{taken_less, AtMost}
use Rattle.literature.proofs.ReadingLevels.{names_leaves, lists_go_on, lists_end, lists_fail}
use Rattle.literature.proofs.reader.Reader.lists.Goals as goal

pub returns-in_err-list : goal.returns-in_err-list
returns-in_err-list c =
    let p = err_from_is_err_and c.from_residual.result c.from_residual.ensures.1 in
    let o = fault c.in_err-list.field-0.0 in
    let bracket = rw c.loop-alloc-test.true at c.take.ensures in
    rw (p.1, p.2) (subst (λ r. EndsWith o r) c.loop-alloc.invariant (lists_fail (map characters c.loop-alloc.names.items) (left c.loop-alloc.self) (left c.take.new.self) o bracket c.in_err-list.ensures))

pub loop-alloc-smaller : goal.loop-alloc-smaller
loop-alloc-smaller c =
    let bracket = rw c.loop-alloc-test.true at c.take.ensures in
    let list = map characters c.in_ok-list.list.items in
    let fewer : length (left c.names.new.self) ≤ length (left c.take.new.self) = if_ok_at (AtMost (length (left c.take.new.self))) (names_at (left c.take.new.self)) (list, left c.names.new.self) c.in_ok-list.ensures (names_leaves (left c.take.new.self)) in
    let less : length (left c.names.new.self) < length (left c.loop-alloc.self) = omega (arith, taken_less open_bracket (left c.loop-alloc.self) (left c.take.new.self) bracket) in
    less

pub loop-alloc-preserved : goal.loop-alloc-preserved
loop-alloc-preserved c =
    let bracket = rw c.loop-alloc-test.true at c.take.ensures in
    let names = c.loop-alloc.names.items in
    let list = c.in_ok-list.list.items in
    rw (c.in_ok-append.ensures.items, map-append characters names list)
    (sym (lists_go_on (map characters names) (map characters list) (left c.loop-alloc.self) (left c.take.new.self) (left c.names.new.self) bracket c.in_ok-list.ensures) ∙ c.loop-alloc.invariant)

pub returns : goal.returns
returns c =
    let bracket = rw c.loop-alloc-test.false at c.take.ensures in
    let names = map characters c.loop-alloc.names.items in
    sym c.loop-alloc.invariant ∙ lists_end names (left c.loop-alloc.self) (left c.take.new.self) bracket ∙ ap (λ (ns : List (List ℕ)). Ok (ns, left c.take.new.self)) (append-nil names)
