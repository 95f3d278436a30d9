use Rattle.std.proofs.Common.{Some, ◌≡◌, ◌∙◌, ap, rules}
use Rattle.std.specs.List.{flat_map}
use Rattle.laws.specs.Borrowed.{borrowed}
use Rattle.literature_entries.specs.Views.{parents}
use Rattle.literature_entries.proofs.AncestorsWalks.{levels_below, asks_none, asks_level_answered, asks_level_on}
use Rattle.literature_entries.proofs.entry.Entry.map_parents.Goals as goal

pub returns-in-Some : goal.returns-in-Some
returns-in-Some g c =
    record {
      last = c.first_answer-answer.result.1;
      asked = c.loop-alloc.invariant.1 (Some c.in-Some.answer) c.first_answer-answer.result.1
          (asks_level_answered _ c.loop-alloc.f c.first_answer-answer.result.1 _ c.loop-alloc.level.items c.first_answer-answer.result.0 c.in-Some.answer c.as_slice.ensures.value c.in-Some.is c.first_answer-answer.ensures.asked);
    }

pub returns : goal.returns
returns g c =
    let none = c.loop-alloc-test.false in
    record { last = c.loop-alloc.f; asked = c.loop-alloc.invariant.1 _ c.loop-alloc.f (asks_none _ c.loop-alloc.f c.loop-alloc.level.items (search (rules, none))) }

pub loop-alloc-smaller : goal.loop-alloc-smaller
loop-alloc-smaller g c =
    let next : borrowed c.in_ok-level.level.items ≡ flat_map parents (borrowed c.loop-alloc.level.items) = c.in_ok-level.ensures ∙ ap (λ bs. flat_map parents (borrowed bs)) c.as_slice-in-loop-alloc.ensures.value in
    let some = c.loop-alloc-test.true in
    levels_below c.loop-alloc.level.items _ (search (rules, some)) next

pub loop-alloc-preserved : goal.loop-alloc-preserved
loop-alloc-preserved g c =
    let next : borrowed c.in_ok-level.level.items ≡ flat_map parents (borrowed c.loop-alloc.level.items) = c.in_ok-level.ensures ∙ ap (λ bs. flat_map parents (borrowed bs)) c.as_slice-in-loop-alloc.ensures.value in (
      c.first_answer-answer.ensures.callable,
      λ answer last asks.
          c.loop-alloc.invariant.1 answer last
          (asks_level_on _ c.loop-alloc.f c.first_answer-answer.result.1 last _ c.loop-alloc.level.items _ c.first_answer-answer.result.0 answer c.as_slice.ensures.value c.in_default.is c.first_answer-answer.ensures.asked next asks),
    )
