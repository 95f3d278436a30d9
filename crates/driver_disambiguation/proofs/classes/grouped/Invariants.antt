use Rattle.std.proofs.Common.{◌≡◌, ℕ, length, map, take}
use Rattle.std.specs.List.{zip}
use Rattle.driver_disambiguation.specs.Grouping.{allowing, of_number, seconds, under}
use Rattle.driver_disambiguation.proofs.classes.grouped.Given as goal

abbrev pub invariant-loop-index : goal.invariant-loop-index
invariant-loop-index l = record {
  members : (n : ℕ) → map (λ s. s.now) (under l.members.items n) ≡ of_number n (allowing (take l.index (zip l.numbers l.cites)));
  shared : l.shared.items ≡ seconds (allowing (take l.index (zip l.numbers l.cites)));
  many : length l.members.items ≡ l.count;
}
