use Rattle.std.proofs.Common.{map, sym, ap, ◌∙◌}
use Rattle.driver_disambiguation.specs.Numbered.{number_of}
use Rattle.driver_disambiguation.proofs.Numbering.{no_texts}
use Rattle.driver_disambiguation.proofs.printed_cites.PrintedCites.new.Goals as goal

pub numbers_of-requires : goal.numbers_of-requires
numbers_of-requires c = no_texts c.new-texts.result c.new-texts.ensures.empty

pub invariant_of-result : goal.invariant_of-result
invariant_of-result c = record { numbered = (c.numbers_of.ensures.texts, ap (map (number_of c.numbers_of.new.texts)) (sym c.as_slice.ensures.value) ∙ c.in_ok-numbers.ensures.numbers) }
