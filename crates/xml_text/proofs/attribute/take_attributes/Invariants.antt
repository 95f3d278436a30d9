use Rattle.std.proofs.Common.{length}
use Rattle.laws.specs.Steps.{each}
use Rattle.texts.specs.Views.{left}
use Rattle.xml_text.specs.Tags.{next_attribute_at}
use Rattle.xml_text.specs.Views.{attributes_view}
use Rattle.laws.proofs.Gathering.{Gathers}
use Rattle.xml_text.proofs.attribute.take_attributes.Given as goal

abbrev pub invariant-loop-attributes : goal.invariant-loop-attributes
invariant-loop-attributes l = Gathers next_attribute_at (attributes_view l.attributes) (left l.reader) (each next_attribute_at (left l.fn.reader))

abbrev pub decreases-loop-attributes : goal.decreases-loop-attributes
decreases-loop-attributes l = length (left l.reader)
