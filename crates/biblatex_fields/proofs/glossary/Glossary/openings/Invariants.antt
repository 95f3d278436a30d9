use Rattle.biblatex_fields.specs.Openings.{AreOpenings}
use Rattle.biblatex_fields.proofs.glossary.Glossary.openings.Given as goal

abbrev pub invariant-loop-index : goal.invariant-loop-index
invariant-loop-index l = AreOpenings l.self l.is_verbatim l.resolved l.openings.items
