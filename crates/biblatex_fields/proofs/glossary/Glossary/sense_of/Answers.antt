use Rattle.std.proofs.Common.{◌≡◌, ◌<◌, Some, length, map, sym, subst, ◌∙◌}
use Rattle.biblatex_text.specs.Views.{field_view}
use Rattle.biblatex_fields.specs.Abbreviations.{Glossary, index_of}
use Rattle.biblatex_fields.proofs.AbbreviationsGraph.{index_within}
use Rattle.biblatex_fields.proofs.glossary.Glossary.sense_of.Goals as goal

pub defined-requires : goal.defined-requires
defined-requires c =
    let ds = map field_view c.self.inside.definitions.now in
    let found : index_of c.as_str.result.now ds ≡ Some c.in-Some.field-0.now = sym (c.self.invariant.0 c.as_str.result.now) ∙ sym c.in-Some.ensures.value in
    subst (λ (g : Glossary). c.in-Some.field-0.now < length g.definitions) c.self.view_is (index_within c.as_str.result.now ds c.in-Some.field-0.now found)
