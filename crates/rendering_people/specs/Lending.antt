-- What properties are after one of their forms was changed.
use Rattle.std.specs.Prelude.{ℕ, Option}
use Rattle.std.specs.Borrow.{LendsIf, MutBor, Fml}
use Rattle.rendering_taxonomy.specs.contracts.name.DisambiguatedNameForm as forms
use Rattle.rendering_taxonomy.specs.declared.name.DisambiguatedNameForm.{DisambiguatedNameForm}
use Rattle.rendering_people.specs.Properties.{Properties, with_form}
use Rattle.rendering_people.specs.contracts.properties.NameDisambiguationProperties.{the_row}

-- the form of the person at an index is borrowed; where there is none, all stays as it was
abbrev pub LendsForm : MutBor Properties → ℕ → Option (MutBor DisambiguatedNameForm) → Fml
LendsForm ps i r = LendsIf the_row forms.the_row ps r (λ f. with_form i f ps.now) ps.now
