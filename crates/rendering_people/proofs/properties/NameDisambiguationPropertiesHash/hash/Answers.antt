use Rattle.std.proofs.Common.{sym, ap, ◌∙◌}
use Rattle.std.proofs.lemmas.List.Sums.{fold-append}
use Rattle.std.specs.Hash.{slice}
use Rattle.rendering_people.specs.Counts.{counts_of}
use Rattle.rendering_people.specs.Properties.{all_forms}
use Rattle.rendering_people.proofs.CountsWhole.{all_forms-cut, counts_of-cut}
use Rattle.rendering_people.proofs.properties.NameDisambiguationPropertiesHash.hash.Goals as goal

pub returns : goal.returns
returns g c =
    let people = Rattle.rendering_people.specs.contracts.properties.PeopleCountHash.TheImpl.ghosts in
    let form = Rattle.rendering_taxonomy.specs.contracts.name.DisambiguatedNameFormHash.TheImpl.ghosts in
    let f = c.self.inside in
    let counts = sym (counts_of-cut f.counts.items f.forms.items c.self.invariant.people) ∙ ap counts_of c.self.view_is in
    let forms = sym (all_forms-cut f.counts.items f.forms.items c.self.invariant.people) ∙ ap all_forms c.self.view_is in
    rw (← counts, ← forms, c.hash-2.ensures, c.hash.ensures) (sym (fold-append g.H.Hasher.write c.args.state.now (slice (people.hash_input) f.counts.items) (slice (form.hash_input) f.forms.items)))
