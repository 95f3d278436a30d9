use Rattle.std.specs.Option.{ghost_name_of}
use borrow.Follows.Closed.{read_of}
use Rattle.rendering_people.proofs.FormsLent.{written, borrowed}
use Rattle.rendering_people.proofs.properties.NameDisambiguationProperties.get_form_mut.Goals as goal

pub returns : goal.returns
returns c =
    let f = c.self.inside in (
      (λ i. read_of (ghost_name_of c.get_mut.result) (λ w. written f.counts.items f.forms.items c.args.idx c.args.self.now c.self.invariant.people c.self.view_is w i) (c.self.view_is i)),
      record {
        writes_back = tt;
        value = borrowed f.counts.items f.forms.items c.args.idx c.args.self.now c.get_mut.result c.self.invariant.people c.self.view_is c.get_mut.ensures.item;
      },
    )
