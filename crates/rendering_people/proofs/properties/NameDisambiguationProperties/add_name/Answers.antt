use Rattle.std.proofs.Common.{arith, ◌≡◌, length, map, sym, ap, subst, ◌∙◌}
use Rattle.std.specs.Prelude.{nat_lt}
use Rattle.std.specs.List.{list_any}
use Rattle.std.specs.Vec.{with_items}
use Rattle.std.proofs.lemmas.List.{length-map, with_items_is}
use Rattle.rendering_people.specs.Counts.{cut, counted, IsWhole}
use Rattle.rendering_people.specs.Properties.{adds_name, with_name}
use Rattle.rendering_people.specs.declared.properties.PeopleCount.{PeopleCount}
use Rattle.rendering_people.proofs.CountsWhole.{adds-counted, cut-counted, whole-counted}
use Rattle.rendering_people.proofs.properties.NameDisambiguationProperties.add_name.Goals as goal

pub invariant_of-self : goal.invariant_of-self
invariant_of-self c =
    let f = c.self.inside in
    let num = c.args.num in
    let len : length c.as_mut_slice.result.now ≡ f.counts.len = omega (arith, c.as_mut_slice.ensures.len, ap length c.as_mut_slice.ensures.value) in
    let long : length c.show_at_least.new.counts ≡ f.counts.len = ap length c.show_at_least.ensures.after ∙ length-map c.as_mut_slice.result.now (counted num) ∙ len in
    let items : (with_items f.counts c.show_at_least.new.counts).items ≡ map (counted num) f.counts.items =
    with_items_is f.counts c.show_at_least.new.counts long ∙ c.show_at_least.ensures.after ∙ ap (map (counted num)) c.as_mut_slice.ensures.value in
    subst (λ cs. IsWhole cs f.forms.items) (sym items) (whole-counted num f.counts.items f.forms.items c.self.invariant)

pub returns-clause-properties : goal.returns-clause-properties
returns-clause-properties c =
    let f = c.self.inside in
    let num = c.args.num in
    let len : length c.as_mut_slice.result.now ≡ f.counts.len = omega (arith, c.as_mut_slice.ensures.len, ap length c.as_mut_slice.ensures.value) in
    let long : length c.show_at_least.new.counts ≡ f.counts.len = ap length c.show_at_least.ensures.after ∙ length-map c.as_mut_slice.result.now (counted num) ∙ len in
    let items : (with_items f.counts c.show_at_least.new.counts).items ≡ map (counted num) f.counts.items =
    with_items_is f.counts c.show_at_least.new.counts long ∙ c.show_at_least.ensures.after ∙ ap (map (counted num)) c.as_mut_slice.ensures.value in
    ap (λ cs. cut cs f.forms.items) items
    ∙ cut-counted num f.counts.items f.forms.items c.self.invariant.people
    ∙ ap (with_name num) c.self.view_is

pub returns-clause-changed : goal.returns-clause-changed
returns-clause-changed c =
    let f = c.self.inside in
    let num = c.args.num in
    c.show_at_least.ensures.changed ∙ ap (list_any (λ (d : PeopleCount). nat_lt d.shown (counted num d).shown)) c.as_mut_slice.ensures.value
    ∙ adds-counted num f.counts.items f.forms.items c.self.invariant.people ∙ ap (adds_name num) c.self.view_is
