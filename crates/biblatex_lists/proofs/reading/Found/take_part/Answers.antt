use Rattle.std.proofs.Common.{◌≡◌, true, map, sym, ap, ◌∙◌}
use Rattle.biblatex_lists.specs.Reading.{is_someone, is_named}
use Rattle.biblatex_lists.specs.Views.{named_view}
use Rattle.biblatex_lists.proofs.ViewsLists.{people_more, ends_in_last}
use Rattle.biblatex_lists.proofs.reading.Found.take_part.Goals as goal

pub returns : goal.returns
returns c = λ ps f.
    let someone : is_someone c.args.part.now ≡ true = ap is_named (sym c.in_ok-person.ensures) ∙ (sym c.is_named.ensures ∙ c.if-not-is_named.false) in
    rw someone (record {
      people = ap (map named_view) c.in_ok-push.ensures.items ∙ people_more _ _ ps c.args.part.now f.people c.in_ok-person.ensures;
      ends = c.is_others-self.ensures ∙ sym (ends_in_last ps c.args.part.now);
    })
