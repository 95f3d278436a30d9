use Rattle.std.proofs.Common.{◌≡◌, ◌∷◌, [], Some, None, rules, ◌∙◌}
use Rattle.std.proofs.lemmas.Result.{IfOk-weaker}
use Rattle.literature_entries.specs.Views.{fields_view}
use Rattle.literature_values.specs.declared.entry_type.EntryType.TheVariants as types
use Rattle.rendering_entries.specs.Views.{entry_ancestry}
use Rattle.rendering_entries.specs.Works.{is_one_of, first_anthology, other_parents}
use Rattle.rendering_entries.proofs.WorksAnswers.{found_in_leading, found_behind}
use Rattle.rendering_entries.proofs.works.collection.Goals as goal

pub returns-in-Some : goal.returns-in-Some
returns-in-Some c =
    let s = entry_ancestry c.args.entry.now in
    let leading : Some (fields_view c.in-Some.work.now) ≡ first_anthology (other_parents s) = search rules in
    found_in_leading (is_one_of (types.Anthology ∷ [])) (other_parents s) s.further (fields_view c.in-Some.work.now) leading

pub returns-in-None : goal.returns-in-None
returns-in-None c =
    let s = entry_ancestry c.args.entry.now in
    let leading : None ≡ first_anthology (other_parents s) = search rules in
    IfOk-weaker c.further_anthology.result _ _ (λ w is. is ∙ found_behind (is_one_of (types.Anthology ∷ [])) (other_parents s) s.further leading) c.further_anthology.ensures
