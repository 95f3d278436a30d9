use Rattle.std.proofs.Common.{◌≡◌, ℕ, List, Ok, Result, sym, ap, subst, ◌∙◌}
use Rattle.std.specs.Str.{chars}
use Rattle.texts.specs.Views.{left}
use Rattle.laws.specs.Results.{EndsWith, Gives}
use Rattle.xml_text.specs.Prolog.{prolog_at}
use Rattle.xml_tree.specs.Building.{tree_of}
use Rattle.xml_tree.specs.Trees.{Element}
use Rattle.xml_tree.specs.Values.{Refusal}
use Rattle.xml_tree.specs.Views.{refusal_of, element_view, error_view}
use Rattle.xml_tree.specs.declared.error.TreeError.{TreeError}
use Rattle.xml_tree.proofs.Read.{placed_end, tree_after, tree_refused}
use Rattle.xml_tree.proofs.reading.read_text.Goals as goal

pub returns-in-Ok : goal.returns-in-Ok
returns-in-Ok c =
    let cs = chars c.args.text.now in
    let rest = left c.take_prolog.new.reader in
    let read : prolog_at cs ≡ Ok rest = ap prolog_at (sym c.new-reader.ensures) ∙ c.in-Ok.ensures.reading in
    subst (λ (r : Result Element Refusal). Gives refusal_of element_view c.read_rest.result r) (sym (tree_after cs rest read)) c.read_rest.ensures

pub returns-in-Err : goal.returns-in-Err
returns-in-Err c =
    let cs = chars c.args.text.now in
    let rest = left c.take_prolog.new.reader in
    let stop = placed_end c.in-Err.error rest (prolog_at (left c.new-reader.result)) c.in-Err.ensures.reading in
    let refusal = refusal_of (error_view c.in-Err.error rest) in
    subst (λ (e : TreeError). EndsWith (refusal_of e) (tree_of cs)) (sym c.stopped.ensures)
    (subst (λ (ds : List ℕ). EndsWith refusal (tree_of ds)) c.new-reader.ensures (tree_refused (left c.new-reader.result) refusal stop))
