use Rattle.std.proofs.Common.{◌+◌, ◌++◌, ℕ, List, drop, map, sym, ap, ◌∙◌, append_assoc}
use Rattle.std.proofs.lemmas.List.{at_drop_more}
use Rattle.cite_markers.specs.Views.{cite_view}
use Rattle.cite_markers.specs.declared.marker.Cite.{Cite}
use Rattle.cite_uses.specs.Alike.{names_of, now_of}
use Rattle.cite_uses.proofs.names.push_names_of.Goals as goal

pub loop-cite-preserved : goal.loop-cite-preserved
loop-cite-preserved c =
    let i = c.loop-cite.cite-index in
    let before = map now_of c.loop-cite.names.items in
    let rest = names_of (map cite_view (drop (i + 1) c.args.cites.now)) in
    ap (λ (ns : List (List ℕ)). ns ++ rest) c.in_ok-push_name.ensures
    ∙ append_assoc before _ rest
    ∙ ap (λ (ns : List (List ℕ)). before ++ ns) (sym (at_drop_more (λ (cs : List Cite). names_of (map cite_view cs)) c.args.cites.now i _ c.loop-cite-test.true))
    ∙ c.loop-cite.invariant
