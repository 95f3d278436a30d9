use Rattle.std.proofs.Common.{◌+◌, ◌++◌, List, chars, drop, flat_map, map, sym, ◌∙◌, rules}
use Rattle.std.proofs.lemmas.List.{at_drop_more}
use Rattle.cite_markers.specs.Views.{cite_view}
use Rattle.cite_markers.specs.declared.marker.Cite.{Cite}
use Rattle.fault_lines.specs.Views.{lines_view}
use Rattle.cite_csl.specs.Names.{name_lines, names_in}
use Rattle.cite_csl.specs.Views.{cited_view}
use Rattle.cite_csl_styles.specs.Views.{source_view}
use Rattle.cite_csl.proofs.Naming.{name_more}
use Rattle.cite_csl.proofs.named.push_unknown_in.Goals as goal

pub loop-cite-preserved : goal.loop-cite-preserved
loop-cite-preserved c =
    let say = name_lines (source_view c.args.file) (cited_view c.args.works) in
    let i = c.loop-cite.cite-index in
    let xs = c.args.cites.now in
    let lines = lines_view c.loop-cite.lines in
    let cs = chars c.loop-cite.rest.now in
    let cut = at_drop_more (λ (ys : List Cite). lines ++ flat_map say (names_in (map cite_view ys) cs)) xs i _ c.loop-cite-test.true in
    (name_more say lines _ _ _ (map cite_view (drop (i + 1) xs)) cs _ _ (sym cut ∙ c.loop-cite.invariant.0) c.left_at_sign.ensures c.in_ok-push_unknown.ensures.lines c.past_first-rest.ensures (search rules), search rules, c.in_ok-push_unknown.ensures.place)
