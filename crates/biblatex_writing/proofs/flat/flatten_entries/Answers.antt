use Rattle.std.proofs.Common.{◌<◌, length, get_or, set, sym, ap, ◌∙◌, arith}
use Rattle.std.proofs.lemmas.List.{map-set, length-map, length-set, get_or-map}
use Rattle.std.proofs.lemmas.List.Edits.{map_over_more}
use Rattle.biblatex_entries.specs.Entries.{Source, source_view, sources_view}
use Rattle.biblatex_writing.specs.Flat.{flat_entry}
use Rattle.biblatex_writing.proofs.flat.flatten_entries.Goals as goal

pub loop-index-preserved : goal.loop-index-preserved
loop-index-preserved c =
    let es = c.loop-index.entries in
    let all = sources_view c.args.entries.now in
    let i = c.loop-index.index in
    let old = get_or es i c.index-entries-index.result in
    let new = c.flatten_entry.new.entry in
    let there : i < length es = omega (arith, c.loop-index-test.true, c.loop-index.invariant.1) in
    let below : i < length all = omega (arith, there, c.loop-index.invariant.1, length-map c.args.entries.now source_view) in
    let is = sym (get_or-map source_view es i c.index-entries-index.result (source_view old) there) in (
      map-set source_view es i new
          ∙ (ap (λ (e : Source). set (sources_view es) i e) c.flatten_entry.ensures ∙ map_over_more flat_entry all (sources_view es) i (source_view old) below c.loop-index.invariant.0 is),
      length-set es i new ∙ c.loop-index.invariant.1,
    )
