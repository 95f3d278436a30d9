use Rattle.std.proofs.Common.{◌≡◌, ◌+◌, ◌++◌, ◌∷◌, [], List, Some, length, take, get_or, map, string_bytes, sym, ap, ◌∙◌, arith, add-one, length-take-le, take-suc}
use Rattle.std.specs.BTreeMap.{get_by_text}
use Rattle.std.proofs.lemmas.Map.Text.{btree_map_updates_text}
use Rattle.biblatex_text.specs.Views.{field_view}
use Rattle.biblatex_text.specs.declared.raw.Pair.{Pair}
use Rattle.biblatex_fields.specs.Abbreviations.{index_of}
use Rattle.biblatex_fields.proofs.AbbreviationsIndexes.{index_put}
use Rattle.biblatex_fields.proofs.glossary.indices_of.Goals as goal

pub loop-index-preserved : goal.loop-index-preserved
loop-index-preserved c = λ q.
    let ds = c.args.definitions.now in
    let d = c.index-definitions-index.result in
    let n = c.loop-index.index in
    let at = get_or ds n d in
    let found = btree_map_updates_text (string_bytes c.in_ok-name.name) c.loop-index.indices c.insert.new.self (Some n) c.in_ok-insert.ensures.updates q in
    let count : n ≡ length (take n ds) = sym (length-take-le n ds (omega (arith, c.loop-index-test.true))) in
    let longer : take (n + 1) ds ≡ take n ds ++ at ∷ [] = rw (add-one n) (take-suc ds n d c.loop-index-test.true) in
    found ∙ (index_put (get_by_text c.loop-index.indices q) q (string_bytes c.in_ok-name.name) n (take n ds) at (c.loop-index.invariant q) c.in_ok-name.ensures count
    ∙ ap (λ (ps : List Pair). index_of q (map field_view ps)) (sym longer))
