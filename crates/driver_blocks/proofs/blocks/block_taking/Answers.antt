use Rattle.std.specs.Global.{Global}
use Rattle.std.proofs.Common.{◌≡◌, ◌<◌, ℕ, [], All, length, map, sym, ap, subst, ◌∙◌, Option, Some, None, Vec}
use Rattle.std.specs.BTreeMap.{get_by_text}
use Rattle.std.specs.Option.{option_copied, option_map_or}
use Rattle.std.specs.Prelude.{find, slice_get, slice_index_or}
use Rattle.std.proofs.lemmas.List.{length-map}
use Rattle.driver_blocks.specs.Blocks.{is_of_block}
use Rattle.driver_blocks.specs.Indexed.{indices_of}
use Rattle.driver_blocks.specs.Views.{blocks_view, gathered_view, takes}
use Rattle.driver_blocks.specs.declared.cite.Gathered.{Gathered}
use Rattle.driver_blocks.proofs.IndexedSteps.{found, found_by_text, indices_within}
use Rattle.driver_blocks.proofs.blocks.block_taking.Goals as goal

pub taking_among-requires : goal.taking_among-requires
taking_among-requires c =
    let bs = c.args.blocks.now in
    let by_text = c.args.by_text in
    let q = c.args.key.now in
    let value : get_by_text c.args.table.now q ≡ Some c.in-Some.indices.now = sym c.get.ensures.value ∙ ap option_copied c.in-Some.is in
    let indices : c.deref-else-by_text.result.now ≡ indices_of by_text q 0 (blocks_view bs) =
    c.deref-else-by_text.ensures.value ∙ sym (ap (λ (o : Option (Vec ℕ Global)). option_map_or (λ (v : Vec ℕ Global). v.items) o []) value) ∙ c.requires.table q in
    subst (All (λ p. p < length bs)) (sym indices) (indices_within by_text q (blocks_view bs) (length bs) (length-map bs (λ (b : Vec Gathered Global). map gathered_view b.items)))

pub returns-then-by_text : goal.returns-then-by_text
returns-then-by_text c =
    let bs = blocks_view c.args.blocks.now in
    let by_text = c.args.by_text in
    let q = c.args.key.now in
    let x = gathered_view c.args.cite.now in
    let value : get_by_text c.args.table.now q ≡ Some c.in-Some.indices.now = sym c.get.ensures.value ∙ ap option_copied c.in-Some.is in
    let indices : c.deref.result.now ≡ indices_of by_text q 0 bs =
    c.deref.ensures.value ∙ sym (ap (λ (o : Option (Vec ℕ Global)). option_map_or (λ (v : Vec ℕ Global). v.items) o []) value) ∙ c.requires.table q in
    c.copied.ensures ∙ c.first.ensures.value ∙ ap (λ ps. slice_get ps 0) indices ∙ found_by_text by_text x q c.if-by_text.true c.requires.key bs

pub returns-else-by_text : goal.returns-else-by_text
returns-else-by_text c =
    let bs = blocks_view c.args.blocks.now in
    let by_text = c.args.by_text in
    let q = c.args.key.now in
    let x = gathered_view c.args.cite.now in
    let value : get_by_text c.args.table.now q ≡ Some c.in-Some.indices.now = sym c.get.ensures.value ∙ ap option_copied c.in-Some.is in
    let indices : c.deref-else-by_text.result.now ≡ indices_of by_text q 0 bs =
    c.deref-else-by_text.ensures.value ∙ sym (ap (λ (o : Option (Vec ℕ Global)). option_map_or (λ (v : Vec ℕ Global). v.items) o []) value) ∙ c.requires.table q in
    c.taking_among.ensures
    ∙ (λ k. find (λ p. takes (is_of_block (sym c.if-by_text.false k)) (slice_index_or bs p []) x) (indices k))
    ∙ found by_text x q c.requires.key bs

pub returns-in-None : goal.returns-in-None
returns-in-None c =
    let bs = blocks_view c.args.blocks.now in
    let by_text = c.args.by_text in
    let q = c.args.key.now in
    let x = gathered_view c.args.cite.now in
    let value : get_by_text c.args.table.now q ≡ None = sym c.get.ensures.value ∙ ap option_copied c.in-None.is in
    let indices : [] ≡ indices_of by_text q 0 bs = sym (ap (λ (o : Option (Vec ℕ Global)). option_map_or (λ (v : Vec ℕ Global). v.items) o []) value) ∙ c.requires.table q in
    ap (find (λ p. takes (is_of_block by_text) (slice_index_or bs p []) x)) indices ∙ found by_text x q c.requires.key bs
