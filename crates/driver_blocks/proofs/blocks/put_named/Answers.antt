use Rattle.std.specs.Global.{Global}
use Rattle.std.proofs.Common.{◌≡◌, ◌++◌, ◌∷◌, [], List, bytes_eq, cond, length, map, sym, ap, ◌∙◌, Some, None, Vec, arith, rules, string_bytes}
use Rattle.std.proofs.lemmas.List.{length-map}
use Rattle.driver_blocks.specs.Blocks.{is_of_block}
use Rattle.driver_blocks.specs.Indexed.{indices_of}
use Rattle.driver_blocks.specs.Views.{blocks_view, first_taking, gathered_view}
use Rattle.driver_blocks.specs.declared.cite.Gathered.{Gathered}
use Rattle.driver_blocks.proofs.IndexedSteps.{indices_new, indices_same}
use Rattle.driver_blocks.proofs.PutSteps.{IsPut, put_first, put_pushed}
use Rattle.driver_blocks.proofs.blocks.put_named.Goals as goal

pub index_mut-requires : goal.index_mut-requires
index_mut-requires c =
    let x = gathered_view c.args.cite in
    let items = c.args.blocks.now.items in
    let put : IsPut (is_of_block c.args.by_text) x (blocks_view items) (Some c.in-Some.index) =
    put_first (is_of_block c.args.by_text) x (blocks_view items) (Some c.in-Some.index) (c.in-Some.ensures ∙ ap (λ (vs : List (Vec Gathered Global)). first_taking (is_of_block c.args.by_text) x 0 (blocks_view vs)) c.deref.ensures.value) in
    omega (arith, put.0, length-map items (λ (b : Vec Gathered Global). map gathered_view b.items))

pub returns-in_ok-push-in-Some-clause-blocks : goal.returns-in_ok-push-in-Some-clause-blocks
returns-in_ok-push-in-Some-clause-blocks c =
    let x = gathered_view c.args.cite in
    let items = c.args.blocks.now.items in
    let put : IsPut (is_of_block c.args.by_text) x (blocks_view items) (Some c.in-Some.index) =
    put_first (is_of_block c.args.by_text) x (blocks_view items) (Some c.in-Some.index) (c.in-Some.ensures ∙ ap (λ (vs : List (Vec Gathered Global)). first_taking (is_of_block c.args.by_text) x 0 (blocks_view vs)) c.deref.ensures.value) in
    put_pushed c.args.by_text items c.in-Some.index c.index_mut.result.now c.push.new.self c.args.cite put c.index_mut.ensures.value c.in_ok-push-in-Some.ensures.items

pub returns-in_ok-push-in-Some-clause-table : goal.returns-in_ok-push-in-Some-clause-table
returns-in_ok-push-in-Some-clause-table c =
    let x = gathered_view c.args.cite in
    let bs = blocks_view c.args.blocks.now.items in
    let first : Some c.in-Some.index ≡ first_taking (is_of_block c.args.by_text) x 0 bs =
    c.in-Some.ensures ∙ ap (λ (vs : List (Vec Gathered Global)). first_taking (is_of_block c.args.by_text) x 0 (blocks_view vs)) c.deref.ensures.value in
    λ q. c.requires.table q ∙ sym (indices_same c.args.by_text x q c.in-Some.index 0 bs (sym first)) ∙ ap (indices_of c.args.by_text q 0) (sym (returns-in_ok-push-in-Some-clause-blocks c))

pub returns-in_ok-put_alone-in-None-clause-blocks : goal.returns-in_ok-put_alone-in-None-clause-blocks
returns-in_ok-put_alone-in-None-clause-blocks c =
    let x = gathered_view c.args.cite in
    let bs = blocks_view c.args.blocks.now.items in
    let put : IsPut (is_of_block c.args.by_text) x bs None =
    put_first (is_of_block c.args.by_text) x bs None (c.in-None.ensures ∙ ap (λ (vs : List (Vec Gathered Global)). first_taking (is_of_block c.args.by_text) x 0 (blocks_view vs)) c.deref.ensures.value) in
    c.in_ok-put_alone-in-None.ensures ∙ sym put

pub returns-in_ok-put_alone-in-None-clause-table : goal.returns-in_ok-put_alone-in-None-clause-table
returns-in_ok-put_alone-in-None-clause-table c =
    let x = gathered_view c.args.cite in
    let items = c.args.blocks.now.items in
    let len : c.len.result ≡ length items = search rules in
    let last : c.len.result ≡ length (blocks_view items) = len ∙ sym (length-map items (λ (b : Vec Gathered Global). map gathered_view b.items)) in
    λ q.
    c.in_ok-add-in-None.ensures q
    ∙ ap (λ ps. ps ++ cond (bytes_eq q (string_bytes c.args.key)) (c.len.result ∷ []) []) (c.requires.table q)
    ∙ sym (indices_new c.args.by_text x q (string_bytes c.args.key) c.len.result (blocks_view items) c.requires.key last)
    ∙ ap (indices_of c.args.by_text q 0) (sym c.in_ok-put_alone-in-None.ensures)
