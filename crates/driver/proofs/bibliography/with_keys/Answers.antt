use Rattle.std.proofs.Common.{◌≡◌, ◌+◌, ◌<◌, ◌≤◌, [], ◌∷◌, ◌++◌, drop, get_or, length, map, sym, ap, ◌∙◌, arith}
use Rattle.std.specs.Borrow.{Bor}
use Rattle.std.specs.Vec.Iter.{into_iter_items}
use Rattle.std.proofs.lemmas.List.{nil_from_length, length-append}
use Rattle.driver_bibliography.specs.Views.{fields_view}
use Rattle.driver.specs.Listing.{keys_of}
use Rattle.driver.specs.RenderedViews.{item_fields_view, key_view}
use Rattle.driver_rounds.proofs.ListsGrown.{made_goes_on, made_ends, read_goes_on, read_ends}
use Rattle.driver.proofs.bibliography.with_keys.Goals as goal

pub loop-own-init : goal.loop-own-init
loop-own-init g c =
    let e = c.into_iter-own-iterator.ensures.into_iter_gives in
    record {
      same = λ k. map item_fields_view (c.in_ok-items.ensures.items k) ++ map fields_view (e.0 k);
      keys = λ k. map key_view (c.in_ok-items.ensures.items k) ++ keys_of g.T.EntryLike.answers (drop (length (c.in_ok-items.ensures.items k)) c.args.entries.now);
      long = e.1 ∙ (c.args.fields.ok.0 ∙ sym (ap length e.0));
      all = omega (arith, ap length c.in_ok-items.ensures.items, ap length e.0, c.requires);
    }

pub loop-own-preserved : goal.loop-own-preserved
loop-own-preserved g c =
    let rest = into_iter_items c.next.new.self in
    let items = c.loop-own.items.items in
    let new = c.push.new.self.items in
    let entries = c.args.entries.now in
    let steps : into_iter_items c.loop-own.own-iterator ≡ c.in-Some.own ∷ rest = c.in-Some.ensures.steps.0 in
    let left : length (into_iter_items c.loop-own.own-iterator) ≡ length rest + 1 = omega (arith, ap length steps) in
    let more : length new ≡ length items + 1 = ap length c.in_ok-push.ensures.items ∙ length-append items (c.in_ok-with_key.field-0 ∷ []) in
    let less : length items < length entries = omega (arith, left, c.loop-own.invariant.all) in
    let index : c.len-in-loop-own.result ≡ length items = omega (arith, c.len-in-loop-own.ensures, c.loop-own.items.ok.0) in
    record {
      same = made_goes_on item_fields_view fields_view items new c.in-Some.own c.in_ok-with_key.field-0 rest (into_iter_items c.loop-own.own-iterator) _ steps c.loop-own.invariant.same c.in_ok-with_key.ensures.fields c.in_ok-push.ensures.items;
      keys = ap (λ m. map key_view new ++ keys_of g.T.EntryLike.answers (drop m entries)) more
          ∙ read_goes_on key_view (λ (e : Bor g.row.T.Denot). (g.T.EntryLike.answers e.now).key) entries items new (length items) c.index-entries-len.result c.in_ok-with_key.field-0 _ less
          (c.index-entries-len.is ∙ ap (λ m. get_or entries m c.index-entries-len.result) index) c.loop-own.invariant.keys c.in_ok-with_key.ensures.key c.in_ok-push.ensures.items;
      long = omega (arith, c.loop-own.invariant.long, left, c.in-Some.ensures.steps.1);
      all = omega (arith, more, left, c.loop-own.invariant.all);
    }

pub returns-clause-fields : goal.returns-clause-fields
returns-clause-fields g c =
    let none : into_iter_items c.loop-own.own-iterator ≡ [] = nil_from_length _ (sym c.loop-own.invariant.long ∙ c.in-None.ensures.steps.0) in
    made_ends item_fields_view fields_view c.loop-own.items.items (into_iter_items c.loop-own.own-iterator) _ none c.loop-own.invariant.same

pub returns-clause-keys : goal.returns-clause-keys
returns-clause-keys g c =
    let none : into_iter_items c.loop-own.own-iterator ≡ [] = nil_from_length _ (sym c.loop-own.invariant.long ∙ c.in-None.ensures.steps.0) in
    let over : length c.args.entries.now ≤ length c.loop-own.items.items = omega (arith, ap length none, c.loop-own.invariant.all) in
    read_ends key_view (λ (e : Bor g.row.T.Denot). (g.T.EntryLike.answers e.now).key) c.args.entries.now c.loop-own.items.items (length c.loop-own.items.items) _ over c.loop-own.invariant.keys
