use Rattle.std.proofs.Common.{◌≡◌, List, ℕ, true, false, length, slice_get, get_or, string_bytes, sym, ap, subst, ◌∙◌, arith}
use Rattle.std.proofs.lemmas.Slice.Eq.{bytes_eq-Decides}
use Rattle.biblatex.specs.declared.indices.NamedIndex.{NamedIndex}
use Rattle.biblatex.specs.Indices.{name_of, names_in, meaning_in, has_name, AreSorted, AreInOrder, IsPlace}
use Rattle.biblatex.proofs.IndicesOrder.{compared, in_order_sorted, is_Less}
use Rattle.biblatex.proofs.IndicesPlaces.{there, at_place, before_apart, after_place}
use Rattle.biblatex.proofs.IndicesChanges.{rebound, put_in, order_rebound, order_put_in}
use Rattle.biblatex.proofs.indices.bind.Goals as goal

pub place_of-place-requires : goal.place_of-place-requires
place_of-place-requires c = subst AreSorted (sym c.as_slice.ensures.value) (in_order_sorted c.args.names.now.items c.requires)

pub index_mut-requires : goal.index_mut-requires
index_mut-requires c =
    let low = there c.as_slice-2.result.now c.place_of-place.result c.as_str-2.result.now (sym c.stands_at.ensures ∙ c.if-stands_at.true) in
    omega (arith, low, ap length c.as_slice-2.ensures.value, c.args.names.now.ok.0)

pub returns-then-stands_at-clause-ok : goal.returns-then-stands_at-clause-ok
returns-then-stands_at-clause-ok c =
    let ns = c.args.names.now.items in
    let name = string_bytes c.args.name in
    let place = c.place_of-place.result in
    let n = c.index_mut.result.now in
    let sliced = subst (λ (xs : List NamedIndex). IsPlace xs c.as_str.result.now place) c.as_slice.ensures.value c.place_of-place.ensures.place in
    let is = subst (λ (x : List ℕ). IsPlace ns x place) c.as_str.ensures.value sliced in
    let asked : c.stands_at.result ≡ has_name name (slice_get ns place) = c.stands_at.ensures ∙ (λ i. has_name (c.as_str-2.ensures.value i) (slice_get (c.as_slice-2.ensures.value i) place)) in
    let here : has_name name (slice_get ns place) ≡ true = sym asked ∙ c.if-stands_at.true in
    let low = there ns place name here in
    let same : name ≡ name_of n = (bytes_eq-Decides name (name_of (get_or ns place n))).0 (sym (at_place ns place name n low) ∙ here) ∙ ap name_of (sym c.index_mut.ensures.value) in
    rebound ns name c.args.index place n low c.index_mut.ensures.value (before_apart ns name place is) same

pub returns-then-stands_at-clause-order : goal.returns-then-stands_at-clause-order
returns-then-stands_at-clause-order c = order_rebound c.args.names.now.items c.args.index c.place_of-place.result c.index_mut.result.now c.index_mut.ensures.value c.requires

pub returns-clause-ok : goal.returns-clause-ok
returns-clause-ok c =
    let ns = c.args.names.now.items in
    let name = string_bytes c.args.name in
    let place = c.place_of-place.result in
    let n = c.new.result in
    let sliced = subst (λ (xs : List NamedIndex). IsPlace xs c.as_str.result.now place) c.as_slice.ensures.value c.place_of-place.ensures.place in
    let is = subst (λ (x : List ℕ). IsPlace ns x place) c.as_str.ensures.value sliced in
    ap (λ (xs : List NamedIndex). meaning_in (names_in xs)) c.in_ok-insert.ensures.items ∙ put_in ns n name c.args.index place c.new.ensures (before_apart ns name place is)

pub returns-clause-order : goal.returns-clause-order
returns-clause-order c =
    let ns = c.args.names.now.items in
    let name = string_bytes c.args.name in
    let place = c.place_of-place.result in
    let n = c.new.result in
    let named : name_of n ≡ name = ap (λ (m : List ℕ × ℕ). m.0) c.new.ensures in
    let sliced = subst (λ (xs : List NamedIndex). IsPlace xs c.as_str.result.now place) c.as_slice.ensures.value c.place_of-place.ensures.place in
    let is = subst (λ (x : List ℕ). IsPlace ns x place) c.as_str.ensures.value sliced in
    let asked : c.stands_at.result ≡ has_name name (slice_get ns place) = c.stands_at.ensures ∙ (λ i. has_name (c.as_str-2.ensures.value i) (slice_get (c.as_slice-2.ensures.value i) place)) in
    let differs : has_name name (slice_get ns place) ≡ false = sym asked ∙ c.if-stands_at.false in
    subst AreInOrder (sym c.in_ok-insert.ensures.items)
    (order_put_in ns n place c.requires (λ k d low within. ap (compared (name_of (get_or ns k d))) named ∙ is_Less (name_of (get_or ns k d)) name (is.0 k d (omega arith) low))
    (λ k d up within. ap (λ (x : List ℕ). compared x (name_of (get_or ns k d))) named ∙ after_place ns name place (in_order_sorted ns c.requires) is differs k d up within))
