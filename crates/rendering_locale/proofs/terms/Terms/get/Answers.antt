use Rattle.std.proofs.Common.{◌≡◌, Some, None, map, position, sym, ap, ◌∙◌, arith}
use Rattle.std.specs.BTreeMap.{get}
use Rattle.rendering_locale.specs.Indexed.{is_named, key_cmp}
use Rattle.rendering_locale.specs.TermViews.{term_view}
use Rattle.rendering_locale.proofs.TermPlaces.{place_within, found_at, not_found}
use Rattle.rendering_locale.proofs.terms.Terms.get.Goals as goal

pub index-requires : goal.index-requires
index-requires c =
    let ts = c.args.self.now.terms.items in
    let named = is_named c.args.name c.args.form in
    let at : position named (map term_view ts) ≡ Some c.in-Some.place.now =
    sym (c.args.self.now.indexed c.args.name c.args.form) ∙ ap (get key_cmp c.args.self.now.index) (sym c.term_key-key.ensures) ∙ sym c.in-Some.ensures.value in
    omega (arith, place_within term_view named ts c.in-Some.place.now at, c.args.self.now.terms.ok.0)

pub returns-in-Some : goal.returns-in-Some
returns-in-Some c =
    let ts = c.args.self.now.terms.items in
    let named = is_named c.args.name c.args.form in
    let at : position named (map term_view ts) ≡ Some c.in-Some.place.now =
    sym (c.args.self.now.indexed c.args.name c.args.form) ∙ ap (get key_cmp c.args.self.now.index) (sym c.term_key-key.ensures) ∙ sym c.in-Some.ensures.value in
    ap (λ t. Some (term_view t)) c.index.ensures ∙ found_at term_view named ts c.in-Some.place.now c.index.result.now at

pub returns-in-None : goal.returns-in-None
returns-in-None c =
    let ts = c.args.self.now.terms.items in
    let named = is_named c.args.name c.args.form in
    let none : position named (map term_view ts) ≡ None =
    sym (c.args.self.now.indexed c.args.name c.args.form) ∙ ap (get key_cmp c.args.self.now.index) (sym c.term_key-key.ensures) ∙ sym c.in-None.ensures.value in
    not_found named (map term_view ts) none
