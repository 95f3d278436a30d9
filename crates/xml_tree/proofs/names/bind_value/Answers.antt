use Rattle.std.proofs.Common.{◌≡◌, ℕ, List, true, false, Ok, refl, sym, ap, ◌∙◌}
use Rattle.std.specs.Option.{option_map}
use Rattle.std.specs.Str.{chars}
use Rattle.laws.specs.Text.{characters, spelled, if_filled}
use Rattle.xml_tree.specs.Scope.{Scope, bound, is_allowed}
use Rattle.xml_tree.specs.Views.{bindings_view}
use Rattle.xml_tree.proofs.names.bind_value.Goals as goal

pub returns-then-not-is_allowed : goal.returns-then-not-is_allowed
returns-then-not-is_allowed c =
    let prefix = option_map spelled c.args.prefix in
    let refused : is_allowed prefix (characters c.args.attribute.now.v.value) ≡ false = ap (λ (bs : List ℕ). is_allowed prefix (chars bs)) (sym c.as_str-value.ensures.value) ∙ (sym c.is_allowed.ensures ∙ c.if-not-is_allowed.true) in
    rw refused refl

pub returns : goal.returns
returns c =
    let prefix = option_map spelled c.args.prefix in
    let own = bindings_view c.args.own.now in
    let allowed : is_allowed prefix (characters c.args.attribute.now.v.value) ≡ true = ap (λ (bs : List ℕ). is_allowed prefix (chars bs)) (sym c.as_str-value.ensures.value) ∙ (sym c.is_allowed.ensures ∙ c.if-not-is_allowed.false) in
    let made : bindings_view c.bind.new.self ≡ bound prefix (if_filled (characters c.args.attribute.now.v.value)) own =
    c.in_ok-bind.ensures ∙ ap (λ s. bound prefix s own) (c.in_ok-space.ensures ∙ ap (λ (bs : List ℕ). if_filled (chars bs)) c.as_str-value.ensures.value) in
    rw allowed (ap (λ (s : Scope). Ok s) (sym made))
