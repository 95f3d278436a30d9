use Rattle.std.proofs.Common.{◌≡◌, ℕ, List, [], ◌∷◌, ◌++◌, map, Option, Result, Ok, sym, ap, ◌∙◌}
use Rattle.std.proofs.lemmas.List.{map_push}
use Rattle.laws.specs.Results.{◌>>=◌}
use Rattle.xml_text.specs.Tokens.{At}
use Rattle.xml_text.specs.Views.{placed_view}
use Rattle.xml_tree.specs.Names.{named_in}
use Rattle.xml_tree.specs.Trees.{Attribute}
use Rattle.xml_tree.specs.Values.{Refusal}
use Rattle.xml_tree.specs.Views.{space_view, attribute_view, attributes_view, valued_view}
use Rattle.xml_tree.proofs.names.push_named.Goals as goal

pub returns : goal.returns
returns c =
    let earlier = attributes_view c.args.attributes.now in
    let a = placed_view valued_view c.args.attribute in
    let pushed : attributes_view c.push.new.self ≡ earlier ++ named_in (space_view c.in_ok-space.space) a ∷ [] =
    ap (map (placed_view attribute_view)) c.in_ok-push.ensures.items
    ∙ (map_push (placed_view attribute_view) c.args.attributes.now.items c.named_in-named.result ∙ ap (λ (x : At Attribute). earlier ++ x ∷ []) c.named_in-named.ensures) in
    ap (λ (r : Result (Option (List ℕ)) Refusal). r >>= λ space. Ok (earlier ++ named_in space a ∷ [])) c.in_ok-space.ensures ∙ ap (λ (xs : List (At Attribute)). Ok xs) (sym pushed)
