use Rattle.std.proofs.Common.{◌≡◌, [], ◌∷◌, ◌++◌, map, ap, ◌∙◌}
use Rattle.std.proofs.lemmas.List.{map_push}
use Rattle.std.proofs.lemmas.Result.{err_from_is_err_and}
use Rattle.laws.specs.Steps.{each}
use Rattle.texts.specs.Views.{left}
use Rattle.xml_text.specs.Tags.{next_attribute_at}
use Rattle.xml_text.specs.Views.{placed_view, attribute_view, attributes_view}
use Rattle.laws.proofs.Gathering.{goes_on, ends}
use Rattle.xml_text.proofs.Shorter.{attributes_shorten}
use Rattle.xml_text.proofs.Words.{stops-gathered}
use Rattle.xml_text.proofs.attribute.take_attributes.Goals as goal

pub loop-attributes-preserved : goal.loop-attributes-preserved
loop-attributes-preserved c =
    let e = rw c.in-Some.is at c.in_ok-attribute.ensures in
    let pushed : attributes_view c.push.new.self ≡ attributes_view c.loop-attributes.attributes ++ placed_view attribute_view c.in-Some.attribute ∷ [] = ap (map (placed_view attribute_view)) c.in_ok-push.ensures.items ∙ map_push (placed_view attribute_view) c.loop-attributes.attributes.items c.in-Some.attribute in
    rw pushed (goes_on next_attribute_at attributes_shorten (attributes_view c.loop-attributes.attributes) (left c.loop-attributes.reader) (left c.next_attribute.new.reader) (each next_attribute_at (left c.args.reader.now)) (placed_view attribute_view c.in-Some.attribute) c.loop-attributes.invariant e)

pub loop-attributes-smaller : goal.loop-attributes-smaller
loop-attributes-smaller c =
    let e = rw c.in-Some.is at c.in_ok-attribute.ensures in
    attributes_shorten (left c.loop-attributes.reader) (left c.next_attribute.new.reader) (placed_view attribute_view c.in-Some.attribute) e

pub returns : goal.returns
returns c =
    let e = rw c.in_default.is at c.in_ok-attribute.ensures in
    ends next_attribute_at (attributes_view c.loop-attributes.attributes) (left c.loop-attributes.reader) (left c.next_attribute.new.reader) (each next_attribute_at (left c.args.reader.now)) c.loop-attributes.invariant e

pub returns-in_err-attribute : goal.returns-in_err-attribute
returns-in_err-attribute c =
    let p = err_from_is_err_and c.from_residual.result c.from_residual.ensures.1 in
    rw (p.1, p.2) (stops-gathered next_attribute_at (attributes_view c.loop-attributes.attributes) (left c.loop-attributes.reader) (left c.next_attribute.new.reader) (each next_attribute_at (left c.args.reader.now)) c.in_err-attribute.field-0.0 c.loop-attributes.invariant c.in_err-attribute.ensures)
