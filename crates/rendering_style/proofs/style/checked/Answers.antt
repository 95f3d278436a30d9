use Rattle.std.proofs.Common.{◌≡◌, ℕ, List, Some, Vec, map, sym, ap, subst, ◌∙◌, IfSome}
use Rattle.std.specs.Global.{Global}
use Rattle.std.specs.List.{slice_get}
use Rattle.std.specs.Option.{option_map}
use Rattle.reference_graph.specs.References.{lists}
use Rattle.rendering_style.specs.Errors.{refusal_of}
use Rattle.rendering_style.specs.Opening.{references, macro_ring}
use Rattle.rendering_style.specs.Styles as styles
use Rattle.rendering_style.specs.Views.{macro_view, style_parts_view}
use Rattle.rendering_style.specs.declared.parts.Macro.{Macro}
use Rattle.rendering_style.proofs.OpeningAnswers.{first_ring, ring_answers, no_ring}
use Rattle.rendering_style.proofs.style.checked.Goals as goal

-- the lists that the order was made of are the references of the macros
same : (used made : List (Vec ℕ Global)) (given macros : List Macro) → used ≡ made → lists made ≡ references (map macro_view given) → given ≡ macros → lists used ≡ references (map macro_view macros)
same used made given macros u m g = ap lists u ∙ (m ∙ ap (λ ms. references (map macro_view ms)) g)

pub returns-in-Some-clause-answer : goal.returns-in-Some-clause-answer
returns-in-Some-clause-answer c =
    let s = style_parts_view c.args.parts.now in
    let told = same c.deref-3.result.now _ _ c.args.parts.now.macros.items c.deref-3.ensures.value c.in_ok-references.ensures c.deref-2.ensures.value in
    ring_answers s c.in-Some.index (refusal_of c.ring_at.result)
    (first_ring (lists c.deref-3.result.now) s.macros c.in_ok-order.order.circular c.in-Some.index told c.in_ok-order.ensures.circular c.in-Some.ensures.0 c.in-Some.ensures.1)
    (subst (λ (ms : List Macro). IfSome (refusal_of c.ring_at.result) (λ r. option_map (λ (m : styles.Macro). macro_ring m.name) (slice_get (map macro_view ms) c.in-Some.index) ≡ Some r)) c.deref-in-Some.ensures.value c.ring_at.ensures)

pub heights_of-requires-clause-none : goal.heights_of-requires-clause-none
heights_of-requires-clause-none c =
    no_ring (lists c.deref-3.result.now) (map macro_view c.deref-4.result.now) c.in_ok-order.order.circular
    (same c.deref-3.result.now _ _ c.deref-4.result.now c.deref-3.ensures.value c.in_ok-references.ensures (c.deref-2.ensures.value ∙ sym c.deref-4.ensures.value)) c.in_ok-order.ensures.circular c.in_default.ensures

pub returns-then-not-fits-clause-answer : goal.returns-then-not-fits-clause-answer
returns-then-not-fits-clause-answer c =
    let s = style_parts_view c.args.parts.now in
    let told = same c.deref-3.result.now _ _ c.args.parts.now.macros.items c.deref-3.ensures.value c.in_ok-references.ensures c.deref-2.ensures.value in
    (no_ring (lists c.deref-3.result.now) s.macros c.in_ok-order.order.circular told c.in_ok-order.ensures.circular c.in_default.ensures, sym c.fits.ensures ∙ c.if-not-fits.true)

pub returns-clause-answer : goal.returns-clause-answer
returns-clause-answer c =
    let s = style_parts_view c.args.parts.now in
    let told = same c.deref-3.result.now _ _ c.args.parts.now.macros.items c.deref-3.ensures.value c.in_ok-references.ensures c.deref-2.ensures.value in
    (no_ring (lists c.deref-3.result.now) s.macros c.in_ok-order.order.circular told c.in_ok-order.ensures.circular c.in_default.ensures, sym c.fits.ensures ∙ c.if-not-fits.false)
