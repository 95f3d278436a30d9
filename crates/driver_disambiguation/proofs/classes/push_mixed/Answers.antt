use Rattle.std.specs.Global.{Global}
use Rattle.std.proofs.Common.{◌≡◌, true, cond, [], ◌∷◌, ◌++◌, map, Vec, sym, ap, ◌∙◌}
use Rattle.std.specs.Borrow.{Bor}
use Rattle.std.proofs.lemmas.List.{map-append, map-id}
use Rattle.std.proofs.lemmas.Slice.Zip.{AllZip-map}
use Rattle.driver_disambiguation.specs.Classes.{is_mixed}
use Rattle.driver_names.specs.Views.{class_view}
use Rattle.driver_names.specs.declared.printed.Printed.{Printed}
use Rattle.driver_disambiguation.proofs.classes.push_mixed.Goals as goal

pub returns-in_ok-push : goal.returns-in_ok-push
returns-in_ok-push c =
    let same : c.in_ok-clone.field-0.items ≡ c.args.group.now.items = AllZip-map (λ s. s) c.args.group.now.items c.in_ok-clone.field-0.items c.in_ok-clone.ensures.cases.0 ∙ map-id c.args.group.now.items in
    let mixed : is_mixed (class_view c.args.group.now.items) ≡ true = ap (λ ss. is_mixed (class_view ss)) (sym c.as_slice.ensures.value) ∙ sym c.is_mixed.ensures ∙ c.if-is_mixed.true in
    let parts = map (λ (p : Vec (Bor Printed) Global). p.items) c.args.parts.now.items in
    ap (map (λ (p : Vec (Bor Printed) Global). p.items)) c.in_ok-push.ensures.items
    ∙ map-append (λ (p : Vec (Bor Printed) Global). p.items) c.args.parts.now.items (c.in_ok-clone.field-0 ∷ [])
    ∙ (λ j. parts ++ same j ∷ [])
    ∙ ap (λ b. parts ++ cond b (c.args.group.now.items ∷ []) []) (sym mixed)
