use Rattle.std.proofs.Common.{ℕ, false, List, ◌++◌, subst}
use Rattle.rendering_output.specs.Writing.{declared, style_declared, variant_declared, weight_declared, decoration_declared, align_declared, spaced_after, WritesCharacters}
use Rattle.rendering_output.proofs.WritingDeclared.{writes_declared, five-in_a_row}
use Rattle.rendering_output.proofs.writing.push_declarations.Goals as goal

pub returns : goal.returns
returns g c =
    let took = g.T.TextTarget.takes in
    let style = style_declared c.args.formatting.font_style in
    let variant = variant_declared c.args.formatting.font_variant in
    let weight = weight_declared c.args.formatting.font_weight in
    let decoration = decoration_declared c.args.formatting.text_decoration in
    let align = align_declared c.args.formatting.vertical_align in
    let fifth = subst (λ (ds : List (List ℕ)). WritesCharacters took c.push_declaration-decoration.new.target (spaced_after c.push_declaration-decoration.result ds) c.push_declaration.new.target) c.align_declared.ensures c.push_declaration.ensures.written in
    let fourth = writes_declared took _ c.push_declaration-weight.result decoration (declared c.decoration_declared.result) _ c.push_declaration-decoration.result align _ c.decoration_declared.ensures c.push_declaration-decoration.ensures.written c.push_declaration-decoration.ensures.any fifth in
    let third = writes_declared took _ c.push_declaration-variant.result weight (declared c.weight_declared.result) _ c.push_declaration-weight.result (decoration ++ align) _ c.weight_declared.ensures c.push_declaration-weight.ensures.written c.push_declaration-weight.ensures.any fourth in
    let second = writes_declared took _ c.push_declaration-style.result variant (declared c.variant_declared.result) _ c.push_declaration-variant.result (weight ++ (decoration ++ align)) _ c.variant_declared.ensures c.push_declaration-variant.ensures.written c.push_declaration-variant.ensures.any third in
    let first = writes_declared took c.args.target.now false style (declared c.style_declared.result) _ c.push_declaration-style.result (variant ++ (weight ++ (decoration ++ align))) c.push_declaration.new.target c.style_declared.ensures c.push_declaration-style.ensures.written c.push_declaration-style.ensures.any second in
    subst (λ (ds : List (List ℕ)). WritesCharacters took c.args.target.now (spaced_after false ds) c.push_declaration.new.target) (five-in_a_row style variant weight decoration align) first
