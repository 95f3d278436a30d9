use Rattle.std.proofs.Common.{◌≡◌, List, [], sym, ap, subst, ◌∙◌}
use Rattle.std.specs.Prelude.{if◌then◌else◌}
use Rattle.rendering_nodes.specs.Named.{Named, always_named, as_printed, joined_named, named}
use Rattle.rendering_style.specs.StyleViews.{style_view}
use Rattle.rendering.specs.Alike.{named_in_bibliography, style_named}
use Rattle.rendering.specs.Purposes.{is_published, layout_nodes}
use Rattle.rendering_taxonomy.specs.declared.variable.Variable.{Variable}
use Rattle.rendering_alike.specs.Naming.{NameTheSame, names_view, with_named}
use Rattle.rendering_alike.proofs.NamesMembers.{joined_members}
use Rattle.rendering_alike.proofs.NamesSteps.{both_named}
use Rattle.rendering_alike.proofs.names.style_names.Goals as goal

pub returns : goal.returns
returns c =
    let s = style_view c.args.style.now in
    let is = c.parts-parts.ensures.style in
    let cited : Named = named (layout_nodes s s.citation.layout) in
    let listed : Named = named_in_bibliography s s.bibliography in
    let first : names_view c.add_layout.new.found ≡ with_named always_named cited =
    c.in_ok-add_layout.ensures
    ∙ (λ i. with_named (c.in_ok-found.ensures i) (named (layout_nodes s (is i).citation.layout))) in
    let all : names_view c.add_bibliography.new.found ≡ with_named always_named (joined_named cited listed) =
    c.in_ok-add_bibliography.ensures
    ∙ (λ i. with_named (first i) (named_in_bibliography s (is i).bibliography))
    ∙ sym (both_named always_named cited listed) in
    let found = c.add_bibliography.new.found in
    let counted : c.in_ok-found-2.field-0.items ≡ (if is_published s then found.variables.items else []) =
    c.in_ok-found-2.ensures ∙ ap (λ (vs : List Variable). if is_published s then vs else []) c.deref.ensures.value in
    subst (λ (n : Named). NameTheSame n (style_named s))
    (sym (ap (as_printed (is_published s)) all) ∙ (λ i. record (names_view found) { written = sym counted i }))
    (joined_members (is_published s) always_named (joined_named cited listed))
