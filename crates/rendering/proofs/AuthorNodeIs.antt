-- What the node for authors is.
use Rattle.std.proofs.Common.{◌≡◌, ℕ, Bool, true, false, not, ◌&&◌, true≢false, List, [], ◌∷◌, refl, sym, ap, Option, Some, None, is_none}
use Rattle.std.proofs.lemmas.Bool.{and_parts}
use Rattle.laws.specs.Text.{is_filled}
use Rattle.rendering_style.specs.Nodes.{Look, NamesNode, Node, leaf, call, opened, names, choose, group, no_nodes, node, plain_look}
use Rattle.rendering_taxonomy.specs.Formats.{Changes, unchanged}
use Rattle.rendering_taxonomy.specs.declared.variable.NameVariable.{NameVariable}
use Rattle.rendering_taxonomy.specs.declared.variable.NameVariable.TheVariants as name
use Rattle.rendering.specs.AuthorNodes.{says_no_change, says_no_look, are_authors, is_author_node, is_made}
use Rattle.rendering.specs.Purposes.{author_node}

none_is : {X : Type 0} (o : Option X) → is_none o ≡ true → o ≡ None
none_is None e = refl
none_is (Some x) e = absurd (true≢false (sym e))

empty_is : (cs : List ℕ) → not (is_filled cs) ≡ true → cs ≡ []
empty_is [] e = refl
empty_is (c ∷ cs) e = absurd (true≢false (sym e))

not_is : (b : Bool) → not b ≡ true → b ≡ false
not_is true e = sym e
not_is false e = refl

no_change_is : (c : Changes) → says_no_change c ≡ true → c ≡ unchanged
no_change_is c e =
    let p = and_parts (is_none c.font_style && is_none c.font_variant && is_none c.font_weight && is_none c.text_decoration) (is_none c.vertical_align) e in
    let q = and_parts (is_none c.font_style && is_none c.font_variant && is_none c.font_weight) (is_none c.text_decoration) p.0 in
    let r = and_parts (is_none c.font_style && is_none c.font_variant) (is_none c.font_weight) q.0 in
    let s = and_parts (is_none c.font_style) (is_none c.font_variant) r.0 in
    λ i. record {
      font_style = none_is c.font_style s.0 i;
      font_variant = none_is c.font_variant s.1 i;
      font_weight = none_is c.font_weight r.1 i;
      text_decoration = none_is c.text_decoration q.1 i;
      vertical_align = none_is c.vertical_align p.1 i;
    }

no_look_is : (l : Look) → says_no_look l ≡ true → l ≡ plain_look
no_look_is l e =
    let p = and_parts (says_no_change l.formatting && not (is_filled l.prefix) && not (is_filled l.suffix)) (is_none l.display) e in
    let q = and_parts (says_no_change l.formatting && not (is_filled l.prefix)) (not (is_filled l.suffix)) p.0 in
    let r = and_parts (says_no_change l.formatting) (not (is_filled l.prefix)) q.0 in
    λ i. record {
      formatting = no_change_is l.formatting r.0 i;
      prefix = empty_is l.prefix r.1 i;
      suffix = empty_is l.suffix q.1 i;
      display = none_is l.display p.1 i;
    }

authors_are : (vs : List NameVariable) → are_authors vs ≡ true → vs ≡ name.Author ∷ []
authors_are [] e = absurd (true≢false (sym e))
authors_are (name.Author ∷ []) e = refl
authors_are (name.Author ∷ w ∷ vs) e = absurd (true≢false (sym e))
authors_are (v ∷ []) e = absurd (true≢false (sym e))
authors_are (v ∷ w ∷ vs) e = absurd (true≢false (sym e))

node_is : (h : NamesNode) → is_author_node h ≡ true → h ≡ author_node
node_is h e =
    let o = and_parts
    (are_authors h.variables && is_none h.name && is_none h.et_al && is_none h.label && not h.label_is_first && is_none h.delimiter && says_no_look h.look)
    (not h.merges_editor_translator) e in
    let p = and_parts (are_authors h.variables && is_none h.name && is_none h.et_al && is_none h.label && not h.label_is_first && is_none h.delimiter) (says_no_look h.look) o.0 in
    let q = and_parts (are_authors h.variables && is_none h.name && is_none h.et_al && is_none h.label && not h.label_is_first) (is_none h.delimiter) p.0 in
    let r = and_parts (are_authors h.variables && is_none h.name && is_none h.et_al && is_none h.label) (not h.label_is_first) q.0 in
    let s = and_parts (are_authors h.variables && is_none h.name && is_none h.et_al) (is_none h.label) r.0 in
    let t = and_parts (are_authors h.variables && is_none h.name) (is_none h.et_al) s.0 in
    let u = and_parts (are_authors h.variables) (is_none h.name) t.0 in
    λ i. record {
      variables = authors_are h.variables u.0 i;
      name = none_is h.name u.1 i;
      et_al = none_is h.et_al t.1 i;
      label = none_is h.label s.1 i;
      label_is_first = not_is h.label_is_first r.1 i;
      merges_editor_translator = not_is h.merges_editor_translator o.1 i;
      delimiter = none_is h.delimiter q.1 i;
      look = no_look_is h.look p.1 i;
    }

pub made_is : (xs : List Node) → is_made xs ≡ true → xs ≡ names author_node no_nodes ∷ []
made_is [] e = absurd (true≢false (sym e))
made_is (leaf l ∷ xs) e = absurd (true≢false (sym e))
made_is (call c look ∷ xs) e = absurd (true≢false (sym e))
made_is (opened look ys ∷ xs) e = absurd (true≢false (sym e))
made_is (choose bs ∷ xs) e = absurd (true≢false (sym e))
made_is (group g ys ∷ xs) e = absurd (true≢false (sym e))
made_is (names h (node y ys) ∷ []) e = absurd (true≢false (sym e))
made_is (names h (node y ys) ∷ x ∷ xs) e = absurd (true≢false (sym e))
made_is (names h no_nodes ∷ x ∷ xs) e = absurd (true≢false (sym e))
made_is (names h no_nodes ∷ []) e = ap (λ (k : NamesNode). names k no_nodes ∷ []) (node_is h e)

-- what nodes are made test as made
pub made_from : (xs : List Node) → xs ≡ names author_node no_nodes ∷ [] → is_made xs ≡ true
made_from xs e = ap is_made e
