-- The nodes of elements that say the same.
use Rattle.std.proofs.Common.{◌≡◌, ℕ, Bool, cond, List, [], ◌∷◌, Option, Some, None, if◌then◌else◌, codes, true, false, refl, sym, ◌∙◌}
use Rattle.std.specs.List.{cons_option}
use Rattle.std.specs.Str.{bytes_eq}
use Rattle.laws.specs.Text.{text}
use Rattle.xml_text.specs.Tokens.{At}
use Rattle.xml_tree.specs.Trees.{FullName, Attribute, Element, Tagged, Content, Last, Next}
use Rattle.rendering_style.specs.Nodes.{Node, names, choose, group, nodes_of}
use Rattle.rendering_style.specs.Views.{branches_of}
use Rattle.csl_words.specs.Elements.{is_csl, is_called, content_in}
use Rattle.csl_words.specs.Looking.{in_table}
use Rattle.csl_nodes.specs.Leaves.{text_node, number_node, label_node, date_node}
use Rattle.csl_nodes.specs.Names.{names_node}
use Rattle.csl_nodes.specs.Nodes.{group_node, is_branch, node_of, nodes_in, nodes_inside, nodes_under, branch_of, branches_in, plain_group, macro_of}
use Rattle.csl_laws.specs.Alike.{AreAlikeInside}
use Rattle.csl_laws.specs.Trees.{text_counts, Alike}
use Rattle.csl_laws.proofs.Said.{SaySame, alike_said, names_same, text_same}
use Rattle.csl_laws.proofs.LooksAlike.{text_node_same, number_node_same, label_node_same, date_node_same, names_node_same, group_same, condition_same}

-- one of these nodes, by the name of an element
abbrev by_name : FullName → Option Node → Option Node → Option Node → Option Node → Option Node → Option Node → Option Node → Option Node
by_name n text_one number_one label_one date_one names_one choose_one group_one = if is_csl n.space then (if bytes_eq (text n.local) (codes "text") then text_one
    else (if bytes_eq (text n.local) (codes "number") then number_one
    else (if bytes_eq (text n.local) (codes "label") then label_one
    else (if bytes_eq (text n.local) (codes "date") then date_one
    else (if bytes_eq (text n.local) (codes "names") then names_one
    else (if bytes_eq (text n.local) (codes "choose") then choose_one
    else (if bytes_eq (text n.local) (codes "group") then group_one else None))))))) else None

abbrev node_by_name : List (List ℕ) → FullName → Element → Content → Option Node
node_by_name words n x c = by_name n (text_node words x) (number_node x) (label_node x) (date_node x) (Some (names (names_node x) (nodes_of (nodes_under words (codes "substitute") c))))
    (Some (choose (branches_of (branches_in words c) (nodes_of (nodes_under words (codes "else") c))))) (Some (group (group_node x) (nodes_of (nodes_in words c))))

node_is : (words : List (List ℕ)) (left : ℕ) (n : FullName) (ps : List (At Attribute)) (c : Content) → node_of words (Tagged left n ps c) ≡ node_by_name words n (Tagged left n ps c) c
unfolding in_table
node_is words left n ps c = by_space (is_csl n.space) refl
  where
    by_group : is_csl n.space ≡ true → bytes_eq (text n.local) (codes "text") ≡ false → bytes_eq (text n.local) (codes "number") ≡ false → bytes_eq (text n.local) (codes "label") ≡ false → bytes_eq (text n.local) (codes "date") ≡ false → bytes_eq (text n.local) (codes "names") ≡ false → bytes_eq (text n.local) (codes "choose") ≡ false → (b : Bool) → bytes_eq (text n.local) (codes "group") ≡ b → node_of words (Tagged left n ps c) ≡ node_by_name words n (Tagged left n ps c) c
    by_group e t0 t1 t2 t3 t4 t5 true t6 = rw (e, t0, t1, t2, t3, t4, t5, t6) refl
    by_group e t0 t1 t2 t3 t4 t5 false t6 = rw (e, t0, t1, t2, t3, t4, t5, t6) refl

    by_choose : is_csl n.space ≡ true → bytes_eq (text n.local) (codes "text") ≡ false → bytes_eq (text n.local) (codes "number") ≡ false → bytes_eq (text n.local) (codes "label") ≡ false → bytes_eq (text n.local) (codes "date") ≡ false → bytes_eq (text n.local) (codes "names") ≡ false → (b : Bool) → bytes_eq (text n.local) (codes "choose") ≡ b → node_of words (Tagged left n ps c) ≡ node_by_name words n (Tagged left n ps c) c
    by_choose e t0 t1 t2 t3 t4 true t5 = rw (e, t0, t1, t2, t3, t4, t5) refl
    by_choose e t0 t1 t2 t3 t4 false t5 = by_group e t0 t1 t2 t3 t4 t5 (bytes_eq (text n.local) (codes "group")) refl

    by_names : is_csl n.space ≡ true → bytes_eq (text n.local) (codes "text") ≡ false → bytes_eq (text n.local) (codes "number") ≡ false → bytes_eq (text n.local) (codes "label") ≡ false → bytes_eq (text n.local) (codes "date") ≡ false → (b : Bool) → bytes_eq (text n.local) (codes "names") ≡ b → node_of words (Tagged left n ps c) ≡ node_by_name words n (Tagged left n ps c) c
    by_names e t0 t1 t2 t3 true t4 = rw (e, t0, t1, t2, t3, t4) refl
    by_names e t0 t1 t2 t3 false t4 = by_choose e t0 t1 t2 t3 t4 (bytes_eq (text n.local) (codes "choose")) refl

    by_date : is_csl n.space ≡ true → bytes_eq (text n.local) (codes "text") ≡ false → bytes_eq (text n.local) (codes "number") ≡ false → bytes_eq (text n.local) (codes "label") ≡ false → (b : Bool) → bytes_eq (text n.local) (codes "date") ≡ b → node_of words (Tagged left n ps c) ≡ node_by_name words n (Tagged left n ps c) c
    by_date e t0 t1 t2 true t3 = rw (e, t0, t1, t2, t3) refl
    by_date e t0 t1 t2 false t3 = by_names e t0 t1 t2 t3 (bytes_eq (text n.local) (codes "names")) refl

    by_label : is_csl n.space ≡ true → bytes_eq (text n.local) (codes "text") ≡ false → bytes_eq (text n.local) (codes "number") ≡ false → (b : Bool) → bytes_eq (text n.local) (codes "label") ≡ b → node_of words (Tagged left n ps c) ≡ node_by_name words n (Tagged left n ps c) c
    by_label e t0 t1 true t2 = rw (e, t0, t1, t2) refl
    by_label e t0 t1 false t2 = by_date e t0 t1 t2 (bytes_eq (text n.local) (codes "date")) refl

    by_number : is_csl n.space ≡ true → bytes_eq (text n.local) (codes "text") ≡ false → (b : Bool) → bytes_eq (text n.local) (codes "number") ≡ b → node_of words (Tagged left n ps c) ≡ node_by_name words n (Tagged left n ps c) c
    by_number e t0 true t1 = rw (e, t0, t1) refl
    by_number e t0 false t1 = by_label e t0 t1 (bytes_eq (text n.local) (codes "label")) refl

    by_text : is_csl n.space ≡ true → (b : Bool) → bytes_eq (text n.local) (codes "text") ≡ b → node_of words (Tagged left n ps c) ≡ node_by_name words n (Tagged left n ps c) c
    by_text e true t0 = rw (e, t0) refl
    by_text e false t0 = by_number e t0 (bytes_eq (text n.local) (codes "number")) refl

    by_space : (b : Bool) → is_csl n.space ≡ b → node_of words (Tagged left n ps c) ≡ node_by_name words n (Tagged left n ps c) c
    by_space false e = rw e refl
    by_space true e = by_text e (bytes_eq (text n.local) (codes "text")) refl

-- two elements of one name
named_same : (words : List (List ℕ)) (left right : ℕ) (n : FullName) (ps bs : List (At Attribute)) (c d : Content) → Alike (Tagged left n ps c) (Tagged right n bs d)
    → nodes_in words c ≡ nodes_in words d → nodes_under words (codes "substitute") c ≡ nodes_under words (codes "substitute") d
    → branches_in words c ≡ branches_in words d → nodes_under words (codes "else") c ≡ nodes_under words (codes "else") d
    → node_of words (Tagged left n ps c) ≡ node_of words (Tagged right n bs d)
named_same words left right n ps bs c d a ns ss os es =
    let x : Element = Tagged left n ps c in
    let y : Element = Tagged right n bs d in
    let h : SaySame x y = alike_said x y a in
    node_is words left n ps c
    ∙ ((λ j. by_name n (text_node_same x y h words j) (number_node_same x y h j) (label_node_same x y h j) (date_node_same x y a j) (Some (names (names_node_same x y a j) (nodes_of (ss j))))
    (Some (choose (branches_of (os j) (nodes_of (es j))))) (Some (group (group_same x y h j) (nodes_of (ns j)))))
    ∙ sym (node_is words right n bs d))

mutual
  node_same : (words : List (List ℕ)) (x y : Element) → Alike x y → node_of words x ≡ node_of words y
  node_same words (Tagged left n ps c) (Tagged right m bs d) (called, same, inside) =
      let x : Element = Tagged left n ps c in
      named_same words left right n ps bs c d (refl, same, inside) (nodes_same words (text_counts x) c d inside) (under_same words (codes "substitute") (text_counts x) c d inside)
      (branches_same words (text_counts x) c d inside) (under_same words (codes "else") (text_counts x) c d inside)
      ∙ (λ j. node_of words (Tagged right (called j) bs d))

  nodes_same : (words : List (List ℕ)) (here : Bool) (c d : Content) → AreAlikeInside text_counts here c d → nodes_in words c ≡ nodes_in words d
  nodes_same words here (Last t) (Last u) a = refl
  nodes_same words here (Last t) (Next u f d) a = absurd a
  nodes_same words here (Next t e c) (Last u) a = absurd a
  nodes_same words here (Next t e c) (Next u f d) (ts, es, rest) = λ j. cons_option (node_same words e f es j) (nodes_same words here c d rest j)

  nodes_inside_same : (words : List (List ℕ)) (x y : Element) → Alike x y → nodes_inside words x ≡ nodes_inside words y
  nodes_inside_same words (Tagged left n ps c) (Tagged right m bs d) (called, same, inside) = nodes_same words (text_counts (Tagged left n ps c)) c d inside

  under_same : (words : List (List ℕ)) (part : List ℕ) (here : Bool) (c d : Content) → AreAlikeInside text_counts here c d → nodes_under words part c ≡ nodes_under words part d
  under_same words part here (Last t) (Last u) a = refl
  under_same words part here (Last t) (Next u f d) a = absurd a
  under_same words part here (Next t e c) (Last u) a = absurd a
  under_same words part here (Next t e c) (Next u f d) (ts, es, rest) =
      λ j. cond (is_called part (names_same e f es j)) (nodes_inside_same words e f es j) (under_same words part here c d rest j)

  branch_same : (words : List (List ℕ)) (x y : Element) → Alike x y → branch_of words x ≡ branch_of words y
  branch_same words (Tagged left n ps c) (Tagged right m bs d) (called, same, inside) =
      let x : Element = Tagged left n ps c in
      let y : Element = Tagged right m bs d in
      let h : SaySame x y = alike_said x y (called, same, inside) in
      λ j. cond (is_branch (called j)) (Some (condition_same x y h j, nodes_of (nodes_same words (text_counts x) c d inside j))) None

  branches_same : (words : List (List ℕ)) (here : Bool) (c d : Content) → AreAlikeInside text_counts here c d → branches_in words c ≡ branches_in words d
  branches_same words here (Last t) (Last u) a = refl
  branches_same words here (Last t) (Next u f d) a = absurd a
  branches_same words here (Next t e c) (Last u) a = absurd a
  branches_same words here (Next t e c) (Next u f d) (ts, es, rest) = λ j. cons_option (branch_same words e f es j) (branches_same words here c d rest j)

-- the nodes in an element
pub in_same : (words : List (List ℕ)) (x y : Element) → Alike x y → nodes_in words (content_in x) ≡ nodes_in words (content_in y)
in_same words (Tagged left n ps c) (Tagged right m bs d) a = nodes_same words (text_counts (Tagged left n ps c)) c d a.2

-- a macro
pub macro_same : (words : List (List ℕ)) (x y : Element) → Alike x y → macro_of words x ≡ macro_of words y
macro_same words x y a = λ j. record {
  name = text (text_same x y (alike_said x y a) (codes "name") j);
  nodes = group plain_group (nodes_of (in_same words x y a j)) ∷ [];
}
