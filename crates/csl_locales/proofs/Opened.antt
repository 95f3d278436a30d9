-- The texts in an element, as code has them.
use Rattle.std.proofs.Common.{◌≡◌, ℕ, List, [], ◌∷◌, ◌++◌, String, Global, string_bytes, chars, refl, sym, ap, ◌∙◌, append_assoc}
use Rattle.laws.specs.Text.{characters}
use Rattle.xml_tree.specs.Trees as trees
use Rattle.xml_tree.specs.Trees.{content_of}
use Rattle.xml_tree.specs.Views.{element_view, children_of, children_view}
use Rattle.xml_tree.specs.declared.tree.Element.{Element, out-Element}
use Rattle.xml_schema.proofs.Contents.{element_opened}
use Rattle.csl_locales.specs.Terms.{texts_in, own_text}

-- texts before elements, and the last one
texts_last : (ps : List (List ℕ × trees.Element)) (t : List ℕ) → texts_in (content_of ps t) ≡ texts_in (content_of ps []) ++ t
texts_last [] t = refl
texts_last (p ∷ ps) t = ap (λ (u : List ℕ). p.0 ++ u) (texts_last ps t) ∙ sym (append_assoc p.0 (texts_in (content_of ps [])) t)

pub text_whole : (e : Element) (ps : List (String Global × Element)) (s a b d : List ℕ) → ps ≡ (out-Element e).children.items → s ≡ string_bytes (out-Element e).text → a ≡ []
    → b ≡ a ++ texts_in (content_of (children_of ps) []) → d ≡ b ++ chars s → d ≡ own_text (element_view e)
text_whole e ps s a b d same spelled empty more all =
    let whole : own_text (element_view e) ≡ texts_in (content_of (children_view (out-Element e).children) (characters (out-Element e).text)) = ap own_text (element_opened e) in
    let front : b ≡ texts_in (content_of (children_of ps) []) = more ∙ ap (λ (z : List ℕ). z ++ texts_in (content_of (children_of ps) [])) empty in
    let joined : b ++ chars s ≡ texts_in (content_of (children_of ps) []) ++ characters (out-Element e).text = λ i. front i ++ chars (spelled i) in
    let here : texts_in (content_of (children_of ps) []) ++ characters (out-Element e).text ≡ texts_in (content_of (children_view (out-Element e).children) []) ++ characters (out-Element e).text =
    ap (λ (qs : List (String Global × Element)). texts_in (content_of (children_of qs) []) ++ characters (out-Element e).text) same in
    all ∙ (joined ∙ (here ∙ sym (whole ∙ texts_last (children_view (out-Element e).children) (characters (out-Element e).text))))
