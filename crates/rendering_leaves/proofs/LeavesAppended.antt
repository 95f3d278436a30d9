-- What leaves append, by what stands on the page before and after.
use Rattle.std.proofs.Common.{◌≡◌, ℕ, Bool, ◌&&◌, List, [], Option, sym, ap, ◌∙◌}
use Rattle.std.specs.Prelude.{if◌then◌else◌}
use Rattle.rendering_context.specs.Answering.{Answer, answer_to, is_plural_variable, text_answer_to}
use Rattle.rendering_context.specs.Contexts.{Context}
use Rattle.rendering_leaves.specs.Links.{before_link, linked_answer}
use Rattle.rendering_leaves.specs.NodeSettings.{NodeSetting, State}
use Rattle.rendering_leaves.specs.Quoted.{are_inner, requoted}
use Rattle.rendering_leaves.specs.Parts.{in_label, in_number, in_text, labelled}
use Rattle.rendering_leaves.specs.Values.{after_variable, append_leaf, blank_pieces, is_blank, label_pieces, number_pieces, text_manner, text_pieces, value_pieces}
use Rattle.rendering_leaves.proofs.StatesAppended.{append-page}
use Rattle.rendering_page.specs.Pages.{Page}
use Rattle.rendering_page.specs.Pieces.{append_pieces}
use Rattle.rendering_style.specs.Nodes.{LabelLook, NumberNode, TextLook, of_value, of_variable}
use Rattle.rendering_style.specs.Nodes as nodes
use Rattle.rendering_taxonomy.specs.declared.date.LongShortForm.{LongShortForm}
use Rattle.rendering_taxonomy.specs.declared.date.LongShortForm.TheVariants as lengths
use Rattle.rendering_taxonomy.specs.declared.variable.Variable.{Variable}

module _ (c : Context) (s : NodeSetting) (old now : State) (same : now ≡ old) (page : Page) where
  -- a label
  pub label-appended : (v : Variable) (l : LabelLook) (plural : Bool) → plural ≡ is_plural_variable c v
      → page ≡ append_pieces c.quotes (in_label c s v l plural) now.page → record now { page = page } ≡ append_leaf c s (nodes.label v l) old
  label-appended v l plural is e =
      append-page c (label_pieces c s v l) old now page same (e ∙ ap (λ (b : Bool). append_pieces c.quotes (in_label c s v l b) now.page) is)

  -- a number, after which it is known that its variable was printed
  pub number-appended : (n : NumberNode) (answer : Answer) (new : State) → answer ≡ answer_to c now.suppressed lengths.Long n.variable
      → page ≡ append_pieces c.quotes (in_number c s n answer) now.page → new ≡ after_variable c s n.variable (record now { page = page })
      → new ≡ append_leaf c s (nodes.number n) old
  number-appended n answer new is e known =
      known
      ∙ ap (after_variable c s n.variable) (append-page c (number_pieces c s old.suppressed n) old now page same
      (e ∙ ap (λ (x : Answer). append_pieces c.quotes (in_number c s n x) now.page) (is ∙ ap (λ (x : State). answer_to c x.suppressed lengths.Long n.variable) same)))

  -- the answer to a variable, likewise
  pub variable-appended : (v : Variable) (form : LongShortForm) (look : TextLook) (answer linked : Answer) (before : Option (List ℕ)) (new : State) → answer ≡ requoted c (are_inner look.quotes s.inside_quotes) (text_answer_to c now.suppressed form v)
      → before ≡ before_link c.is_published look answer → linked ≡ linked_answer before answer
      → page ≡ append_pieces c.quotes (in_text c s before look (labelled c (text_manner s.manner look) v linked)) now.page → new ≡ after_variable c s v (record now { page = page })
      → new ≡ append_leaf c s (nodes.text (of_variable v form) look) old
  variable-appended v form look answer linked before new is held shown e known =
      let printed : answer ≡ requoted c (are_inner look.quotes s.inside_quotes) (text_answer_to c old.suppressed form v) =
      is ∙ ap (λ (x : State). requoted c (are_inner look.quotes s.inside_quotes) (text_answer_to c x.suppressed form v)) same in
      let stands : before ≡ before_link c.is_published look (requoted c (are_inner look.quotes s.inside_quotes) (text_answer_to c old.suppressed form v)) =
      held ∙ ap (before_link c.is_published look) printed in
      known
      ∙ ap (after_variable c s v) (append-page c (text_pieces c s old.suppressed (of_variable v form) look) old now page same
      (e ∙ ap (λ (x : Answer). append_pieces c.quotes (in_text c s before look (labelled c (text_manner s.manner look) v x)) now.page) shown
      ∙ (λ i. append_pieces c.quotes (in_text c s (stands i) look (labelled c (text_manner s.manner look) v (linked_answer (stands i) (printed i)))) now.page)))

  -- a text of the style's own, which may be white space alone
  pub value-appended : (b : Bool) (cs : List ℕ) (look : TextLook) → (c.is_published && is_blank cs) ≡ b
      → page ≡ append_pieces c.quotes (if b then blank_pieces s look cs else text_pieces c s [] (of_value cs) look) now.page
      → record now { page = page } ≡ append_leaf c s (nodes.text (of_value cs) look) old
  value-appended b cs look is e =
      append-page c (value_pieces c s look cs) old now page same
      (e ∙ sym (ap (λ (x : Bool). append_pieces c.quotes (if x then blank_pieces s look cs else text_pieces c s [] (of_value cs) look) now.page) is))
