use Rattle.std.proofs.Common.{◌∷◌, [], ℕ, List, Result, Ok, sym, ap, ◌∙◌}
use Rattle.std.proofs.lemmas.Result.{err_from_is_err_and}
use Rattle.xml_text.specs.Values.{character_of}
use Rattle.xml_text.specs.Views.{reference_view}
use Rattle.xml_tree.specs.Building.{Open, State, state, with_data, with_read}
use Rattle.xml_tree.specs.Values.{Refusal, placed_character}
use Rattle.xml_tree.specs.Views.{refusal_of, open_view, state_view}
use Rattle.xml_tree.proofs.Folded.{ends_bind}
use Rattle.xml_tree.proofs.Stacks.{text_put}
use Rattle.xml_tree.proofs.building.Builder.put_character.Goals as goal

pub returns-in_err-c : goal.returns-in_err-c
returns-in_err-c c =
    let p = err_from_is_err_and c.from_residual.result c.from_residual.ensures.1 in
    let s = state_view c.args.self.now in
    rw (p.1, p.2) (ends_bind (refusal_of c.in_err-c.field-0.0) (placed_character c.args.left (character_of (reference_view c.args.reference))) (λ t. Ok (with_data t (open_view c.args.inner) s.open_ones s.root)) c.in_err-c.ensures)

pub returns : goal.returns
returns c =
    let s = state_view c.args.self.now in
    ap (λ (r : Result (List ℕ) Refusal). with_read r (open_view c.args.inner) s.open_ones s.root) c.in_ok-c.ensures
    ∙ ap (λ (n : State). Ok n) (sym (c.in_ok-put_open.ensures ∙ ap (λ (o : Open). state (o ∷ s.open_ones) s.root) (text_put c.args.inner c.push_character.new.text (c.in_ok-c.c ∷ []) c.in_ok-push_character.ensures)))
