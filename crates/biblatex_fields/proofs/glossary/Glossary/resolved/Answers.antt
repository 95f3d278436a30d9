use Rattle.std.proofs.Common.{◌≡◌, ◌+◌, ℕ, List, [], ◌∷◌, ◌++◌, map, take, length, sym, ap, subst, ◌∙◌, arith, length-take-le}
use Rattle.std.proofs.lemmas.List.{length-map, take_all}
use Rattle.biblatex_text.specs.Views.{field_view, piece_view}
use Rattle.biblatex_text.specs.declared.raw.Pair.{Pair}
use Rattle.biblatex_text.specs.declared.spanned.Spanned.{Spanned}
use Rattle.biblatex_text.specs.declared.raw.RawChunk.{RawChunk}
use Rattle.biblatex_fields.specs.Abbreviations.{Glossary, AreFlags}
use Rattle.biblatex_fields.specs.Openings.{Replacement, resolved_piece_view, resolved_at, unresolved, unresolved_at}
use Rattle.biblatex_fields.proofs.OpeningsReplacements.{replacement_same, resolved_more}
use Rattle.biblatex_fields.proofs.AbbreviationsTaken.{one_longer, one_more}
use Rattle.biblatex_fields.proofs.glossary.Glossary.resolved.Goals as goal

pub loop-definition-init : goal.loop-definition-init
loop-definition-init c = record {
  long = ap length c.in_ok-resolved.ensures.items;
  each = λ v index. rw c.in_ok-resolved.ensures.items (replacement_same c.args.self.now v []);
}

pub loop-definition-preserved : goal.loop-definition-preserved
loop-definition-preserved c =
    let g = c.args.self.now in
    let ps = c.self.inside.definitions.now in
    let i = c.loop-definition.definition-index in
    let vs = c.loop-definition.resolved.items in
    let new = c.in_ok-resolve.field-0 in
    let d = c.definition-item.result in
    let count : length vs ≡ length (map field_view (take i ps)) = c.loop-definition.invariant.long ∙ (sym (length-take-le i ps (omega (arith, c.loop-definition-test.true))) ∙ sym (length-map (take i ps) field_view)) in
    let longer : map field_view (take (i + 1) ps) ≡ map field_view (take i ps) ++ field_view d ∷ [] = one_more field_view ps i d c.loop-definition-test.true ∙ ap (λ (x : Pair). map field_view (take i ps) ++ field_view x ∷ []) (sym c.definition-item.is) in
    record {
      long = ap length c.in_ok-push.ensures.items ∙ (one_longer vs new ∙ ap (λ (n : ℕ). n + 1) c.loop-definition.invariant.long);
      each = λ v index.
          let one = subst (λ (x : List (Spanned RawChunk)). Replacement g v (map resolved_piece_view new.items) (map unresolved (map piece_view x))) c.as_slice.ensures.value (c.in_ok-resolve.ensures v) in
          rw (c.in_ok-push.ensures.items, longer) (resolved_more g v vs (map field_view (take i ps)) new (field_view d) count (c.loop-definition.invariant.each v) one index);
    }

pub returns : goal.returns
returns c =
    let ps = c.self.inside.definitions.now in
    let vs = c.loop-definition.resolved.items in
    record {
      flags = subst (λ (x : Glossary). AreFlags x.flags x.definitions) c.self.view_is c.self.invariant.1;
      each = λ v index. subst (λ (x : Glossary). Replacement c.args.self.now v (resolved_at vs index) (unresolved_at x.definitions index)) c.self.view_is
          (subst (λ (x : List Pair). Replacement c.args.self.now v (resolved_at vs index) (unresolved_at (map field_view x) index)) (take_all c.loop-definition.definition-index ps (omega arith)) (c.loop-definition.invariant.each v index));
    }
