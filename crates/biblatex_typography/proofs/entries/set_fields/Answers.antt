use Rattle.std.proofs.Common.{◌≡◌, List, [], ◌∷◌, String, Vec, Global, length, sym, ap, ◌∙◌, arith}
use Rattle.std.specs.Vec.Iter.{into_iter_items}
use Rattle.std.proofs.lemmas.List.{nil_from_length}
use Rattle.biblatex_text.specs.declared.spanned.Spanned.{Spanned}
use Rattle.biblatex_content.specs.declared.chunk.Chunk.{Chunk}
use Rattle.biblatex_fields.specs.Fields.{Named, named_fields_view}
use Rattle.biblatex_typography.specs.Changes.{with_fields}
use Rattle.biblatex_typography.proofs.entries.set_fields.Goals as goal

abbrev Entries : Type 0
Entries = List (String Global × Vec (Spanned Chunk) Global)

pub loop-name-init : goal.loop-name-init
loop-name-init c =
    let e = c.into_iter-name-iterator.ensures.into_iter_gives in
    record {
      same = ap (λ (es : Entries). with_fields c.args.fields.now (named_fields_view es)) e.0;
      long = e.1 ∙ (c.args.changed.ok.0 ∙ sym (ap length e.0));
    }

pub loop-name-preserved : goal.loop-name-preserved
loop-name-preserved c =
    let rest = into_iter_items c.next.new.self in
    let steps : into_iter_items c.loop-name.name-iterator ≡ (c.in-Some.name, c.in-Some.value) ∷ rest = c.in-Some.ensures.steps.0 in
    record {
      same =
          ap (λ (fs : List Named). with_fields fs (named_fields_view rest)) c.in_ok-insert.ensures.ok
          ∙ (ap (λ (es : Entries). with_fields c.loop-name.fields (named_fields_view es)) (sym steps) ∙ c.loop-name.invariant.same);
      long = omega (arith, c.loop-name.invariant.long, ap length steps, c.in-Some.ensures.steps.1);
    }

pub returns : goal.returns
returns c =
    let none : into_iter_items c.loop-name.name-iterator ≡ [] = nil_from_length _ (sym c.loop-name.invariant.long ∙ c.in-None.ensures.steps.0) in
    ap (λ (es : Entries). with_fields c.loop-name.fields (named_fields_view es)) (sym none) ∙ c.loop-name.invariant.same
