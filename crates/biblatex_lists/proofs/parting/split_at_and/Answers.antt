use Rattle.std.proofs.Common.{◌≡◌, ℕ, true, false, ◌+◌, ◌∷◌, List, take, drop, sym, ap, ◌∙◌, add-one}
use Rattle.std.proofs.lemmas.List.{drop-drop}
use Rattle.biblatex_lists.specs.declared.styled_char.StyledChar.{StyledChar}
use Rattle.biblatex_lists.specs.Parts.{begins_and, before_first, cut}
use Rattle.biblatex_lists.proofs.PartsCut.{before_none, one_more_uncut, cut_first, slice_to_end}
use Rattle.biblatex_lists.proofs.parting.split_at_and.Goals as goal

pub loop-i-init : goal.loop-i-init
loop-i-init c = sym (before_none 0 c.args.text.now)

pub returns-then-begins_and-clause-cut : goal.returns-then-begins_and-clause-cut
returns-then-begins_and-clause-cut c =
    let here : begins_and (drop c.loop-i.i c.args.text.now) ≡ true = ap begins_and (sym (slice_to_end c.args.text.now c.loop-i.i)) ∙ (sym c.begins_and.ensures ∙ c.if-begins_and.true) in
    cut_first c.args.text.now c.loop-i.i c.loop-i.invariant here
    ∙ ap (λ (ss : List StyledChar). take c.loop-i.i c.args.text.now ∷ cut ss) (drop-drop 4 c.loop-i.i c.args.text.now ∙ sym (slice_to_end c.args.text.now (c.loop-i.i + 4)))

pub loop-i-preserved : goal.loop-i-preserved
loop-i-preserved c =
    let none : begins_and (drop c.loop-i.i c.args.text.now) ≡ false = ap begins_and (sym (slice_to_end c.args.text.now c.loop-i.i)) ∙ (sym c.begins_and.ensures ∙ c.if-begins_and.false) in
    c.loop-i.invariant ∙ (one_more_uncut c.args.text.now c.loop-i.i c.loop-i-test.true none
    ∙ ap (λ (k : ℕ). before_first (take k c.args.text.now) (cut (drop k c.args.text.now))) (sym (add-one c.loop-i.i)))
