use Rattle.std.proofs.Common.{◌≡◌, ◌<◌, Some, get_or, length, string_bytes, sym, ap, ◌∙◌, arith}
use Rattle.std.proofs.lemmas.List.{length-map}
use Rattle.rendering_context.specs.Views.{state_view}
use Rattle.rendering_tree.specs.Views.{tree_view}
use Rattle.driver_names.specs.Views.{printed_again, printed_view}
use Rattle.driver_disambiguation.specs.Numbered.{number_under}
use Rattle.driver_disambiguation.proofs.Numbering.{renumbered, view_set, still_numbered}
use Rattle.driver_disambiguation.proofs.printed_cites.PrintedCites.print_by.Goals as goal

pub number_of-requires : goal.number_of-requires
number_of-requires c = c.args.self.now.numbered.0

pub invariant_of-self : goal.invariant_of-self
invariant_of-self c =
    let old = c.args.self.now in
    record { numbered = still_numbered old.texts c.number_of.new.texts old.numbers.items old.cites.items old.numbered c.number_of.ensures.texts c.number_of.ensures.still }

pub invariant_of-self-2 : goal.invariant_of-self-2
invariant_of-self-2 c =
    let old = c.args.self.now in
    let new = c.number_of.new.texts in
    let has : number_under new (string_bytes c.set_print.new.self.text) ≡ Some c.in_ok-number.number =
    ap (λ t. number_under new (string_bytes t)) c.set_print.ensures.text ∙ ap (number_under new) (sym c.as_str.ensures.value) ∙ c.in_ok-number.ensures.number in
    record { numbered = renumbered old.texts new old.numbers.items old.cites.items c.args.cite c.in_ok-number.number c.set_print.new.self old.numbered c.in_ok-number.ensures.texts c.in_ok-number.ensures.still has }

pub returns : goal.returns
returns c =
    let cites = c.args.self.now.cites.items in
    let low : c.args.cite < length cites = omega (arith, c.requires, length-map cites printed_view) in
    let old = c.index_mut-2.result.now in
    let is : old ≡ get_or cites c.args.cite old = c.index_mut-2.ensures.value in
    λ d. view_set printed_view (λ s. printed_again s (state_view c.args.state) (tree_view c.args.printed)) cites c.args.cite old c.set_print.new.self d low is c.set_print.ensures.print
