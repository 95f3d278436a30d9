use Rattle.std.proofs.Common.{◌≡◌, ◌≤◌, drop, length, map}
use Rattle.std.specs.List.{position_from}
use Rattle.rendering_taxonomy.specs.declared.term.Term.{Term}
use Rattle.rendering_taxonomy.specs.declared.term.TermForm.{TermForm}
use Rattle.rendering_locale.specs.Indexed.{is_named, place_of}
use Rattle.rendering_locale.specs.TermViews.{term_view}
use Rattle.rendering_locale.proofs.terms.index_of.Given as goal

abbrev pub invariant-loop-left : goal.invariant-loop-left
invariant-loop-left l = record {
  placed : (name : Term) (form : TermForm) → place_of l.index name form ≡ position_from (is_named name form) l.left (map term_view (drop l.left l.terms));
  within : l.left ≤ length l.terms;
}

abbrev pub decreases-loop-left : goal.decreases-loop-left
decreases-loop-left l = l.left
