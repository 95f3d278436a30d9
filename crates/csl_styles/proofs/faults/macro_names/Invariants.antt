use Rattle.std.proofs.Common.{◌≡◌, ◌||◌, ℕ, List, length, map}
use Rattle.std.specs.Vec.Iter.{into_iter_items, into_iter_len}
use Rattle.xml_tree.specs.Views.{element_view}
use Rattle.csl_locales.specs.Called.{elements_of}
use Rattle.csl_locales.specs.Sets.{has_text, is_one_of}
use Rattle.csl_styles.specs.Faults as specs
use Rattle.csl_styles.specs.Faults.{macro_name}
use Rattle.csl_styles.proofs.faults.macro_names.Given as goal

abbrev pub invariant-loop-part : goal.invariant-loop-part
invariant-loop-part l = record {
  known : (t : List ℕ) → (has_text l.names t || is_one_of (map macro_name (elements_of (into_iter_items l.part-iterator))) t) ≡ is_one_of (specs.macro_names (element_view l.root)) t;
  long : into_iter_len l.part-iterator ≡ length (into_iter_items l.part-iterator);
}
