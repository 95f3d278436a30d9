-- What loops gather by each of some elements: of those that are left, and of what they have gathered.
use Rattle.std.proofs.Common.{◌≡◌, List, [], ◌∷◌, ◌++◌, map, sym, ap, ◌∙◌, append-nil, append_assoc}
use Rattle.std.specs.Prelude.{flat_map}
use Rattle.std.specs.Borrow.{Bor}
use Rattle.xml_tree.specs.Trees as trees
use Rattle.xml_tree.specs.Views.{element_view}
use Rattle.xml_tree.specs.declared.tree.Element.{Element}
use Rattle.csl_locales.specs.Called.{elements_of}

pub gathers_on : {Y V : Type 0} (view : Y → V) (f : trees.Element → List V) (old new : List Y) (e : Bor Element) (rest here : List (Bor Element)) (all : List V) → here ≡ e ∷ rest
    → map view old ++ flat_map f (elements_of here) ≡ all → map view new ≡ map view old ++ f (element_view e.now) → map view new ++ flat_map f (elements_of rest) ≡ all
gathers_on {Y} {V} view f old new e rest here all steps so_far gathered =
    let more : List V = flat_map f (elements_of rest) in
    ap (λ (vs : List V). vs ++ more) gathered
    ∙ (append_assoc (map view old) (f (element_view e.now)) more ∙ (sym (ap (λ (es : List (Bor Element)). map view old ++ flat_map f (elements_of es)) steps) ∙ so_far))

pub gathers_all : {Y V : Type 0} (view : Y → V) (f : trees.Element → List V) (made : List Y) (here : List (Bor Element)) (all : List V) → here ≡ [] → map view made ++ flat_map f (elements_of here) ≡ all
    → map view made ≡ all
gathers_all {Y} {V} view f made here all none so_far = sym (ap (λ (es : List (Bor Element)). map view made ++ flat_map f (elements_of es)) none ∙ append-nil (map view made)) ∙ so_far
