-- What loops make of the elements of a list, one after the other: of what is left of it, and of what they have made.
use Rattle.std.proofs.Common.{◌≡◌, Bool, true, false, cond, ◌||◌, List, [], ◌∷◌, ◌++◌, map, Option, Some, None, option_to_list, refl, sym, ap, ◌∙◌, append-nil, append_assoc}
use Rattle.std.proofs.lemmas.List.{map-append}
use Rattle.std.specs.Borrow.{Bor}
use Rattle.std.specs.List.{filter_map, cons_option, find, list_any}
use Rattle.xml_tree.specs.Trees as trees
use Rattle.xml_tree.specs.Views.{element_view}
use Rattle.xml_tree.specs.declared.tree.Element.{Element}
use Rattle.csl_locales.specs.Called.{elements_of}

-- something is made of each element
pub makes_on : {Y V : Type 0} (view : Y → V) (f : trees.Element → V) (old new : List Y) (y : Y) (e : Bor Element) (rest here : List (Bor Element)) (all : List V) → here ≡ e ∷ rest
    → map view old ++ map f (elements_of here) ≡ all → view y ≡ f (element_view e.now) → new ≡ old ++ y ∷ [] → map view new ++ map f (elements_of rest) ≡ all
makes_on {Y} {V} view f old new y e rest here all steps so_far made pushed =
    let more : List V = map f (elements_of rest) in
    ap (λ (ys : List Y). map view ys ++ more) pushed
    ∙ (ap (λ (vs : List V). vs ++ more) (map-append view old (y ∷ []))
    ∙ (append_assoc (map view old) (view y ∷ []) more
    ∙ (ap (λ (v : V). map view old ++ v ∷ more) made ∙ (sym (ap (λ (es : List (Bor Element)). map view old ++ map f (elements_of es)) steps) ∙ so_far))))

pub makes_all : {Y V : Type 0} (view : Y → V) (f : trees.Element → V) (made : List Y) (here : List (Bor Element)) (all : List V) → here ≡ [] → map view made ++ map f (elements_of here) ≡ all
    → map view made ≡ all
makes_all {Y} {V} view f made here all none so_far = sym (ap (λ (es : List (Bor Element)). map view made ++ map f (elements_of es)) none ∙ append-nil (map view made)) ∙ so_far

-- something is made of some elements
consed : {V : Type 0} (o : Option V) (vs : List V) → cons_option o vs ≡ option_to_list o ++ vs
consed None vs = refl
consed (Some v) vs = refl

pub keeps_on : {Y V : Type 0} (view : Y → V) (h : trees.Element → Option V) (old new : List Y) (e : Bor Element) (rest here : List (Bor Element)) (all : List V) → here ≡ e ∷ rest
    → map view old ++ filter_map h (elements_of here) ≡ all → map view new ≡ map view old ++ option_to_list (h (element_view e.now)) → map view new ++ filter_map h (elements_of rest) ≡ all
keeps_on {Y} {V} view h old new e rest here all steps so_far pushed =
    let o : Option V = h (element_view e.now) in
    let more : List V = filter_map h (elements_of rest) in
    ap (λ (vs : List V). vs ++ more) pushed
    ∙ (append_assoc (map view old) (option_to_list o) more
    ∙ (ap (λ (vs : List V). map view old ++ vs) (sym (consed o more)) ∙ (sym (ap (λ (es : List (Bor Element)). map view old ++ filter_map h (elements_of es)) steps) ∙ so_far)))

pub keeps_all : {Y V : Type 0} (view : Y → V) (h : trees.Element → Option V) (made : List Y) (here : List (Bor Element)) (all : List V) → here ≡ []
    → map view made ++ filter_map h (elements_of here) ≡ all → map view made ≡ all
keeps_all {Y} {V} view h made here all none so_far = sym (ap (λ (es : List (Bor Element)). map view made ++ filter_map h (elements_of es)) none ∙ append-nil (map view made)) ∙ so_far

-- some element passes a test
pub any_here : (p : trees.Element → Bool) (e : Bor Element) (rest here : List (Bor Element)) (all : Bool) → here ≡ e ∷ rest → list_any p (elements_of here) ≡ all → p (element_view e.now) ≡ true → true ≡ all
any_here p e rest here all steps so_far is =
    sym (ap (λ (es : List (Bor Element)). list_any p (elements_of es)) steps ∙ ap (λ (b : Bool). b || list_any p (elements_of rest)) is) ∙ so_far

pub any_later : (p : trees.Element → Bool) (e : Bor Element) (rest here : List (Bor Element)) (all : Bool) → here ≡ e ∷ rest → list_any p (elements_of here) ≡ all → p (element_view e.now) ≡ false
    → list_any p (elements_of rest) ≡ all
any_later p e rest here all steps so_far is =
    sym (ap (λ (es : List (Bor Element)). list_any p (elements_of es)) steps ∙ ap (λ (b : Bool). b || list_any p (elements_of rest)) is) ∙ so_far

pub any_none : (p : trees.Element → Bool) (here : List (Bor Element)) (all : Bool) → here ≡ [] → list_any p (elements_of here) ≡ all → false ≡ all
any_none p here all none so_far = sym (ap (λ (es : List (Bor Element)). list_any p (elements_of es)) none) ∙ so_far

-- the first element that passes a test
pub find_here : (p : trees.Element → Bool) (e : Bor Element) (rest here : List (Bor Element)) (all : Option trees.Element) → here ≡ e ∷ rest → find p (elements_of here) ≡ all
    → p (element_view e.now) ≡ true → all ≡ Some (element_view e.now)
find_here p e rest here all steps so_far is =
    sym so_far
    ∙ (ap (λ (es : List (Bor Element)). find p (elements_of es)) steps ∙ ap (λ (b : Bool). cond b (Some (element_view e.now)) (find p (elements_of rest))) is)

pub find_later : (p : trees.Element → Bool) (e : Bor Element) (rest here : List (Bor Element)) (all : Option trees.Element) → here ≡ e ∷ rest → find p (elements_of here) ≡ all
    → p (element_view e.now) ≡ false → find p (elements_of rest) ≡ all
find_later p e rest here all steps so_far is =
    sym (ap (λ (es : List (Bor Element)). find p (elements_of es)) steps ∙ ap (λ (b : Bool). cond b (Some (element_view e.now)) (find p (elements_of rest))) is) ∙ so_far

pub find_none : (p : trees.Element → Bool) (here : List (Bor Element)) (all : Option trees.Element) → here ≡ [] → find p (elements_of here) ≡ all → all ≡ None
find_none p here all none so_far = sym so_far ∙ ap (λ (es : List (Bor Element)). find p (elements_of es)) none
