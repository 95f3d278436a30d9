-- Cases of substitution and first fields, computed.
use Rattle.std.proofs.Common.{◌≡◌, ℕ, false, List, [], ◌∷◌, map, codes, refl, Some, None}
use Rattle.rendering_taxonomy.specs.Formats.{plain}
use Rattle.rendering_tree.specs.Metas.{Names, Name, Number}
use Rattle.rendering_tree.specs.Trees.{Child, Children, Text, Elem, nothing, before, names_element}
use Rattle.rendering_tree.specs.Writing.{plain_text}
use Rattle.driver_bibliography.specs.Substitution.{Printed}
use Rattle.driver_bibliography.specs.Items.{all_substituted, fields_by}
use Rattle.rendering_taxonomy.specs.declared.style.SecondFieldAlign.TheVariants as aligns
use Rattle.rendering_taxonomy.specs.declared.style.SubsequentAuthorSubstituteRule.{SubsequentAuthorSubstituteRule}
use Rattle.rendering_taxonomy.specs.declared.style.SubsequentAuthorSubstituteRule.TheVariants as rules
use Rattle.rendering_taxonomy.specs.declared.variable.NameVariable.TheVariants as name

-- a text
words : List ℕ → Child
words cs = Text plain cs

-- a single name
single : ℕ → List ℕ → Child
single n cs = Elem None (Some (Name name.Author n)) (before (words cs) nothing)

-- an item of two authors
item : List ℕ → List ℕ → List ℕ → Children
item one two title =
    before (Elem None (Some (Names [])) (before (single 0 one) (before (words (codes " and ")) (before (single 1 two) nothing))))
    (before (words (codes ". ")) (before (words title) nothing))

-- the item of a work without authors, whose title is their substitute
untitled : List ℕ → Children
untitled title = before (Elem None (Some (Names [])) (before (words title) nothing)) nothing

-- an item whose names are as they were before texts met
printed : Children → Printed
printed tree = record { tree = tree; names = names_element tree }

-- the texts of items by a rule
texts : SubsequentAuthorSubstituteRule → List Children → List (List ℕ)
texts rule items = map plain_text (all_substituted false rule (Some (codes "---")) (map printed items))

p : Children
p = item (codes "Roe") (codes "Lee") (codes "P")

q : Children
q = item (codes "Roe") (codes "Poe") (codes "Q")

s : Children
s = item (codes "Roe") (codes "Lee") (codes "S")

u : Children
u = item (codes "Roe") (codes "Poe") (codes "U")

complete_all : texts rules.CompleteAll (p ∷ s ∷ q ∷ []) ≡ codes "Roe and Lee. P" ∷ codes "---. S" ∷ codes "Roe and Poe. Q" ∷ []
unfolding texts printed p s q item single words
complete_all = refl

complete_each : texts rules.CompleteEach (p ∷ s ∷ q ∷ []) ≡ codes "Roe and Lee. P" ∷ codes "--- and ---. S" ∷ codes "Roe and Poe. Q" ∷ []
unfolding texts printed p s q item single words
complete_each = refl

partial_each : texts rules.PartialEach (p ∷ q ∷ u ∷ []) ≡ codes "Roe and Lee. P" ∷ codes "--- and Poe. Q" ∷ codes "--- and ---. U" ∷ []
unfolding texts printed p q u item single words
partial_each = refl

partial_first : texts rules.PartialFirst (p ∷ s ∷ q ∷ []) ≡ codes "Roe and Lee. P" ∷ codes "--- and Lee. S" ∷ codes "--- and Poe. Q" ∷ []
unfolding texts printed p s q item single words
partial_first = refl

substitutes : texts rules.PartialEach (untitled (codes "T") ∷ untitled (codes "T") ∷ untitled (codes "U") ∷ []) ≡ codes "T" ∷ codes "---" ∷ codes "U" ∷ []
unfolding texts printed untitled words
substitutes = refl

-- items without names are passed over
passed_over : texts rules.CompleteAll (p ∷ before (words (codes "N")) nothing ∷ s ∷ []) ≡ codes "Roe and Lee. P" ∷ codes "N" ∷ codes "---. S" ∷ []
unfolding texts printed p s item single words
passed_over = refl

-- an item that begins with its number
numbered : Children
numbered = before (Elem None (Some Number) (before (words (codes "[1] ")) nothing)) (before (words (codes "T")) nothing)

first_field : plain_text (fields_by (Some aligns.Margin) numbered).content ≡ codes "T"
unfolding numbered words
first_field = refl

no_first_field : (fields_by None numbered).first_field ≡ None
no_first_field = refl
