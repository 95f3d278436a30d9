-- Lines of a text, character after character.
use Rattle.std.proofs.Common.{◌≡◌, ℕ, Bool, false, eqb, List, [], ◌∷◌, ◌++◌, map, sym, ap, ◌∙◌, append_assoc}
use Rattle.std.proofs.lemmas.List.{map-append, map-id, append-nil}
use Rattle.xml_tree.specs.Values.{line_part, lines_from, shown}

-- what was appended, and what the rest of the text stands for
abbrev pub Appends : Bool → List ℕ → Bool → List ℕ → List ℕ → Type 0
Appends in_value so_far returned rest all = so_far ++ map (shown in_value) (lines_from returned rest) ≡ all

-- one more character
pub appends_more : (in_value returned : Bool) (so_far now rest more all : List ℕ) (c : ℕ) → Appends in_value so_far returned rest all → rest ≡ c ∷ more
    → now ≡ so_far ++ map (shown in_value) (line_part returned c) → Appends in_value now (eqb c 13) more all
appends_more in_value returned so_far now rest more all c is e f =
    let f1 = shown in_value in
    let part = line_part returned c in
    let others = lines_from (eqb c 13) more in
    ap (λ (x : List ℕ). x ++ map f1 others) f ∙ (append_assoc so_far (map f1 part) (map f1 others) ∙ (ap (λ (x : List ℕ). so_far ++ x) (sym (map-append f1 part others))
    ∙ (ap (λ (x : List ℕ). so_far ++ map f1 (lines_from returned x)) (sym e) ∙ is)))

pub shown_data : (cs : List ℕ) → map (shown false) cs ≡ cs
shown_data cs = map-id cs

-- nothing is left
pub appends_end : (in_value returned : Bool) (so_far rest all : List ℕ) → Appends in_value so_far returned rest all → rest ≡ [] → so_far ≡ all
appends_end in_value returned so_far rest all is e =
    sym (append-nil so_far) ∙ (ap (λ (x : List ℕ). so_far ++ map (shown in_value) (lines_from returned x)) (sym e) ∙ is)
