-- What the options print of people, as it lies in memory.
use Rattle.std.proofs.Common.{arith, ◌≡◌, ℕ, ◌+◌, ◌-◌, ◌≤◌, List, [], ◌∷◌, map, length, replicate, true, Bool, false, Option, Some, None, refl, ap, ◌∙◌}
use Rattle.std.specs.Prelude.{nat_le, ◌&&◌}
use Rattle.std.specs.List.{list_all}
use Rattle.std.proofs.lemmas.List.{length-replicate, take-replicate, drop-replicate}
use Rattle.std.proofs.lemmas.Bool.Decides.{nat_tests}
use Rattle.rendering_style.specs.Options.{NameOptions}
use Rattle.rendering_tree.specs.Metas.{Answered}
use Rattle.rendering_people.specs.Counts.{cut, all_people, is_within, IsWhole}
use Rattle.rendering_names.specs.Counts.{own_count, people_count}
use Rattle.rendering_names.specs.Names.{shown_by, shown_of, own_properties, base_form}
use Rattle.rendering_taxonomy.specs.declared.name.DisambiguatedNameForm.{DisambiguatedNameForm}

-- what the options print of people
pub cut-own : (o : NameOptions) (first : Bool) (people : List Answered) → cut (map (own_count o first) people) (replicate (people_count people) (base_form o)) ≡ map (own_properties o first) people
cut-own o first [] = refl
cut-own o first (a ∷ people) =
    let n = length a.0 in
    let m = people_count people in
    let low : n ≤ n + m = omega arith in
    let rest : n + m - n ≡ m = omega arith in
    λ i. record { variable = a.1; forms = take-replicate n (n + m) (base_form o) low i; shown = shown_of o first n }
    ∷ (ap (cut (map (own_count o first) people)) (drop-replicate n (n + m) (base_form o) ∙ ap (λ k. replicate k (base_form o)) rest) ∙ cut-own o first people) i

people-own : (o : NameOptions) (first : Bool) (people : List Answered) → people_count people ≡ all_people (map (own_count o first) people)
people-own o first [] = refl
people-own o first (a ∷ people) = ap (λ k. length a.0 + k) (people-own o first people)

shown_by-within : (least first : Option ℕ) (n : ℕ) → nat_le (shown_by least first n) n ≡ true
shown_by-within (Some least) (Some first) n = grind (arith, nat_tests)
shown_by-within (Some least) None n = grind (arith, nat_tests)
shown_by-within None (Some first) n = grind (arith, nat_tests)
shown_by-within None None n = grind (arith, nat_tests)

shown_of-within : (o : NameOptions) (first : Bool) (n : ℕ) → nat_le (shown_of o first n) n ≡ true
shown_of-within o true n = shown_by-within o.et_al_min o.et_al_use_first n
shown_of-within o false n = shown_by-within _ _ n

within-own : (o : NameOptions) (first : Bool) (people : List Answered) → list_all is_within (map (own_count o first) people) ≡ true
within-own o first [] = refl
within-own o first (a ∷ people) = λ i. shown_of-within o first (length a.0) i && within-own o first people i

pub whole-own : (o : NameOptions) (first : Bool) (f : DisambiguatedNameForm) (people : List Answered) → IsWhole (map (own_count o first) people) (replicate (people_count people) f)
whole-own o first f people = record { people = length-replicate (people_count people) f ∙ people-own o first people; shown = within-own o first people }
