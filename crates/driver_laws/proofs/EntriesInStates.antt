-- All cites of an entry have one number and one state.
use Rattle.std.proofs.Common.{◌≡◌, refl, sym, ap, ◌∙◌, Option}
use Rattle.std.specs.Prelude.{Bool}
use Rattle.std.specs.List.{AllByRecursion}
use Rattle.std.proofs.lemmas.List.Elements.{All-contains, All-from_recursion}
use Rattle.driver_requests.specs.Cites.{Cite, cites_of}
use Rattle.driver_disambiguation.specs.States.{state_of}
use Rattle.driver_disambiguation.specs.Rounds.{Disambiguation}
use Rattle.driver_blocks.specs.Runs.{Arranged}
use Rattle.driver_rounds.specs.Documents.{Document, number_of}
use Rattle.driver_laws.specs.Laws.{EntriesHaveOneNumberAndState, entry_final}
use Rattle.driver.specs.Stages.{finals_of, Final, final, finals_in, first_print_of}
use Rattle.driver_rounds.specs.FirstPrints.{FirstPrint, disambiguated_in, entry_of_first, first_print, first_prints_in, named_after}
use Rattle.driver.proofs.FinalPrintsOf.{finals_all, prints_all}
use Rattle.driver.proofs.Members.{every_all, flat_all}

module _ {P : Type 0} (same : P → P → Bool) (d : Document P) (t : Disambiguation) where
  -- a cite has the number of its entry
  abbrev IsNumbered : FirstPrint P → Type 0
  IsNumbered b = b.numbered.number ≡ number_of d (entry_of_first b)

  -- a cite has the number and the state of its entry
  abbrev pub IsInState : Final P → Type 0
  IsInState f = (f.properties.citation_number ≡ number_of d (entry_final f)) × (f.properties.disambiguation ≡ state_of t.states (entry_final f))

  first_one : (p : Option (Cite P) × Cite P) → Unit {0} → IsNumbered (first_print (named_after same d p))
  first_one (last, c) h = refl

  first_all : AllByRecursion (AllByRecursion IsNumbered) (first_prints_in same d)
  first_all = prints_all same d (λ c. Unit {0}) IsNumbered first_one (every_all (AllByRecursion (λ c. Unit {0})) (every_all (λ c. Unit {0}) (λ c. tt)) (cites_of d.requests))

  final_one : (p : Option (Arranged (FirstPrint P)) × Arranged (FirstPrint P)) → IsNumbered (first_print_of p.1) → IsInState (final same t p)
  final_one (last, a) h = (h, refl)

  -- all cites have the number and the state of their entry
  pub all_in_states : AllByRecursion (AllByRecursion IsInState) (finals_in same d (first_prints_in same d) t)
  all_in_states = finals_all same t IsNumbered IsInState final_one d.requests (first_prints_in same d) first_all

-- all cites of an entry have one number and one state
pub entries_in_states : (P : Type 0) → EntriesHaveOneNumberAndState P
entries_in_states P = λ same d f g has_f has_g one.
    let t = disambiguated_in d (first_prints_in same d) in
    let in_states = flat_all (IsInState same d t) (λ xs. xs) (finals_in same d (first_prints_in same d) t) (all_in_states same d t) in
    let all = All-from_recursion (IsInState same d t) (finals_of same d) in_states in
    let of_f = All-contains (IsInState same d t) (finals_of same d) f all has_f in
    let of_g = All-contains (IsInState same d t) (finals_of same d) g all has_g in
    (of_f.0 ∙ ap (number_of d) one ∙ sym of_g.0, of_f.1 ∙ ap (state_of t.states) one ∙ sym of_g.1)
