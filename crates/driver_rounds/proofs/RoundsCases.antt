-- Whose style adds names, and where they stay, computed.
use Rattle.std.proofs.Common.{◌≡◌, ℕ, Bool, true, false, List, [], ◌∷◌, refl, None}
use Rattle.rendering_style.specs.Styles.{Citation}
use Rattle.rendering_context.specs.Contexts.{StyleContext}
use Rattle.driver_requests.specs.Cites.{Numbered}
use Rattle.driver_requests.specs.Requests.{Request}
use Rattle.driver_rounds.specs.FirstPrints.{adds_names, first_states, naming_in, rule_in, ruled_states}

-- a request without items, in a style that adds names or not
adding : StyleContext → Bool → Request ℕ
adding x adds = record { context = record x { style = record x.style { citation = record x.style.citation { add_names = adds } } }; note_number = None; items = [] }

-- the first request decides, also without items
first_adds : (x : StyleContext) → adds_names (adding x true ∷ adding x false ∷ []) ≡ true
unfolding adding
first_adds x = refl

first_does_not : (x : StyleContext) → adds_names (adding x false ∷ adding x true ∷ []) ≡ false
unfolding adding
first_does_not x = refl

-- where names are compared with those of the same entry too, none stay: the states by first names are those by a rule
none_stay : {P : Type 0} (c : Citation) (count : ℕ) (ns : List (Numbered P)) → first_states (naming_in (record c { same_entry_is_no_rival = false })) count ns ≡ ruled_states (rule_in c) count ns
none_stay c count ns = refl
