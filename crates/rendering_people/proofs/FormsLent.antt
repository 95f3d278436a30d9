-- A form that is borrowed, and what the properties are after it was changed.
use Rattle.std.proofs.Common.{◌≡◌, ℕ, List, Option, Some, None, MutBor, length, refl, sym, ap, ◌∙◌}
use Rattle.std.specs.Prelude.{slice_set, slice_get}
use Rattle.std.specs.List.{IsItemAtMut}
use Rattle.std.specs.Option.{option_map}
use Rattle.std.proofs.lemmas.List.{length-set}
use Rattle.std.proofs.lemmas.Option.{slice_get_past, slice_get_read}
use Rattle.rendering_people.specs.Counts.{cut, all_people, IsWhole}
use Rattle.rendering_people.specs.Properties.{Properties, form_at, with_form}
use Rattle.rendering_people.specs.declared.properties.PeopleCount.{PeopleCount}
use Rattle.rendering_people.proofs.CountsWhole.{all_forms-cut, cut-set}
use Rattle.rendering_taxonomy.specs.declared.name.DisambiguatedNameForm.{DisambiguatedNameForm}

-- what is written at an index
pub written : (cs : List PeopleCount) (fs : List DisambiguatedNameForm) (i : ℕ) (ps : Properties) → length fs ≡ all_people cs → cut cs fs ≡ ps
    → (f : DisambiguatedNameForm) → cut cs (slice_set fs i f) ≡ with_form i f ps
written cs fs i ps people view f = sym (cut-set i f cs fs people) ∙ ap (with_form i f) view

-- it is whole still
pub whole-set : (cs : List PeopleCount) (fs : List DisambiguatedNameForm) (i : ℕ) (f : DisambiguatedNameForm) → IsWhole cs fs → IsWhole cs (slice_set fs i f)
whole-set cs fs i f w = record { people = length-set fs i f ∙ w.people; shown = w.shown }

item : (fs : List DisambiguatedNameForm) (i : ℕ) (r : Option (MutBor DisambiguatedNameForm)) → IsItemAtMut fs i r → option_map (λ f. f.now) r ≡ slice_get fs i
item fs i None h = sym (slice_get_past fs i h.3)
item fs i (Some f) h = sym (slice_get_read fs (length fs) i f.now refl h.3.0 h.1)

-- what is borrowed is the form at the index
pub borrowed : (cs : List PeopleCount) (fs : List DisambiguatedNameForm) (i : ℕ) (ps : Properties) (r : Option (MutBor DisambiguatedNameForm)) → length fs ≡ all_people cs → cut cs fs ≡ ps
    → IsItemAtMut fs i r → option_map (λ f. f.now) r ≡ form_at i ps
borrowed cs fs i ps r people view h = item fs i r h ∙ ap (λ (gs : List DisambiguatedNameForm). slice_get gs i) (sym (all_forms-cut cs fs people)) ∙ ap (form_at i) view
