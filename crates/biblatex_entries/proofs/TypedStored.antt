-- What a field has that was given a value.
use Rattle.std.proofs.Common.{◌≡◌, ℕ, List, Option, Some, refl, ap, ◌∙◌}
use Rattle.std.specs.Option.{option_map}
use Rattle.std.proofs.lemmas.Slice.Eq.{bytes_eq-Decides}
use Rattle.biblatex_content.specs.Styled.{Member}
use Rattle.biblatex_fields.specs.Fields.{Named, value_named, text_named, with_field}
use Rattle.biblatex_fields.specs.Value.{Value}
use Rattle.biblatex_fields.proofs.FieldsLookUps.{put_found}
use Rattle.biblatex_entries.specs.Entries.{Source, with_value, HasSet}

-- a field that was given a value has it
value_put : (fs : List Named) (name : List ℕ) (v : Value) → value_named name (with_field fs name v) ≡ Some v
value_put fs name v = put_found fs name v name ∙ rw ((bytes_eq-Decides name name).1 refl) refl

pub has_set : (old new : Source) (name : List ℕ) (ms : List Member) (v : Value) → v.text ≡ ms → new ≡ with_value old name v → HasSet old name ms new
has_set old new name ms v spells put = record { value = v; spells = spells; put = put }

-- a look-up finds its text
pub text_put : (old new : Source) (name : List ℕ) (ms : List Member) (v : Value) → v.text ≡ ms → new ≡ with_value old name v → text_named name new.fields ≡ Some ms
text_put old new name ms v spells put =
    ap (λ (e : Source). text_named name e.fields) put ∙ (ap (option_map (λ (x : Value). x.text)) (value_put old.fields name v) ∙ ap (λ (x : List Member). Some x) spells)
