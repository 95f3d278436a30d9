-- The chunks of fields that are read are joined.
use Rattle.std.proofs.Common.{◌≡◌, ℕ, Bool, true, false, cond, List, [], ◌∷◌, Some, Result, Ok, Err, bytes_eq, refl, sym, ap, subst}
use Rattle.laws.specs.Results.{◌>>=◌}
use Rattle.laws.specs.Text.{lowered}
use Rattle.biblatex_text.specs.Raw.{At, Field}
use Rattle.biblatex_content.specs.Styled.{Member}
use Rattle.biblatex_fields.specs.Abbreviations.{Glossary}
use Rattle.biblatex_fields.specs.Refusals.{Refusal}
use Rattle.biblatex_fields.specs.Fields.{Named, value_named, with_field, fields_after, fields_of, IsJoined, AreJoined}
use Rattle.biblatex_fields.specs.Value.{Value, value_from, members_of, value_in, value_of}
use Rattle.biblatex_fields.proofs.FieldsLookUps.{put_found}

abbrev inner : {A : Type 0} → A → Result A Refusal → A
inner d (Ok x) = x
inner d (Err f) = d

-- the chunks of a field that is read are joined
value_joined : (g : Glossary) (f : Field) (v : Value) → value_of g f ≡ Ok v → v.is_joined ≡ true
unfolding value_in
value_joined g f v is = by_members (members_of g f.name.v f.value.v) is
  where
    by_members : (r : Result (List (At Member)) Refusal) → (r >>= λ ms. Ok (value_from ms)) ≡ Ok v → v.is_joined ≡ true
    by_members (Ok ms) is = ap (λ (x : Result Value Refusal). (inner v x).is_joined) (sym is)
    by_members (Err f) is = absurd cc

-- fields whose chunks are joined still are with one more such field
joined_put : (fs : List Named) (name : List ℕ) (v : Value) → AreJoined fs → v.is_joined ≡ true → AreJoined (with_field fs name v)
joined_put fs name v all one q = subst IsJoined (sym (put_found fs name v q)) (by_test (bytes_eq q name))
  where
    by_test : (b : Bool) → IsJoined (cond b (Some v) (value_named q fs))
    by_test true = one
    by_test false = all q

joined_after : (g : Glossary) (done : List Named) (fs : List Field) (read : List Named) → AreJoined done → fields_after g done fs ≡ Ok read → AreJoined read
joined_after g done [] read all is = subst AreJoined (ap (inner done) is) all
joined_after g done (f ∷ fs) read all is = by_value (value_of g f) refl is (λ v joined. joined_after g (with_field done (lowered f.name.v) v) fs read (joined_put done (lowered f.name.v) v all joined))
  where
    by_value : (r : Result Value Refusal) → value_of g f ≡ r → (r >>= λ v. fields_after g (with_field done (lowered f.name.v) v) fs) ≡ Ok read
        → ((v : Value) → v.is_joined ≡ true → fields_after g (with_field done (lowered f.name.v) v) fs ≡ Ok read → AreJoined read) → AreJoined read
    by_value (Ok v) value_is is more = more v (value_joined g f v value_is) is
    by_value (Err e) value_is is more = absurd cc

-- the chunks of an entry's fields are joined
pub fields_joined : (g : Glossary) (fs : List Field) (read : List Named) → fields_of g fs ≡ Ok read → AreJoined read
fields_joined g fs read is = joined_after g [] fs read (λ name. tt) is
