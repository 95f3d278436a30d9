-- Fields whose names have their slots marked.
use Rattle.std.proofs.Common.{◌≡◌, ℕ, Bool, true, false, cond, ◌==◌, ◌||◌, List, [], ◌∷◌, Some, None, bytes_eq, refl, sym, ap, ◌∙◌, true≢false, eq-eqb}
use Rattle.std.proofs.lemmas.Slice.Eq.{bytes_eq-Decides}
use Rattle.biblatex_fields.specs.Fields.{Named, value_named, with_field, without_field, AreInOrder}
use Rattle.biblatex_fields.specs.Slots.{slot, is_marked, AreMarked}
use Rattle.biblatex_fields.specs.Value.{Value}
use Rattle.biblatex_fields.proofs.FieldsLookUps.{put_found, removed_found}

-- the slots that are marked after are those that were marked before and the slot of a name
abbrev pub MarksOneMore : ℕ → List ℕ → ℕ → Type 0
MarksOneMore before name after = (q : List ℕ) → is_marked after q ≡ (slot q == slot name || is_marked before q)

-- fields still have their slots marked where one more slot is marked
pub marked_still : (before after : ℕ) (name : List ℕ) (fs : List Named) → MarksOneMore before name after → AreMarked before fs → AreMarked after fs
marked_still before after name fs more all q unmarked = by_slot (slot q == slot name) (is_marked before q) refl (sym (more q) ∙ unmarked)
  where
    by_slot : (b d : Bool) → is_marked before q ≡ d → (b || d) ≡ false → value_named q fs ≡ None
    by_slot true d is e = absurd (true≢false e)
    by_slot false d is e = all q (is ∙ e)

-- so have the fields with one more, whose slot was marked
pub marked_put : (before after : ℕ) (name : List ℕ) (v : Value) (fs : List Named) → MarksOneMore before name after → AreMarked before fs → AreMarked after (with_field fs name v)
marked_put before after name v fs more all q unmarked = put_found fs name v q ∙ by_name (bytes_eq q name) refl
  where
    by_name : (b : Bool) → bytes_eq q name ≡ b → cond b (Some v) (value_named q fs) ≡ None
    by_name true same =
        let marked = more q ∙ ap (λ (b : Bool). b || is_marked before q) (eq-eqb (slot q) (slot name) (ap slot ((bytes_eq-Decides q name).0 same))) in
        absurd (true≢false (sym marked ∙ unmarked))
    by_name false apart = marked_still before after name fs more all q unmarked

-- so have the fields without one of them
pub marked_removed : (marks : ℕ) (name : List ℕ) (fs : List Named) → AreInOrder fs → AreMarked marks fs → AreMarked marks (without_field name fs)
marked_removed marks name fs sorted all q unmarked = removed_found fs name q sorted ∙ by_name (bytes_eq q name)
  where
    by_name : (b : Bool) → cond b None (value_named q fs) ≡ None
    by_name true = refl
    by_name false = all q unmarked

-- where no field has the name, the fields without it are the same
pub removed_nothing : (name : List ℕ) (fs : List Named) → value_named name fs ≡ None → fs ≡ without_field name fs
removed_nothing name [] none = refl
removed_nothing name (f ∷ fs) none = by_test (bytes_eq name f.0) none (removed_nothing name fs)
  where
    by_test : (b : Bool) → cond b (Some f.1) (value_named name fs) ≡ None → (value_named name fs ≡ None → fs ≡ without_field name fs) → f ∷ fs ≡ cond b fs (f ∷ without_field name fs)
    by_test true e more = absurd cc
    by_test false e more = ap (λ (gs : List Named). f ∷ gs) (more e)
