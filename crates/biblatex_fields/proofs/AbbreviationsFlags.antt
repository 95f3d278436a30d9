-- Flags that are written one by one.
use Rattle.std.proofs.Common.{◌≡◌, ℕ, zero, suc, ◌<◌, ◌+◌, Bool, false, List, [], ◌∷◌, ◌++◌, All, length, get_or, Result, Ok, Err, IfOk, IsTrue, ◌↔◌, ◌⊎◌, inl, inr, refl, sym, ap, subst, ◌∙◌, arith, eq-or-lt_of_le}
use Rattle.std.proofs.lemmas.List.{length-map}
use Rattle.biblatex_text.specs.Raw.{Field}
use Rattle.reference_graph.specs.References.{IsCircular}
use Rattle.reference_graph.specs.Order.{Arranged, IsOrder, is_marked, MarksCircular}
use Rattle.biblatex_fields.proofs.AbbreviationsTaken.{one_longer}
use Rattle.biblatex_fields.specs.Abbreviations.{references_of, references, AreFlags, Copied, IsArranged}

pub copied_none : (flags marks : List Bool) → flags ≡ [] → Copied flags marks 0
copied_none flags marks e = record { long = ap length e; same = λ i within. absurd (omega (arith, within)) }

earlier : (flags : List Bool) (b : Bool) (i : ℕ) → i < length flags → get_or (flags ++ b ∷ []) i false ≡ get_or flags i false
earlier [] b i within = absurd (omega (arith, within))
earlier (x ∷ flags) b zero within = refl
earlier (x ∷ flags) b (suc i) within = earlier flags b i (omega (arith, within))

newest : (flags : List Bool) (b : Bool) → get_or (flags ++ b ∷ []) (length flags) false ≡ b
newest [] b = refl
newest (x ∷ flags) b = newest flags b

pub copied_more : (flags marks : List Bool) (count : ℕ) (b : Bool) → Copied flags marks count → b ≡ is_marked marks count → Copied (flags ++ b ∷ []) marks (count + 1)
copied_more flags marks count b c e = record {
  long = let l = one_longer flags b in let h = c.long in omega (arith, l, h);
  same = λ i within. by_index i (last_or_before i within);
}
  where
    last_or_before : (i : ℕ) → i < count + 1 → (i ≡ count) ⊎ (i < count)
    last_or_before i within = eq-or-lt_of_le (omega (arith, within))

    by_index : (i : ℕ) → (i ≡ count) ⊎ (i < count) → get_or (flags ++ b ∷ []) i false ≡ is_marked marks i
    by_index i (inl at) =
        let index : i ≡ length flags = at ∙ sym c.long in
        ap (λ (k : ℕ). get_or (flags ++ b ∷ []) k false) index ∙ (newest flags b ∙ (e ∙ ap (is_marked marks) (sym at)))
    by_index i (inr before) =
        let h = c.long in
        earlier flags b i (omega (arith, before, h)) ∙ c.same i before

-- as many flags as there are definitions, copied from the marks, are the flags of the definitions
pub copied_all : (flags marks : List Bool) (ds : List Field) → MarksCircular (references ds) marks → Copied flags marks (length ds) → AreFlags flags ds
copied_all flags marks ds marked c = record {
  long = c.long;
  exact = λ index within. subst (λ (b : Bool). IsTrue b ↔ IsCircular (references ds) index) (sym (c.same index within)) (marked index);
}

-- what the search answers, of the definitions
pub arranged : {E : Type 0} (r : Result Arranged E) (rs : List (List ℕ)) (ds : List Field) → rs ≡ references ds → IfOk r (λ o. MarksCircular rs o.circular) → IfOk r (λ o. IsOrder rs o.order) → IfOk r (IsArranged ds)
arranged (Ok o) rs ds e marks order = record {
  marks = subst (λ (x : List (List ℕ)). MarksCircular x o.circular) e marks;
  within = subst (λ (n : ℕ). All (λ index. index < n) o.order) (ap length e ∙ length-map ds (λ (d : Field). references_of ds d.value.v)) order.below;
}
arranged (Err f) rs ds e marks order = tt
