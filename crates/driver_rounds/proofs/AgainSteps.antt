-- Cites that are printed again, one after the other.
use Rattle.std.proofs.Common.{◌≡◌, ℕ, suc, ◌+◌, ◌-◌, ◌<◌, ◌≤◌, Bool, true, false, List, [], ◌∷◌, ◌++◌, append_assoc, append-nil, length, length-append, take, drop, get_or, set, slice_index_or, refl, sym, ap, ◌∙◌, arith}
use Rattle.std.specs.Prelude.{if◌then◌else◌, OnOk, Result, Ok, Err}
use Rattle.std.proofs.lemmas.List.{drop_more, drop-set-lt, drop_at, get_or_default, length-drop, length-set, length-take-le, set-get_or, take-append-drop, take_at, take_more_set}
use Rattle.rendering_context.specs.Cites.{DisambiguateState}
use Rattle.rendering_tree.specs.Writing.{plain_text}
use Rattle.rendering.specs.Purposes.{Rendered}
use Rattle.driver_requests.specs.Cites.{Numbered, entry_of}
use Rattle.driver_names.specs.Prints.{Printed}
use Rattle.driver_disambiguation.specs.States.{States, state_of}
use Rattle.driver_rounds.specs.Rounding.{again_by, again_if, are_again}
use Rattle.driver_rounds.specs.FirstPrints.{printed_by}
use Rattle.driver_rounds.specs.Views.{printed_by_states}

module _ {P : Type 0} (states : States) (is_given : List Bool) where
  -- cites after others are printed again where these end
  pub again_append : (here more : List (Numbered P)) (ss : List Printed) → length here ≤ length ss → are_again states is_given (here ++ more) ss ≡ are_again states is_given here (take (length here) ss) ++ are_again states is_given more (drop (length here) ss)
  again_append [] more ss le = refl
  again_append (n ∷ here) more [] le = absurd (omega (arith, le))
  again_append (n ∷ here) more (s ∷ ss) le = ap (λ zs. again_if states is_given n s ∷ zs) (again_append here more ss (omega (arith, le)))

  -- the cite at an index was printed again, where it was to be
  pub again_on : (ss : List Printed) (n : ℕ) (s new : Printed) (x : Numbered P) (rest more : List (Numbered P)) (all : List Printed) → n < length ss → s ≡ get_or ss n s → rest ≡ (x ∷ []) ++ more
      → take n ss ++ are_again states is_given rest (drop n ss) ≡ all → new ≡ again_if states is_given x s → take (n + 1) (set ss n new) ++ are_again states is_given more (drop (n + 1) (set ss n new)) ≡ all
  again_on ss n s new x rest more all less is step h e =
      (λ j. take_more_set ss n new less j ++ are_again states is_given more (drop-set-lt (n + 1) ss n new (omega arith) j))
      ∙ append_assoc (take n ss) (new ∷ []) (are_again states is_given more (drop (n + 1) ss))
      ∙ ap (λ z. take n ss ++ z ∷ are_again states is_given more (drop (n + 1) ss)) e
      ∙ ap (λ z. take n ss ++ are_again states is_given (x ∷ more) (z ∷ drop (n + 1) ss)) is
      ∙ ap (λ zs. take n ss ++ are_again states is_given (x ∷ more) zs) (sym (drop_more ss n s less))
      ∙ ap (λ ns. take n ss ++ are_again states is_given ns (drop n ss)) (sym step)
      ∙ h

  -- where no cite is left all were printed again
  pub again_done : (ss : List Printed) (n : ℕ) (rest : List (Numbered P)) (all : List Printed) → rest ≡ [] → take n ss ++ are_again states is_given rest (drop n ss) ≡ all → ss ≡ all
  again_done ss n rest all is h = sym (take-append-drop n ss) ∙ ap (λ ns. take n ss ++ are_again states is_given ns (drop n ss)) (sym is) ∙ h

  -- there are as many cites when some were printed again
  pub again_length : (ns : List (Numbered P)) (ss : List Printed) → length (are_again states is_given ns ss) ≡ length ss
  again_length [] ss = refl
  again_length (n ∷ ns) [] = refl
  again_length (n ∷ ns) (s ∷ ss) = ap suc (again_length ns ss)

  -- the cites of a request were printed again, which stand from one index to another
  pub again_between : (ss new : List Printed) (from k end : ℕ) (here rest more : List (Numbered P)) (all : List Printed) → end ≡ from + k → end ≤ length ss → length here ≡ k → length new ≡ k → rest ≡ here ++ more
      → take from ss ++ are_again states is_given rest (drop from ss) ≡ all → new ≡ are_again states is_given here (take k (drop from ss))
      → take end (take from ss ++ (new ++ drop k (drop from ss))) ++ are_again states is_given more (drop end (take from ss ++ (new ++ drop k (drop from ss)))) ≡ all
  again_between ss new from k end here rest more all is le long many step h e =
      let leading : length (take from ss) ≡ from = length-take-le from ss (omega arith) in
      let both : length (take from ss ++ new) ≡ end = length-append (take from ss) new ∙ (λ j. leading j + many j) ∙ sym is in
      let regroup : take from ss ++ (new ++ drop k (drop from ss)) ≡ (take from ss ++ new) ++ drop k (drop from ss) = sym (append_assoc (take from ss) new (drop k (drop from ss))) in
      let left : length (drop from ss) ≡ length ss - from = length-drop from ss in
      let first : take end (take from ss ++ (new ++ drop k (drop from ss))) ≡ take from ss ++ new = ap (take end) regroup ∙ take_at (take from ss ++ new) (drop k (drop from ss)) end both in
      let second : drop end (take from ss ++ (new ++ drop k (drop from ss))) ≡ drop k (drop from ss) = ap (drop end) regroup ∙ drop_at (take from ss ++ new) (drop k (drop from ss)) end both in
      let whole : new ++ are_again states is_given more (drop k (drop from ss)) ≡ are_again states is_given rest (drop from ss) =
      (λ j. e j ++ are_again states is_given more (drop k (drop from ss)))
      ∙ (λ j. are_again states is_given here (take (sym long j) (drop from ss)) ++ are_again states is_given more (drop (sym long j) (drop from ss)))
      ∙ sym (again_append here more (drop from ss) (omega (arith, long, left)))
      ∙ ap (λ ns. are_again states is_given ns (drop from ss)) (sym step) in
      (λ j. first j ++ are_again states is_given more (second j))
      ∙ append_assoc (take from ss) new (are_again states is_given more (drop k (drop from ss)))
      ∙ ap (λ zs. take from ss ++ zs) whole
      ∙ h

  -- the cite at an index was printed again, where it was to be, and the index after it is next
  pub again_at : (ss new : List Printed) (n next : ℕ) (x : Numbered P) (rest more : List (Numbered P)) (all : List Printed) → n < length ss → next ≡ n + 1 → rest ≡ (x ∷ []) ++ more
      → take n ss ++ are_again states is_given rest (drop n ss) ≡ all → ((d : Printed) → new ≡ set ss n (again_if states is_given x (get_or ss n d)))
      → take next new ++ are_again states is_given more (drop next new) ≡ all
  again_at ss new n next x rest more all less is step h e =
      let s : Printed = get_or ss n (printed_by_states states x) in
      (λ j. take (is j) (e (printed_by_states states x) j) ++ are_again states is_given more (drop (is j) (e (printed_by_states states x) j)))
      ∙ again_on ss n s (again_if states is_given x s) x rest more all less (get_or_default ss n (printed_by_states states x) s less) step h refl

  -- there are as many
  pub again_at_length : (ss new : List Printed) (n : ℕ) (x : Numbered P) → ((d : Printed) → new ≡ set ss n (again_if states is_given x (get_or ss n d))) → length new ≡ length ss
  again_at_length ss new n x e = ap length (e (printed_by_states states x)) ∙ length-set ss n (again_if states is_given x (get_or ss n (printed_by_states states x)))

  -- the cites of a request were printed again, the first of which stands at an index
  pub again_run : (ss new : List Printed) (from k end : ℕ) (here rest more : List (Numbered P)) (all : List Printed) → end ≡ from + k → end ≤ length ss → length here ≡ k → rest ≡ here ++ more
      → take from ss ++ are_again states is_given rest (drop from ss) ≡ all → new ≡ take from ss ++ are_again states is_given here (drop from ss)
      → take end new ++ are_again states is_given more (drop end new) ≡ all
  again_run ss new from k end here rest more all is le long step h e =
      let left : length (drop from ss) ≡ length ss - from = length-drop from ss in
      let piece : List Printed = are_again states is_given here (take k (drop from ss)) in
      let parts : are_again states is_given here (drop from ss) ≡ piece ++ drop k (drop from ss) =
      ap (λ ns. are_again states is_given ns (drop from ss)) (sym (append-nil here))
      ∙ again_append here [] (drop from ss) (omega (arith, is, le, long, left))
      ∙ (λ j. are_again states is_given here (take (long j) (drop from ss)) ++ drop (long j) (drop from ss)) in
      let whole : new ≡ take from ss ++ (piece ++ drop k (drop from ss)) = e ∙ ap (λ zs. take from ss ++ zs) parts in
      let many : length piece ≡ k = again_length here (take k (drop from ss)) ∙ length-take-le k (drop from ss) (omega (arith, is, le, left)) in
      (λ j. take end (whole j) ++ are_again states is_given more (drop end (whole j))) ∙ again_between ss piece from k end here rest more all is le long many step h refl

  -- there are as many
  pub again_run_length : (ss new : List Printed) (from : ℕ) (here : List (Numbered P)) → from ≤ length ss → new ≡ take from ss ++ are_again states is_given here (drop from ss) → length new ≡ length ss
  again_run_length ss new from here le e =
      let all = ap length e ∙ length-append (take from ss) (are_again states is_given here (drop from ss)) in
      let leading = length-take-le from ss le in
      let back = again_length here (drop from ss) in
      let left = length-drop from ss in
      omega (arith, le, all, leading, back, left)

  -- a cite whose entry was given something is printed again by its state
  pub again_given : (n : Numbered P) (s : Printed) (state : DisambiguateState) → slice_index_or is_given (entry_of n.cite) false ≡ true → state ≡ state_of states (entry_of n.cite) → again_by state n s ≡ again_if states is_given n s
  again_given n s state h is = ap (λ m. again_by m n s) is ∙ ap (λ b. if b then again_by (state_of states (entry_of n.cite)) n s else s) (sym h)

  -- another one is as it was
  pub again_not_given : (n : Numbered P) (s : Printed) → slice_index_or is_given (entry_of n.cite) false ≡ false → s ≡ again_if states is_given n s
  again_not_given n s h = ap (λ b. if b then again_by (state_of states (entry_of n.cite)) n s else s) (sym h)

  -- the same of the cite at an index, where the call that printed it passed
  pub given_ok : {T E : Type 0} (r : Result T E) (n : Numbered P) (ss new : List Printed) (index : ℕ) (state : DisambiguateState) → slice_index_or is_given (entry_of n.cite) false ≡ true → state ≡ state_of states (entry_of n.cite)
      → OnOk r ((d : Printed) → new ≡ set ss index (again_by state n (get_or ss index d))) → OnOk r ((d : Printed) → new ≡ set ss index (again_if states is_given n (get_or ss index d)))
  given_ok (Ok x) n ss new index state h is e = λ d. e d ∙ ap (set ss index) (again_given n (get_or ss index d) state h is)
  given_ok (Err f) n ss new index state h is e = tt

  -- the same of the cite at an index, which is as it was
  pub not_given : (n : Numbered P) (ss : List Printed) (index : ℕ) → slice_index_or is_given (entry_of n.cite) false ≡ false → (d : Printed) → ss ≡ set ss index (again_if states is_given n (get_or ss index d))
  not_given n ss index h = λ d. sym (set-get_or ss index d) ∙ ap (set ss index) (again_not_given n (get_or ss index d) h)

-- a cite that prints a tree by a state is printed again by it
pub again_is : {P : Type 0} (n : Numbered P) (s new : Printed) (first second state : DisambiguateState) (rendered : Rendered) → first ≡ state → second ≡ state → rendered ≡ printed_by n first
    → new ≡ record s { state = second; tree = rendered.tree; text = plain_text rendered.tree } → new ≡ again_by state n s
again_is n s new first second state rendered is also prints e =
    e ∙ (λ j. record s { state = also j; tree = (prints j).tree; text = plain_text (prints j).tree }) ∙ (λ j. record s { state = state; tree = (printed_by n (is j)).tree; text = plain_text (printed_by n (is j)).tree })
