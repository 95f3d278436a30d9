-- Cites that are gathered and arranged by their indices are those that the indices stand for.
use Rattle.std.proofs.Common.{arith, ◌≡◌, ℕ, suc, ◌+◌, ◌<◌, Bool, true, true≢false, not, List, [], ◌∷◌, All, length, map, get_or, filter_map, is_some, refl, sym, ap, ◌∙◌, Option, Some, None}
use Rattle.std.specs.List.{cons_option, enumerate_from, slice_get}
use Rattle.std.specs.Option.{option_map}
use Rattle.std.proofs.lemmas.List.{get_or-map}
use Rattle.std.proofs.lemmas.List.Elements.{All-cons, All-head, All-nil, All-same, All-tail}
use Rattle.std.proofs.lemmas.Option.{slice_get_within}
use Rattle.std.proofs.lemmas.List.FromFn.{get_or-enumerate_from, length-enumerate_from}
use Rattle.rendering_context.specs.Cites.{DisambiguateState, undisambiguated}
use Rattle.rendering_entries.specs.Answers.{Answers}
use Rattle.rendering_style.specs.Styles.{Citation}
use Rattle.rendering_tree.specs.Metas as metas
use Rattle.rendering_tree.specs.Trees.{element_with, names_element}
use Rattle.rendering_context.specs.Contexts.{StyleContext}
use Rattle.driver_requests.specs.Views.{request_locator_view}
use Rattle.driver_requests.specs.declared.item.CitationItem.{CitationItem}
use Rattle.driver_disambiguation.specs.SuffixesFound.{suffixes_by}
use Rattle.driver_names.specs.Prints.{GivenState}
use Rattle.driver_disambiguation.specs.States.{States, state_of, suffix_by}
use Rattle.driver_disambiguation.specs.Rounds.{Disambiguation}
use Rattle.driver_blocks.specs.Blocks.{Gathered}
use Rattle.driver_blocks.specs.Collapsing.{arranged}
use Rattle.driver_blocks.specs.Runs.{Arranged}
use Rattle.driver.proofs.ArrangedRenamed.{arranged_renamed}
use Rattle.driver.specs.FinalPrints.{all_gathered, arranged_at, arranged_in}
use Rattle.driver.specs.Renaming.{arranged_as, gathered_as}
use Rattle.driver_rounds.specs.FirstPrints.{FirstPrint, first_print, printed_by}
use Rattle.driver.specs.Stages.{gathered_by}
use Rattle.driver_rounds.specs.Views.{printed_by_states, numbered_view, numbered_cites_view}
use Rattle.driver_rounds.specs.declared.cite.NumberedCite.{NumberedCite}

is_some_map : {A B : Type 0} (f : A → B) (o : Option A) → is_some o ≡ is_some (option_map f o)
is_some_map f None = refl
is_some_map f (Some x) = refl

-- the year suffix of an entry
suffix_at : (ms : States) (gs : List GivenState) (e : ℕ) → e < length ms → get_or (suffixes_by ms gs) e None ≡ suffix_by (state_of ms e) e gs
suffix_at ms gs e low =
    let long : length (enumerate_from 0 ms) ≡ length ms = length-enumerate_from 0 ms in
    let index : 0 + e ≡ e = omega arith in
    let read : get_or (enumerate_from 0 ms) e (0, undisambiguated) ≡ (e, get_or ms e undisambiguated) =
    get_or-enumerate_from 0 ms e (0, undisambiguated) low ∙ (λ k. (index k, get_or ms e undisambiguated)) in
    get_or-map (λ (p : ℕ × DisambiguateState). suffix_by p.1 p.0 gs) (enumerate_from 0 ms) e (0, undisambiguated) None (omega (arith, low, long))
    ∙ ap (λ (p : ℕ × DisambiguateState). suffix_by p.1 p.0 gs) read

-- the entry of a cite is among so many
abbrev pub IsLow : ℕ → NumberedCite → Type 0
IsLow n k = k.entry < n

module _ {T P : Type 0} (answers : T → Answers) (x : StyleContext) (t : Disambiguation) where
  gathered_one : (f : ℕ → Option (FirstPrint P)) (n : ℕ) (i : CitationItem T P) (k : NumberedCite) → k.entry < length t.states → f n ≡ Some (first_print (numbered_view answers x i k))
      → gathered_as f (record {
        cite = n;
        names = names_element (printed_by (numbered_view answers x i k) (state_of t.states k.entry)).tree;
        number = option_map (λ e. k.number) (element_with metas.CitationNumber (printed_by (numbered_view answers x i k) (state_of t.states k.entry)).tree);
        is_shown = not i.hidden;
        has_locator = is_some i.locator;
        suffix = get_or (suffixes_by t.states t.given) k.entry None;
      }) ≡ gathered_as (λ b. Some b) (gathered_by t (first_print (numbered_view answers x i k)))
  gathered_one f n i k low is = λ j. record {
    cite = is j;
    names = names_element (printed_by (numbered_view answers x i k) (state_of t.states k.entry)).tree;
    number = option_map (λ e. k.number) (element_with metas.CitationNumber (printed_by (numbered_view answers x i k) (state_of t.states k.entry)).tree);
    is_shown = not i.hidden;
    has_locator = is_some_map request_locator_view i.locator j;
    suffix = suffix_at t.states t.given k.entry low j;
  }

  gathered_from_index : (f : ℕ → Option (FirstPrint P)) (n : ℕ) (is : List (CitationItem T P)) (ks : List NumberedCite) → All (IsLow (length t.states)) ks
      → ((j : ℕ) → f (n + j) ≡ slice_get (map first_print (numbered_cites_view answers x is ks)) j)
      → map (gathered_as f) (all_gathered (suffixes_by t.states t.given) n is ks (map (printed_by_states t.states) (numbered_cites_view answers x is ks)))
      ≡ map (gathered_as (λ b. Some b)) (map (gathered_by t) (map first_print (numbered_cites_view answers x is ks)))
  gathered_from_index f n [] ks low e = refl
  gathered_from_index f n (i ∷ is) [] low e = refl
  gathered_from_index f n (i ∷ is) (k ∷ ks) low e =
      let at : n + 0 ≡ n = omega arith in
      let first : f n ≡ Some (first_print (numbered_view answers x i k)) = ap f (sym at) ∙ e 0 in
      let later : (j : ℕ) → f ((n + 1) + j) ≡ slice_get (map first_print (numbered_cites_view answers x is ks)) j = λ j. (let one : (n + 1) + j ≡ n + suc j = omega arith in ap f one ∙ e (suc j)) in
      λ j. gathered_one f n i k (All-head (IsLow (length t.states)) k ks low) first j ∷ gathered_from_index f (n + 1) is ks (All-tail (IsLow (length t.states)) k ks low) later j

-- cites that are known, where they are
abbrev known : {Y : Type 0} → List (Arranged (Option Y)) → List (Arranged Y)
known {Y} xs = filter_map (λ (a : Arranged (Option Y)). option_map (λ (y : Y). arranged_as (λ (n : Option Y). y) a) a.cite.cite) xs

known_at : {Y : Type 0} (ys : List Y) (xs : List (Arranged ℕ)) → known (map (arranged_as (slice_get ys)) xs) ≡ arranged_in ys xs
known_at ys [] = refl
known_at ys (a ∷ xs) = ap (cons_option (arranged_at ys a)) (known_at ys xs)

known_all : {Y : Type 0} (xs : List (Arranged Y)) → known (map (arranged_as (λ (y : Y). Some y)) xs) ≡ xs
known_all [] = refl
known_all (a ∷ xs) = ap (λ bs. a ∷ bs) (known_all xs)

abbrev pub IsThere : {Y : Type 0} → Arranged (Option Y) → Type 0
IsThere a = is_some a.cite.cite ≡ true

abbrev pub IsWithin : {Y : Type 0} → List Y → Arranged ℕ → Type 0
IsWithin ys a = a.cite.cite < length ys

all_known : {Y : Type 0} (xs : List (Arranged Y)) → All (IsThere {Y = Y}) (map (arranged_as (λ (y : Y). Some y)) xs)
all_known {Y} [] = All-nil (IsThere {Y = Y})
all_known {Y} (a ∷ xs) = All-cons (IsThere {Y = Y}) (arranged_as (λ (y : Y). Some y) a) (map (arranged_as (λ (y : Y). Some y)) xs) refl (all_known xs)

there : {Y : Type 0} (ys : List Y) (n : ℕ) (o : Option Y) → slice_get ys n ≡ o → is_some o ≡ true → n < length ys
there ys n None e h = absurd (true≢false (sym h))
there ys n (Some y) e h = slice_get_within ys n y e

all_there : {Y : Type 0} (ys : List Y) (xs : List (Arranged ℕ)) → All (IsThere {Y = Y}) (map (arranged_as (slice_get ys)) xs) → All (IsWithin ys) xs
all_there ys [] h = All-nil (IsWithin ys)
all_there {Y} ys (a ∷ xs) h =
    let first = All-head (IsThere {Y = Y}) (arranged_as (slice_get ys) a) (map (arranged_as (slice_get ys)) xs) h in
    let others = All-tail (IsThere {Y = Y}) (arranged_as (slice_get ys) a) (map (arranged_as (slice_get ys)) xs) h in
    All-cons (IsWithin ys) a xs (there ys a.cite.cite (slice_get ys a.cite.cite) refl first) (all_there ys xs others)

-- cites that are arranged by their indices
module _ {Y : Type 0} (c : Citation) (some_purpose : Bool) (ys : List Y) (gs : List (Gathered ℕ)) (hs : List (Gathered Y)) (e : map (gathered_as (slice_get ys)) gs ≡ map (gathered_as (λ (y : Y). Some y)) hs) where
  both : map (arranged_as (slice_get ys)) (arranged c some_purpose gs) ≡ map (arranged_as (λ (y : Y). Some y)) (arranged c some_purpose hs)
  both = sym (arranged_renamed (slice_get ys) c some_purpose gs) ∙ ap (arranged c some_purpose) e ∙ arranged_renamed (λ (y : Y). Some y) c some_purpose hs

  arranged_known : arranged_in ys (arranged c some_purpose gs) ≡ arranged c some_purpose hs
  arranged_known = sym (known_at ys (arranged c some_purpose gs)) ∙ ap known both ∙ known_all (arranged c some_purpose hs)

  arranged_there : All (IsWithin ys) (arranged c some_purpose gs)
  arranged_there =
      all_there ys (arranged c some_purpose gs)
      (All-same (IsThere {Y = Y}) (map (arranged_as (slice_get ys)) (arranged c some_purpose gs)) (map (arranged_as (λ (y : Y). Some y)) (arranged c some_purpose hs)) both (all_known (arranged c some_purpose hs)))

module _ {T P : Type 0} (answers : T → Answers) (x : StyleContext) (t : Disambiguation) (is : List (CitationItem T P)) (ks : List NumberedCite) (low : All (λ (k : NumberedCite). k.entry < length t.states) ks) where
  -- the cites of a request, gathered by their indices
  abbrev pub by_indices : List (Gathered ℕ)
  by_indices = all_gathered (suffixes_by t.states t.given) 0 is ks (map (printed_by_states t.states) (numbered_cites_view answers x is ks))

  abbrev pub their_prints : List (FirstPrint P)
  their_prints = map first_print (numbered_cites_view answers x is ks)

  from_start : (j : ℕ) → slice_get their_prints (0 + j) ≡ slice_get their_prints j
  from_start j = let same : 0 + j ≡ j = omega arith in ap (slice_get their_prints) same

  indices_known : map (gathered_as (slice_get their_prints)) by_indices ≡ map (gathered_as (λ (b : FirstPrint P). Some b)) (map (gathered_by t) their_prints)
  indices_known = gathered_from_index answers x t (slice_get their_prints) 0 is ks low from_start

  pub arranged_indices : (c : Citation) (some_purpose : Bool) → arranged_in their_prints (arranged c some_purpose by_indices) ≡ arranged c some_purpose (map (gathered_by t) their_prints)
  arranged_indices c some_purpose = arranged_known c some_purpose their_prints by_indices (map (gathered_by t) their_prints) indices_known

  pub arranged_within : (c : Citation) (some_purpose : Bool) → All (IsWithin their_prints) (arranged c some_purpose by_indices)
  arranged_within c some_purpose = arranged_there c some_purpose their_prints by_indices (map (gathered_by t) their_prints) indices_known
