-- Cites of requests one after the other, one after the other.
use Rattle.std.proofs.Common.{◌≡◌, ℕ, suc, ◌+◌, ◌<◌, ◌≤◌, All, List, [], ◌∷◌, ◌++◌, append_assoc, append-nil, length, length-append, map, drop, get_or, ◌-◌, ◌^◌, subst, refl, sym, ap, ◌∙◌, arith, Vec}
use Rattle.std.proofs.lemmas.List.{drop_all, drop_more, get_or-map, length-map, map-append}
use Rattle.std.proofs.lemmas.List.Elements.{All-append, All-cons, All-head, All-nil, All-tail}
use Rattle.std.proofs.Math.Nat.{min-le_left}
use Rattle.laws.specs.Counts.{next_count}
use Rattle.rendering_entries.specs.Answers.{Answers}
use Rattle.rendering_context.specs.Contexts.{StyleContext}
use Rattle.driver_requests.specs.Cites.{Numbered, entry_of}
use Rattle.driver_requests.specs.Views.{context_of}
use Rattle.driver_requests.specs.declared.item.CitationItem.{CitationItem}
use Rattle.driver_requests.specs.declared.request.CitationRequest.{CitationRequest}
use Rattle.driver_rounds.specs.Rounding.{AreWithin}
use Rattle.driver_rounds.specs.FirstPrints.{flattened}
use Rattle.driver_rounds.specs.Views.{numbered_view, numbered_cites_view, all_numbered_cites_view}
use Rattle.driver_rounds.specs.declared.cite.NumberedCite.{NumberedCite}

-- what two lists say alike of all members they say of those at one index
pub agree_at : {X Y Z : Type 0} (f : X → Z) (g : Y → Z) (xs : List X) (ys : List Y) (n : ℕ) (x : X) (y : Y) → map f xs ≡ map g ys → n < length xs → n < length ys → x ≡ get_or xs n x → y ≡ get_or ys n y → f x ≡ g y
agree_at f g xs ys n x y e less below is also =
    ap f is ∙ sym (get_or-map f xs n x (f x) less) ∙ ap (λ zs. get_or zs n (f x)) e ∙ get_or-map g ys n y (f x) below ∙ ap g (sym also)

-- lists that say alike of all members have as many
pub same_length : {X Y Z : Type 0} (f : X → Z) (g : Y → Z) (xs : List X) (ys : List Y) → map f xs ≡ map g ys → length xs ≡ length ys
same_length f g xs ys e = sym (length-map xs f) ∙ ap length e ∙ length-map ys g

-- what is made of each member goes on after some of them
pub goes_on : {A B : Type 0} (make : A → B) (here more rest : List A) (now new all : List B) → rest ≡ here ++ more → now ++ map make rest ≡ all → new ≡ now ++ map make here → new ++ map make more ≡ all
goes_on make here more rest now new all is h e =
    ap (λ bs. bs ++ map make more) e
    ∙ append_assoc now (map make here) (map make more)
    ∙ ap (λ bs. now ++ bs) (sym (map-append make here more))
    ∙ ap (λ xs. now ++ map make xs) (sym is)
    ∙ h

-- where no member is left, all is made
pub ends : {A B : Type 0} (make : A → B) (rest : List A) (now all : List B) → rest ≡ [] → now ++ map make rest ≡ all → now ≡ all
ends make rest now all is h = sym (append-nil now) ∙ ap (λ xs. now ++ map make xs) (sym is) ∙ h

-- a count of one for each member goes on after some of them
pub counts_on : {A : Type 0} (here more rest : List A) (now new all : ℕ) → rest ≡ here ++ more → now + length rest ≤ all → new ≤ now + length here → new + length more ≤ all
counts_on here more rest now new all is h le =
    let e : length rest ≡ length here + length more = ap length is ∙ length-append here more in
    omega arith

-- a call counts one at most
pub one_counted : (now new : ℕ) → new ≡ next_count now → new ≤ now + 1
one_counted now new e = let P : ℕ → Type 0 = λ n. n ≤ now + 1 in subst P (sym e) (min-le_left (now + 1) (2 ^ 64 - 1))

-- there is a run for each request
pub runs_match : {T P A : Type 0} (runs : List (Vec NumberedCite A)) (requests : List (CitationRequest T P)) → map (λ (v : Vec NumberedCite A). length v.items) runs ≡ map (λ (r : CitationRequest T P). length r.items.items) requests
    → length runs ≡ length requests
runs_match {T} {P} {A} runs requests e = same_length (λ (v : Vec NumberedCite A). length v.items) (λ (r : CitationRequest T P). length r.items.items) runs requests e

-- a run has a cite for each item
pub run_match : {T P A : Type 0} (runs : List (Vec NumberedCite A)) (requests : List (CitationRequest T P)) (n : ℕ) (v : Vec NumberedCite A) (r : CitationRequest T P)
    → map (λ (v : Vec NumberedCite A). length v.items) runs ≡ map (λ (r : CitationRequest T P). length r.items.items) requests → n < length runs → n < length requests → v ≡ get_or runs n v → r ≡ get_or requests n r
    → length v.items ≡ length r.items.items
run_match {T} {P} {A} runs requests n v r e below less also is = agree_at (λ (v : Vec NumberedCite A). length v.items) (λ (r : CitationRequest T P). length r.items.items) runs requests n v r e below less also is

module _ {T P : Type 0} (answers : T → Answers) where
  module _ (x : StyleContext) (items : List (CitationItem T P)) (run : List NumberedCite) where
    -- the cite at an index, then those after it
    pub run_step : (n : ℕ) (i : CitationItem T P) (k : NumberedCite) → n < length items → n < length run → i ≡ get_or items n i → k ≡ get_or run n k
        → numbered_cites_view answers x (drop n items) (drop n run) ≡ (numbered_view answers x i k ∷ []) ++ numbered_cites_view answers x (drop (n + 1) items) (drop (n + 1) run)
    run_step n i k less below is also =
        (λ j. numbered_cites_view answers x (drop_more items n i less j) (drop_more run n k below j))
        ∙ (λ j. numbered_view answers x (sym is j) (sym also j) ∷ numbered_cites_view answers x (drop (n + 1) items) (drop (n + 1) run))

    -- past the items no cite is left
    pub run_done : (n : ℕ) → length items ≤ n → numbered_cites_view answers x (drop n items) (drop n run) ≡ []
    run_done n le = ap (λ is. numbered_cites_view answers x is (drop n run)) (drop_all n items le)

    -- one cite more
    pub run_more : (y : StyleContext) (given : List (CitationItem T P)) (n : ℕ) (i : CitationItem T P) (k : NumberedCite) → y ≡ x → given ≡ items → n < length given → length run ≡ length items → i ≡ get_or given n i → k ≡ get_or run n k
        → numbered_cites_view answers x (drop n items) (drop n run) ≡ (numbered_view answers y i k ∷ []) ++ numbered_cites_view answers x (drop (n + 1) items) (drop (n + 1) run)
    run_more y given n i k same list less many is also =
        let below : n < length items = omega (arith, less, ap length list) in
        run_step n i k below (omega (arith, below, many)) (is ∙ ap (λ is. get_or is n i) list) also
        ∙ ap (λ z. (numbered_view answers z i k ∷ []) ++ numbered_cites_view answers x (drop (n + 1) items) (drop (n + 1) run)) (sym same)

    -- what is made of each cite of a run goes on with one cite more
    pub run_goes_on : {B : Type 0} (make : Numbered P → B) (y : StyleContext) (given : List (CitationItem T P)) (n : ℕ) (i : CitationItem T P) (k : NumberedCite) (now new all : List B)
        → y ≡ x → given ≡ items → n < length given → length run ≡ length items → i ≡ get_or given n i → k ≡ get_or run n k
        → now ++ map make (numbered_cites_view answers x (drop n items) (drop n run)) ≡ all → new ≡ now ++ make (numbered_view answers y i k) ∷ []
        → new ++ map make (numbered_cites_view answers x (drop (n + 1) items) (drop (n + 1) run)) ≡ all
    run_goes_on make y given n i k now new all same list less many is also h e =
        goes_on make (numbered_view answers y i k ∷ []) (numbered_cites_view answers x (drop (n + 1) items) (drop (n + 1) run)) (numbered_cites_view answers x (drop n items) (drop n run)) now new all
        (run_more y given n i k same list less many is also) h e

    -- a count of one for each cite of a run goes on with one cite more
    pub run_counts_on : (y : StyleContext) (given : List (CitationItem T P)) (n : ℕ) (i : CitationItem T P) (k : NumberedCite) (now new all : ℕ)
        → y ≡ x → given ≡ items → n < length given → length run ≡ length items → i ≡ get_or given n i → k ≡ get_or run n k
        → now + length (numbered_cites_view answers x (drop n items) (drop n run)) ≤ all → new ≤ now + 1
        → new + length (numbered_cites_view answers x (drop (n + 1) items) (drop (n + 1) run)) ≤ all
    run_counts_on y given n i k now new all same list less many is also h le =
        counts_on (numbered_view answers y i k ∷ []) (numbered_cites_view answers x (drop (n + 1) items) (drop (n + 1) run)) (numbered_cites_view answers x (drop n items) (drop n run)) now new all
        (run_more y given n i k same list less many is also) h le

    -- past the items all is made
    pub run_ends : {B : Type 0} (make : Numbered P → B) (given : List (CitationItem T P)) (n : ℕ) (now all : List B) → given ≡ items → length given ≤ n
        → now ++ map make (numbered_cites_view answers x (drop n items) (drop n run)) ≡ all → now ≡ all
    run_ends make given n now all list le h = ends make (numbered_cites_view answers x (drop n items) (drop n run)) now all (run_done n (omega (arith, le, ap length list))) h

  -- there are as many cites as indices one after the other
  pub run_count : (x : StyleContext) (items : List (CitationItem T P)) (run : List NumberedCite) → length run ≡ length items → length (numbered_cites_view answers x items run) ≡ length run
  run_count x [] [] e = refl
  run_count x [] (k ∷ run) e = absurd (omega (arith, e))
  run_count x (i ∷ items) [] e = refl
  run_count x (i ∷ items) (k ∷ run) e = ap suc (run_count x items run (omega (arith, e)))

  module _ {A : Type 0} (requests : List (CitationRequest T P)) (runs : List (Vec NumberedCite A)) where
    -- the cites of the request at an index, then those of the requests after it
    pub runs_step : (n : ℕ) (r : CitationRequest T P) (v : Vec NumberedCite A) → n < length requests → n < length runs → r ≡ get_or requests n r → v ≡ get_or runs n v
        → flattened (all_numbered_cites_view answers (drop n requests) (drop n runs)) ≡ numbered_cites_view answers (context_of r) r.items.items v.items ++ flattened (all_numbered_cites_view answers (drop (n + 1) requests) (drop (n + 1) runs))
    runs_step n r v less below is also =
        (λ j. flattened (all_numbered_cites_view answers (drop_more requests n r less j) (drop_more runs n v below j)))
        ∙ (λ j. numbered_cites_view answers (context_of (sym is j)) (sym is j).items.items (sym also j).items ++ flattened (all_numbered_cites_view answers (drop (n + 1) requests) (drop (n + 1) runs)))

    -- past the requests no cite is left
    pub runs_done : (n : ℕ) → length requests ≤ n → flattened (all_numbered_cites_view answers (drop n requests) (drop n runs)) ≡ []
    runs_done n le = ap (λ rs. flattened (all_numbered_cites_view answers rs (drop n runs))) (drop_all n requests le)

    -- what is made of each cite goes on with one request more
    pub runs_go_on : {B : Type 0} (make : Numbered P → B) (n : ℕ) (r : CitationRequest T P) (v : Vec NumberedCite A) (run : List NumberedCite) (now new all : List B)
        → n < length requests → n < length runs → r ≡ get_or requests n r → v ≡ get_or runs n v → run ≡ v.items
        → now ++ map make (flattened (all_numbered_cites_view answers (drop n requests) (drop n runs))) ≡ all → new ≡ now ++ map make (numbered_cites_view answers (context_of r) r.items.items run)
        → new ++ map make (flattened (all_numbered_cites_view answers (drop (n + 1) requests) (drop (n + 1) runs))) ≡ all
    runs_go_on make n r v run now new all less below is also list h e =
        goes_on make (numbered_cites_view answers (context_of r) r.items.items v.items) (flattened (all_numbered_cites_view answers (drop (n + 1) requests) (drop (n + 1) runs))) (flattened (all_numbered_cites_view answers (drop n requests) (drop n runs))) now new all
        (runs_step n r v less below is also) h (e ∙ ap (λ ks. now ++ map make (numbered_cites_view answers (context_of r) r.items.items ks)) list)

    -- a count of one for each cite goes on with one request more
    pub runs_count_on : (n : ℕ) (r : CitationRequest T P) (v : Vec NumberedCite A) (run : List NumberedCite) (now new all : ℕ)
        → n < length requests → n < length runs → r ≡ get_or requests n r → v ≡ get_or runs n v → run ≡ v.items
        → now + length (flattened (all_numbered_cites_view answers (drop n requests) (drop n runs))) ≤ all → new ≤ now + length (numbered_cites_view answers (context_of r) r.items.items run)
        → new + length (flattened (all_numbered_cites_view answers (drop (n + 1) requests) (drop (n + 1) runs))) ≤ all
    runs_count_on n r v run now new all less below is also list h le =
        let same : length (numbered_cites_view answers (context_of r) r.items.items run) ≡ length (numbered_cites_view answers (context_of r) r.items.items v.items) = ap (λ ks. length (numbered_cites_view answers (context_of r) r.items.items ks)) list in
        counts_on (numbered_cites_view answers (context_of r) r.items.items v.items) (flattened (all_numbered_cites_view answers (drop (n + 1) requests) (drop (n + 1) runs))) (flattened (all_numbered_cites_view answers (drop n requests) (drop n runs))) now new all
        (runs_step n r v less below is also) h (omega (arith, le, same))

    -- past the requests all is made
    pub runs_end : {B : Type 0} (make : Numbered P → B) (n : ℕ) (now all : List B) → length requests ≤ n → now ++ map make (flattened (all_numbered_cites_view answers (drop n requests) (drop n runs))) ≡ all → now ≡ all
    runs_end make n now all le h = ends make (flattened (all_numbered_cites_view answers (drop n requests) (drop n runs))) now all (runs_done n le) h

  -- the entries of the cites of a run are among so many
  run_within : (count : ℕ) (x : StyleContext) (items : List (CitationItem T P)) (run : List NumberedCite) → All (λ (k : NumberedCite). k.entry < count) run → All (λ (n : Numbered P). entry_of n.cite < count) (numbered_cites_view answers x items run)
  run_within count x [] run h = All-nil (λ (m : Numbered P). entry_of m.cite < count)
  run_within count x (i ∷ items) [] h = All-nil (λ (m : Numbered P). entry_of m.cite < count)
  run_within count x (i ∷ items) (k ∷ run) h = All-cons (λ (m : Numbered P). entry_of m.cite < count) (numbered_view answers x i k) (numbered_cites_view answers x items run) (All-head (λ (m : NumberedCite). m.entry < count) k run h) (run_within count x items run (All-tail (λ (m : NumberedCite). m.entry < count) k run h))

  -- the entries of all cites are among so many
  pub runs_within : {A : Type 0} (count : ℕ) (requests : List (CitationRequest T P)) (runs : List (Vec NumberedCite A)) → AreWithin count runs → All (λ (n : Numbered P). entry_of n.cite < count) (flattened (all_numbered_cites_view answers requests runs))
  runs_within count [] runs h = All-nil (λ (m : Numbered P). entry_of m.cite < count)
  runs_within count (r ∷ requests) [] h = All-nil (λ (m : Numbered P). entry_of m.cite < count)
  runs_within {A} count (r ∷ requests) (v ∷ runs) h =
      All-append (λ (m : Numbered P). entry_of m.cite < count) (numbered_cites_view answers (context_of r) r.items.items v.items) (flattened (all_numbered_cites_view answers requests runs))
      (run_within count (context_of r) r.items.items v.items (All-head (λ (w : Vec NumberedCite A). All (λ (m : NumberedCite). m.entry < count) w.items) v runs h))
      (runs_within count requests runs (All-tail (λ (w : Vec NumberedCite A). All (λ (m : NumberedCite). m.entry < count) w.items) v runs h))
