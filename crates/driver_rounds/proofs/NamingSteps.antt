-- Cites with the names that are printed before these are compared.
use Rattle.std.proofs.Common.{◌≡◌, ℕ, zero, suc, ◌<◌, ◌≤◌, All, List, [], ◌∷◌, map, length, get_or, true≢false, is_some, refl, sym, ap, ap₂, subst, ◌∙◌, arith, Bor, Option, Some, None, Vec}
use Rattle.std.specs.List.{slice_get}
use Rattle.std.specs.Option.{option_map, unwrap_or}
use Rattle.std.proofs.lemmas.List.{get_or-map, length-map}
use Rattle.std.proofs.lemmas.List.Elements.{All-cons, All-head, All-nil, All-tail}
use Rattle.rendering_context.specs.Cites.{names_of}
use Rattle.rendering_context.specs.Views.{state_view}
use Rattle.rendering_context.specs.declared.cite.DisambiguateState as code
use Rattle.rendering_entries.specs.Answers.{Answers}
use Rattle.rendering_context.specs.Contexts.{StyleContext}
use Rattle.driver_requests.specs.Cites.{Numbered}
use Rattle.driver_requests.specs.Views.{context_of, request_view}
use Rattle.driver_requests.specs.declared.item.CitationItem.{CitationItem}
use Rattle.driver_requests.specs.declared.request.CitationRequest.{CitationRequest}
use Rattle.driver_disambiguation.specs.States.{States, state_of}
use Rattle.driver_rounds.specs.FirstPrints.{FirstNaming, first_naming, flattened, no_naming, with_first_names}
use Rattle.driver_rounds.specs.Naming.{seen, seen_under, states_by}
use Rattle.driver_rounds.specs.Rounding.{AreWithin}
use Rattle.driver_rounds.specs.Views.{all_numbered_cites_view, numbered_cites_view, numbered_view}
use Rattle.driver_rounds.specs.declared.cite.NumberedCite.{NumberedCite}
use Rattle.driver_rounds.proofs.ListsGrown.{flat_maps}
use Rattle.rendering_people.specs.Properties.{Properties}

module _ {T P : Type 0} (answers : T → Answers) where
  -- a cite that is seen by states has the first names of its entry
  named_one : (x : StyleContext) (ss : Option States) (i : CitationItem T P) (n m : NumberedCite) → seen m ≡ seen_under ss n → numbered_view answers x i m ≡ with_first_names ss (numbered_view answers x i n)
  named_one x None i n m h = λ k. record (numbered_view answers x i (h k).0) { first_names = (h k).1 }
  named_one x (Some ss) i n m h = λ k. record (numbered_view answers x i (h k).0) { first_names = (h k).1 }

  cites_named : (x : StyleContext) (ss : Option States) (is : List (CitationItem T P)) (ns ms : List NumberedCite) → map seen ms ≡ map (seen_under ss) ns
      → numbered_cites_view answers x is ms ≡ map (with_first_names ss) (numbered_cites_view answers x is ns)
  cites_named x ss [] ns ms h = refl
  cites_named x ss (i ∷ is) [] [] h = refl
  cites_named x ss (i ∷ is) [] (m ∷ ms) h = absurd cc
  cites_named x ss (i ∷ is) (n ∷ ns) [] h = absurd cc
  cites_named x ss (i ∷ is) (n ∷ ns) (m ∷ ms) h =
      let one : seen m ≡ seen_under ss n = cc in
      let rest : map seen ms ≡ map (seen_under ss) ns = cc in
      ap₂ (λ v vs. v ∷ vs) (named_one x ss i n m one) (cites_named x ss is ns ms rest)

  -- the cites of requests that are seen by states have the first names of their entries
  pub runs_named : {A B : Type 0} (ss : Option States) (rs : List (CitationRequest T P)) (vs : List (Vec NumberedCite A)) (ws : List (Vec NumberedCite B))
      → map (λ (w : Vec NumberedCite B). map seen w.items) ws ≡ map (λ (v : Vec NumberedCite A). map (seen_under ss) v.items) vs
      → all_numbered_cites_view answers rs ws ≡ map (map (with_first_names ss)) (all_numbered_cites_view answers rs vs)
  runs_named ss [] vs ws h = refl
  runs_named ss (r ∷ rs) [] [] h = refl
  runs_named ss (r ∷ rs) [] (w ∷ ws) h = absurd cc
  runs_named ss (r ∷ rs) (v ∷ vs) [] h = absurd cc
  runs_named {A} {B} ss (r ∷ rs) (v ∷ vs) (w ∷ ws) h =
      let one : map seen w.items ≡ map (seen_under ss) v.items = cc in
      let rest : map (λ (b : Vec NumberedCite B). map seen b.items) ws ≡ map (λ (a : Vec NumberedCite A). map (seen_under ss) a.items) vs = cc in
      ap₂ (λ c cs. c ∷ cs) (cites_named (context_of r) ss r.items.items v.items w.items one) (runs_named ss rs vs ws rest)

-- all cites that are seen by states, one after the other, have the first names of their entries
pub cites_named_again : {T P A B : Type 0} (answers : T → Answers) (ss : Option States) (rs : List (CitationRequest T P)) (vs : List (Vec NumberedCite A)) (ws us : List (Vec NumberedCite B)) → us ≡ ws
    → map (λ (w : Vec NumberedCite B). map seen w.items) ws ≡ map (λ (v : Vec NumberedCite A). map (seen_under ss) v.items) vs
    → flattened (all_numbered_cites_view answers rs us) ≡ map (with_first_names ss) (flattened (all_numbered_cites_view answers rs vs))
cites_named_again {B = B} answers ss rs vs ws us same named =
    ap (λ (xs : List (Vec NumberedCite B)). flattened (all_numbered_cites_view answers rs xs)) same
    ∙ ap flattened (runs_named answers ss rs vs ws named)
    ∙ flat_maps (with_first_names ss) (all_numbered_cites_view answers rs vs)

-- a style that asks for no first names: cites are as they are numbered
pub unnamed_cite : {P : Type 0} (n : Numbered P) → with_first_names None n ≡ n
unnamed_cite n = refl

option_twice : {A B C : Type 0} (f : A → B) (g : B → C) (o : Option A) → option_map (λ a. g (f a)) o ≡ option_map g (option_map f o)
option_twice f g None = refl
option_twice f g (Some a) = refl

-- states of entries that are lent are those of the owner
pub lent_states : {A : Type 0} (o : Option (Bor (List code.DisambiguateState))) (s : Option (Vec code.DisambiguateState A))
    → option_map (λ (b : Bor (List code.DisambiguateState)). b.now) o ≡ option_map (λ (v : Vec code.DisambiguateState A). v.items) s
    → states_by o ≡ option_map (λ (v : Vec code.DisambiguateState A). map state_view v.items) s
lent_states {A} o s e =
    option_twice (λ (b : Bor (List code.DisambiguateState)). b.now) (map state_view) o ∙ ap (option_map (map state_view)) e ∙ sym (option_twice (λ (v : Vec code.DisambiguateState A). v.items) (map state_view) s)

-- the names of the state at an index
pub names_there : (ss : List code.DisambiguateState) (n : ℕ) (s : code.DisambiguateState) (ps : Properties) → n < length ss → s ≡ get_or ss n s → ps ≡ names_of (state_view s) → ps ≡ names_of (state_of (map state_view ss) n)
names_there ss n s ps low at is = is ∙ ap (λ t. names_of (state_view t)) at ∙ ap names_of (sym (get_or-map state_view ss n s _ low))

-- past the states there are none
pub names_past : (ss : List code.DisambiguateState) (n : ℕ) → length ss ≤ n → [] ≡ names_of (state_of (map state_view ss) n)
names_past [] n past = refl
names_past (s ∷ ss) zero past = absurd (omega (arith, past))
names_past (s ∷ ss) (suc n) past = names_past ss n (omega (arith, past))

-- how the style of the first request prints names first
pub naming_some : {T P : Type 0} (answers : T → Answers) (rs : List (CitationRequest T P)) (r : CitationRequest T P) (o : FirstNaming) → slice_get rs 0 ≡ Some r
    → ((qs : List (CitationRequest T P)) → o ≡ first_naming (map (request_view {P = P} (λ e. 0) answers) (r ∷ qs))) → o ≡ first_naming (map (request_view {P = P} (λ e. 0) answers) rs)
naming_some answers [] r o h says = absurd (true≢false (ap is_some (sym h)))
naming_some {P = P} answers (q ∷ rs) r o h says = says rs ∙ ap (λ x. first_naming (map (request_view {P = P} (λ e. 0) answers) (unwrap_or x q ∷ rs))) (sym h)

-- without requests there is none
pub naming_none : {T P : Type 0} (answers : T → Answers) (rs : List (CitationRequest T P)) → slice_get rs 0 ≡ None → no_naming ≡ first_naming (map (request_view {P = P} (λ e. 0) answers) rs)
naming_none answers [] h = refl
naming_none answers (q ∷ rs) h = absurd (true≢false (ap is_some h))

lengths_of : {A X : Type 0} (f : NumberedCite → X) (vs : List (Vec NumberedCite A)) → map (λ (v : Vec NumberedCite A). length v.items) vs ≡ map length (map (λ (v : Vec NumberedCite A). map f v.items) vs)
lengths_of f [] = refl
lengths_of f (v ∷ vs) = ap₂ (λ n ns. n ∷ ns) (sym (length-map v.items f)) (lengths_of f vs)

-- cites that are seen by states are as many in each run
pub named_lengths : {A B : Type 0} (ss : Option States) (vs : List (Vec NumberedCite A)) (ws : List (Vec NumberedCite B)) → map (λ (w : Vec NumberedCite B). map seen w.items) ws ≡ map (λ (v : Vec NumberedCite A). map (seen_under ss) v.items) vs
    → map (λ (w : Vec NumberedCite B). length w.items) ws ≡ map (λ (v : Vec NumberedCite A). length v.items) vs
named_lengths ss vs ws h = lengths_of seen ws ∙ ap (map length) h ∙ sym (lengths_of (seen_under ss) vs)

cites_stay_within : (count : ℕ) (ss : Option States) (ns ms : List NumberedCite) → map seen ms ≡ map (seen_under ss) ns → All (λ (n : NumberedCite). n.entry < count) ns → All (λ (n : NumberedCite). n.entry < count) ms
cites_stay_within count ss [] [] h all = all
cites_stay_within count ss [] (m ∷ ms) h all = absurd cc
cites_stay_within count ss (n ∷ ns) [] h all = absurd cc
cites_stay_within count ss (n ∷ ns) (m ∷ ms) h all =
    let one : seen m ≡ seen_under ss n = cc in
    let rest : map seen ms ≡ map (seen_under ss) ns = cc in
    All-cons (λ (k : NumberedCite). k.entry < count) m ms
    (subst (λ e. e < count) (sym (ap (λ (p : NumberedCite × Properties). p.0.entry) one)) (All-head (λ (k : NumberedCite). k.entry < count) n ns all))
    (cites_stay_within count ss ns ms rest (All-tail (λ (k : NumberedCite). k.entry < count) n ns all))

-- and their entries are among as many
pub named_within : {A B : Type 0} (count : ℕ) (ss : Option States) (vs : List (Vec NumberedCite A)) (ws : List (Vec NumberedCite B)) → map (λ (w : Vec NumberedCite B). map seen w.items) ws ≡ map (λ (v : Vec NumberedCite A). map (seen_under ss) v.items) vs
    → AreWithin count vs → AreWithin count ws
named_within {A} {B} count ss [] [] h all = All-nil (λ (w : Vec NumberedCite B). All (λ (n : NumberedCite). n.entry < count) w.items)
named_within count ss [] (w ∷ ws) h all = absurd cc
named_within count ss (v ∷ vs) [] h all = absurd cc
named_within {A} {B} count ss (v ∷ vs) (w ∷ ws) h all =
    let one : map seen w.items ≡ map (seen_under ss) v.items = cc in
    let rest : map (λ (b : Vec NumberedCite B). map seen b.items) ws ≡ map (λ (a : Vec NumberedCite A). map (seen_under ss) a.items) vs = cc in
    All-cons (λ (b : Vec NumberedCite B). All (λ (n : NumberedCite). n.entry < count) b.items) w ws
    (cites_stay_within count ss v.items w.items one (All-head (λ (a : Vec NumberedCite A). All (λ (n : NumberedCite). n.entry < count) a.items) v vs all))
    (named_within count ss vs ws rest (All-tail (λ (a : Vec NumberedCite A). All (λ (n : NumberedCite). n.entry < count) a.items) v vs all))
