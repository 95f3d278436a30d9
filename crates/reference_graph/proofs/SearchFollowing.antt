-- A reference of the number that was met last is followed.
use Rattle.std.proofs.Common.{◌≡◌, ℕ, ◌<◌, ◌≤◌, inl, inr, List, [], ◌∷◌, Contains, length, get_or, refl, sym, ap, subst, arith}
use Rattle.std.proofs.lemmas.List.{get_or_append_left}
use Rattle.std.proofs.lemmas.List.Elements.{Contains-append_left}
use Rattle.reference_graph.specs.References.{references_of}
use Rattle.reference_graph.specs.declared.search.Visit.{Visit}
use Rattle.reference_graph.specs.declared.search.Visit.TheVariants.{New, At, Done}
use Rattle.reference_graph.specs.Search.{State, visit_of, last, weight, entered}
use Rattle.reference_graph.specs.Invariant.{IsInvariant, IsSettled, IsMet, Reaches, IsCutTo, FollowsTo}
use Rattle.reference_graph.proofs.SearchLists.{has_last, last_top}
use Rattle.reference_graph.proofs.ReferencesWalks.{reaches_on, refers}
use Rattle.reference_graph.proofs.SearchEntering.{entered_invariant, entered_met, entered_itself}
use Rattle.reference_graph.proofs.SearchMerging.{merged_invariant, merged_settled}
use Rattle.reference_graph.proofs.SearchWeighing.{entered_less}

-- the number at index q is the one that was met last
pub record IsLast (R : List (List ℕ)) (s : State) (q : ℕ) : Type 0 where
  pub holds : IsInvariant R s
  pub reading : Contains s.reading q
  pub inside : q < length s.path
  pub top : (b : ℕ) → Contains s.starts b → b ≤ q

pub is_last : (R : List (List ℕ)) (s : State) (q : ℕ) → IsInvariant R s → 0 < length s.reading → q ≡ last s.reading → IsLast R s q
is_last R s q k some e =
    let c = has_last s.reading q some (sym e) in
    record {
      holds = k;
      reading = c;
      inside = k.reading_found q c;
      top = λ b h. let t = last_top s.reading b k.reading_rises (k.starts_read b h) in omega arith;
    }

-- What holds after a reference was followed.
pub record IsFollowed (R : List (List ℕ)) (old new : State) (q r : ℕ) : Type 0 where
  pub holds : IsInvariant R new
  pub settled : IsSettled new q r
  pub met : (v : ℕ) → IsMet old v → IsMet new v
  pub less : weight new ≤ weight old
  pub reading : Contains new.reading q
  pub path : get_or new.path q 0 ≡ get_or old.path q 0
  pub unread : new.unread ≡ old.unread

reaches_all : (R : List (List ℕ)) (s : State) (q r : ℕ) → IsLast R s q → Contains (references_of R (get_or s.path q 0)) r → (i : ℕ) → i < length s.path → Reaches R (get_or s.path i 0) r
reaches_all R s q r l c i hi =
    reaches_on R (get_or s.path i 0) (get_or s.path q 0) r (l.holds.joined i q hi l.inside (λ b h low high. let t = l.top b h in absurd (omega arith))) (refers R (get_or s.path q 0) r c)

followed_new : (R : List (List ℕ)) (s : State) (q r : ℕ) → visit_of s r ≡ New → IsLast R s q → Contains (references_of R (get_or s.path q 0)) r → IsFollowed R s (entered s r) q r
followed_new R s q r e l c =
    let inside = l.inside in
    let w = entered_less s r e in
    record {
      holds = entered_invariant R s l.holds r e (reaches_all R s q r l c);
      settled = inr (length s.path, entered_itself s r e, λ b h low high. absurd (omega arith));
      met = λ v. entered_met s r v e;
      less = omega arith;
      reading = Contains-append_left s.reading (length s.path ∷ []) q l.reading;
      path = get_or_append_left s.path (r ∷ []) 0 q inside;
      unread = refl;
    }

followed_on : (R : List (List ℕ)) (s : State) (q r p : ℕ) (starts : List ℕ) → visit_of s r ≡ At p → IsCutTo p s.starts starts → IsLast R s q → Contains (references_of R (get_or s.path q 0)) r → IsFollowed R s (record s { starts = starts }) q r
followed_on R s q r p starts e cut l c =
    let h = l.holds.found r p e in
    let edge : Reaches R (get_or s.path q 0) (get_or s.path p 0) = subst (λ (x : ℕ). Reaches R (get_or s.path q 0) x) (sym h.1) (refers R (get_or s.path q 0) r c) in
    record {
      holds = merged_invariant R s l.holds p q starts cut h.0 l.inside l.top edge;
      settled = merged_settled s p q r starts cut e;
      met = λ v m. m;
      less = omega arith;
      reading = l.reading;
      path = refl;
      unread = refl;
    }

pub followed : (R : List (List ℕ)) (s new : State) (q r : ℕ) (p : Visit) → visit_of s r ≡ p → FollowsTo p s r new → IsLast R s q → Contains (references_of R (get_or s.path q 0)) r → IsFollowed R s new q r
followed R s new q r New e f l c = subst (λ (x : State). IsFollowed R s x q r) (sym f) (followed_new R s q r e l c)
followed R s new q r (At p) e f l c = subst (λ (x : State). IsFollowed R s x q r) (sym f.1) (followed_on R s q r p new.starts e f.0 l c)
followed R s new q r Done e f l c = subst (λ (x : State). IsFollowed R s x q r) (sym f) (record {
  holds = l.holds;
  settled = inl e;
  met = λ v m. m;
  less = omega arith;
  reading = l.reading;
  path = refl;
  unread = refl;
})

pub unread_stays : (s new : State) (r : ℕ) (p : Visit) → FollowsTo p s r new → new.unread ≡ s.unread
unread_stays s new r New f = ap (λ (x : State). x.unread) f
unread_stays s new r (At p) f = ap (λ (x : State). x.unread) f.1
unread_stays s new r Done f = ap (λ (x : State). x.unread) f
