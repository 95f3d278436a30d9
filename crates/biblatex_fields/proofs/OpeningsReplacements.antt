-- Pieces that are read instead of others.
use Rattle.std.proofs.Common.{◌≡◌, ◌<◌, ◌⊎◌, inl, inr, ℕ, zero, suc, set, slice_get, replicate, ◌+◌, Bool, true, false, List, [], ◌∷◌, ◌++◌, map, length, Option, Some, None, Result, Ok, Err, Vec, Global, refl, sym, ap, subst, ◌∙◌, arith, append-nil}
use Rattle.std.proofs.lemmas.List.{length-replicate, get_or-replicate, length-set}
use Rattle.std.proofs.lemmas.Option.{slice_get_within, get_or_from_slice_get}
use Rattle.laws.specs.Results.{◌>>=◌}
use Rattle.biblatex_text.specs.Raw.{At, Piece, Field}
use Rattle.biblatex_tex.specs.declared.error.ContentError.{ContentError}
use Rattle.biblatex_content.specs.declared.chunk.Kind.TheVariants.{Verbatim}
use Rattle.biblatex_content.specs.Ordinary.{ordinary}
use Rattle.biblatex_content.specs.Spans.{all_at, after_at}
use Rattle.biblatex_content.specs.Styled.{Member, letters}
use Rattle.biblatex_content.specs.Verbatim.{verbatim_text}
use Rattle.biblatex_fields.specs.declared.openings.Opening.{Opening}
use Rattle.biblatex_fields.specs.declared.openings.Opening.TheVariants.{Whole, Part, SameAs}
use Rattle.biblatex_fields.specs.declared.openings.ResolvedPiece.{ResolvedPiece}
use Rattle.biblatex_fields.specs.Abbreviations.{Glossary, Sense, spelled, sense, pieces_at, AreFlags}
use Rattle.biblatex_fields.specs.Refusals.{Refusal}
use Rattle.biblatex_fields.specs.Openings.{AreOpenings, AreResolved, Opens, OpensAlone, Resolved, Replacement, pieces_of_opening, pieces_in_opening, parts_in, resolved_piece_view, resolved_at, resolved_read, resolved_sense, resolved_steps, sense_by, steps, target, target_in, total, unresolved, unresolved_at}
use Rattle.biblatex_fields.specs.Value.{Reading, in_order, by_sense, read, text_read, spanned}
use Rattle.biblatex_fields.proofs.OpeningsEffort.{steps_unresolved}
use Rattle.biblatex_fields.proofs.ValueStack.{in_order_unresolved}

pub replacement_same : (g : Glossary) (v : Bool) (rs : List Resolved) → Replacement g v rs rs
replacement_same g v rs = record { same = λ done. refl; fewer = omega arith }

pub replacement_on : (g : Glossary) (v : Bool) (qs rs ss : List Resolved) → Replacement g v qs rs → Replacement g v rs ss → Replacement g v qs ss
replacement_on g v qs rs ss a b = record {
  same = λ done. a.same done ∙ b.same done;
  fewer = let x = a.fewer in let y = b.fewer in omega (arith, x, y);
}

in_order_after : (each : Resolved → Reading) (ps qs : List Resolved) (done : List (At Member))
    → in_order each (ps ++ qs) done ≡ (in_order each ps done >>= λ ms. in_order each qs ms)
in_order_after each [] qs done = refl
in_order_after each (p ∷ ps) qs done = past_first (λ ms. in_order_after each ps qs ms) (each p done)
  where
    past_first : ((ms : List (At Member)) → in_order each (ps ++ qs) ms ≡ (in_order each ps ms >>= λ ns. in_order each qs ns))
        → (r : Result (List (At Member)) Refusal) → (r >>= λ ms. in_order each (ps ++ qs) ms) ≡ ((r >>= λ ms. in_order each ps ms) >>= λ ms. in_order each qs ms)
    past_first more (Ok ms) = more ms
    past_first more (Err f) = refl

total_after : (f : Resolved → ℕ) (ps qs : List Resolved) → total f (ps ++ qs) ≡ total f ps + total f qs
total_after f [] qs = omega arith
total_after f (p ∷ ps) qs = let more = total_after f ps qs in omega (arith, more)

pub replacement_after : (g : Glossary) (v : Bool) (ps qs rs ss : List Resolved) → Replacement g v ps qs → Replacement g v rs ss → Replacement g v (ps ++ rs) (qs ++ ss)
replacement_after g v ps qs rs ss a b = record {
  same = λ done. in_order_after each ps rs done ∙ (ap (λ (r : Result (List (At Member)) Refusal). r >>= λ ms. in_order each rs ms) (a.same done)
      ∙ (second (in_order each qs done) ∙ sym (in_order_after each qs ss done)));
  fewer = let x = a.fewer in let y = b.fewer in let i = total_after (resolved_steps g) ps rs in let j = total_after (resolved_steps g) qs ss in omega (arith, x, y, i, j);
}
  where
    each : Resolved → Reading
    each = resolved_read g v

    second : (r : Result (List (At Member)) Refusal) → (r >>= λ ms. in_order each rs ms) ≡ (r >>= λ ms. in_order each ss ms)
    second (Ok ms) = b.same ms
    second (Err e) = refl

-- pieces that give nothing may be left out
pub replacement_without : (g : Glossary) (v : Bool) (ps qs : List Resolved) (p : Resolved) → Replacement g v ps qs → Replacement g v [] (p ∷ []) → Replacement g v ps (qs ++ p ∷ [])
replacement_without g v ps qs p a b = subst (λ (x : List Resolved). Replacement g v x (qs ++ p ∷ [])) (append-nil ps) (replacement_after g v ps qs [] (p ∷ []) a b)

one_read : (r : Result (List (At Member)) Refusal) → (r >>= λ ms. Ok ms) ≡ r
one_read (Ok ms) = refl
one_read (Err f) = refl

-- a piece with what its name opens
pub replacement_resolved : (g : Glossary) (v : Bool) (p : At Piece) (index : Option ℕ) → sense_by g p index ≡ sense g p → Replacement g v (record { raw = p; index = index } ∷ []) (unresolved p ∷ [])
replacement_resolved g v p index e = record {
  same = λ done. ap (λ (r : Result Sense Refusal). (r >>= λ s. by_sense (read g v) v p.start p.end s done) >>= λ ms. Ok ms) e;
  fewer = let s : total (λ q. steps g q) (parts_in (sense_by g p index)) ≡ total (λ q. steps g q) (parts_in (sense g p)) = ap (λ r. total (λ q. steps g q) (parts_in r)) e in omega (arith, s);
}

-- the pieces of the definition that its name opens
pub replacement_opened : (g : Glossary) (v : Bool) → AreFlags g.flags g.definitions → (p : At Piece) (index : ℕ) → Replacement g v (unresolved_at g.definitions index) (record { raw = p; index = Some index } ∷ [])
replacement_opened g v flags p index = record {
  same = λ done. in_order_unresolved g v flags (pieces_at g.definitions index) done ∙ sym (one_read (in_order (read g v) (pieces_at g.definitions index) done));
  fewer = let s = steps_unresolved g flags (pieces_at g.definitions index) in omega (arith, s);
}

-- no piece may be read instead of a text that gives nothing
pub replacement_empty : (g : Glossary) (v : Bool) (r : Resolved) (cs : List ℕ) → resolved_sense g r ≡ Ok (spelled cs)
    → ((done : List (At Member)) → text_read v r.raw.start r.raw.end cs done ≡ Ok done) → Replacement g v [] (r ∷ [])
replacement_empty g v r cs is nothing = record {
  same = λ done. sym (ap (λ (x : Result Sense Refusal). (x >>= λ s. by_sense (read g v) v r.raw.start r.raw.end s done) >>= λ ms. Ok ms) is ∙ (one_read (text_read v r.raw.start r.raw.end cs done) ∙ nothing done));
  fewer = omega arith;
}

-- A text that gives nothing after nothing, gives nothing after anything.

abbrev got : List (At Member) → Result (List (At Member)) Refusal
got ms = Ok ms

ok_same : (ms ns : List (At Member)) → got ms ≡ got ns → ms ≡ ns
ok_same ms ns e = cc

empty_ordinary : (start end : ℕ) (r : Result (List Member) ContentError) → spanned start end (after_at start end [] r) ≡ Ok [] → (done : List (At Member)) → spanned start end (after_at start end done r) ≡ Ok done
empty_ordinary start end (Ok ms) e done = ap (λ (x : List (At Member)). Ok (done ++ x)) (ok_same (all_at start end ms) [] e) ∙ ap (λ (x : List (At Member)). Ok x) (append-nil done)
empty_ordinary start end (Err f) e done = absurd cc

pub empty_anywhere : (v : Bool) (start end : ℕ) (cs : List ℕ) → text_read v start end cs [] ≡ Ok [] → (done : List (At Member)) → text_read v start end cs done ≡ Ok done
empty_anywhere true start end cs e done = ap (λ (x : List (At Member)). Ok (done ++ x)) (ok_same (all_at start end (letters Verbatim (verbatim_text cs))) [] e) ∙ ap (λ (x : List (At Member)). Ok x) (append-nil done)
empty_anywhere false start end cs e done = empty_ordinary start end (ordinary cs) e done

-- what is read of a definition may be read instead of its pieces
pub replacement_read : (g : Glossary) (v : Bool) (vs : List (Vec ResolvedPiece Global)) (os : List Opening) (index : ℕ) → AreResolved g vs → AreOpenings g v vs os
    → Replacement g v (pieces_of_opening os vs (target os index)) (unresolved_at g.definitions index)
replacement_read g v vs os index known all =
    replacement_on g v (pieces_of_opening os vs (target os index)) (unresolved_at g.definitions (target os index)) (unresolved_at g.definitions index)
    (by_itself (target os index) (slice_get os (target os index)) refl) (on_target (slice_get os index) refl)
  where
    by_itself : (i : ℕ) (o : Option Opening) → slice_get os i ≡ o → Replacement g v (pieces_in_opening o (resolved_at vs i)) (unresolved_at g.definitions i)
    by_itself i None e = known.each v i
    by_itself i (Some o) e = (all.each i o e).itself

    on_target : (o : Option Opening) → slice_get os index ≡ o → Replacement g v (unresolved_at g.definitions (target_in o index)) (unresolved_at g.definitions index)
    on_target None e = replacement_same g v (unresolved_at g.definitions index)
    on_target (Some o) e = (all.each index o e).another

-- the pieces of a definition that may be read instead of all of them are an opening for it
pub opens_part : (g : Glossary) (v : Bool) (vs : List (Vec ResolvedPiece Global)) (kept : Vec ResolvedPiece Global) (index : ℕ) → AreResolved g vs
    → Replacement g v (map resolved_piece_view kept.items) (resolved_at vs index) → Opens g v vs (Part kept) index
opens_part g v vs kept index known stands = record {
  itself = replacement_on g v (map resolved_piece_view kept.items) (resolved_at vs index) (unresolved_at g.definitions index) stands (known.each v index);
  another = replacement_same g v (unresolved_at g.definitions index);
}

pub opens_whole : (g : Glossary) (v : Bool) (vs : List (Vec ResolvedPiece Global)) (index : ℕ) → AreResolved g vs → Opens g v vs Whole index
opens_whole g v vs index known = record { itself = known.each v index; another = replacement_same g v (unresolved_at g.definitions index) }

-- what a piece opens is an opening for a definition instead of which that piece alone may be read
pub opens_same : (g : Glossary) (v : Bool) (vs : List (Vec ResolvedPiece Global)) (os : List Opening) (kept : List Resolved) (index other : ℕ) → AreResolved g vs → AreOpenings g v vs os
    → Replacement g v kept (resolved_at vs index) → OpensAlone kept other → Opens g v vs (SameAs (target os other)) index
opens_same g v vs os kept index other known all stands one = record {
  itself = known.each v index;
  another = replacement_on g v (at (target os other)) (at other) (at index) (on_target (slice_get os other) refl)
      (replacement_on g v (at other) kept (at index) (subst (λ (x : List Resolved). Replacement g v (at other) x) (sym one.alone) (replacement_opened g v known.flags one.raw other))
      (replacement_on g v kept (resolved_at vs index) (at index) stands (known.each v index)));
}
  where
    at : ℕ → List Resolved
    at i = unresolved_at g.definitions i

    on_target : (o : Option Opening) → slice_get os other ≡ o → Replacement g v (at (target_in o other)) (at other)
    on_target None e = replacement_same g v (at other)
    on_target (Some o) e = (all.each other o e).another

-- each definition may be read as it is
pub openings_whole : (g : Glossary) (v : Bool) (vs : List (Vec ResolvedPiece Global)) (count : ℕ) → AreResolved g vs → count ≡ length g.definitions → AreOpenings g v vs (replicate count Whole)
openings_whole g v vs count known long = record {
  long = length-replicate count Whole ∙ long;
  each = λ index o is.
      let within = slice_get_within (replicate count Whole) index o is in
      let same : o ≡ Whole = sym (get_or_from_slice_get (replicate count Whole) index o o is) ∙ get_or-replicate count index Whole o (subst (λ (n : ℕ). index < n) (length-replicate count Whole) within) in
      subst (λ (x : Opening). Opens g v vs x index) (sym same) (opens_whole g v vs index known);
}

got_set : (os : List Opening) (index i : ℕ) (o x : Opening) → slice_get (set os index o) i ≡ Some x → (x ≡ o) × (i ≡ index) ⊎ (slice_get os i ≡ Some x)
got_set [] index i o x is = inr is
got_set (y ∷ os) zero zero o x is = inl (cc, refl)
got_set (y ∷ os) zero (suc i) o x is = inr is
got_set (y ∷ os) (suc index) zero o x is = inr is
got_set (y ∷ os) (suc index) (suc i) o x is = one_on (got_set os index i o x is)
  where
    one_on : (x ≡ o) × (i ≡ index) ⊎ (slice_get os i ≡ Some x) → (x ≡ o) × (suc i ≡ suc index) ⊎ (slice_get os i ≡ Some x)
    one_on (inl (e, h)) = inl (e, ap (λ (n : ℕ). suc n) h)
    one_on (inr e) = inr e

-- openings with another one for a definition are openings
pub openings_set : (g : Glossary) (v : Bool) (vs : List (Vec ResolvedPiece Global)) (os : List Opening) (index : ℕ) (o : Opening) → AreOpenings g v vs os → Opens g v vs o index → AreOpenings g v vs (set os index o)
openings_set g v vs os index o all one = record {
  long = length-set os index o ∙ all.long;
  each = λ i x is. by_index i x (got_set os index i o x is);
}
  where
    by_index : (i : ℕ) (x : Opening) → (x ≡ o) × (i ≡ index) ⊎ (slice_get os i ≡ Some x) → Opens g v vs x i
    by_index i x (inl (e, h)) = subst (λ (n : ℕ). Opens g v vs x n) (sym h) (subst (λ (y : Opening). Opens g v vs y index) (sym e) one)
    by_index i x (inr is) = all.each i x is

-- the pieces of one more definition are resolved
pub resolved_more : (g : Glossary) (v : Bool) (vs : List (Vec ResolvedPiece Global)) (ds : List Field) (new : Vec ResolvedPiece Global) (d : Field) → length vs ≡ length ds
    → ((index : ℕ) → Replacement g v (resolved_at vs index) (unresolved_at ds index)) → Replacement g v (map resolved_piece_view new.items) (map unresolved d.value.v)
    → (index : ℕ) → Replacement g v (resolved_at (vs ++ new ∷ []) index) (unresolved_at (ds ++ d ∷ []) index)
resolved_more g v [] [] new d long each one zero = one
resolved_more g v [] [] new d long each one (suc index) = replacement_same g v []
resolved_more g v [] (e ∷ ds) new d long each one index = absurd cc
resolved_more g v (w ∷ vs) [] new d long each one index = absurd cc
resolved_more g v (w ∷ vs) (e ∷ ds) new d long each one zero = each zero
resolved_more g v (w ∷ vs) (e ∷ ds) new d long each one (suc index) = resolved_more g v vs ds new d (omega (arith, long)) (λ i. each (suc i)) one index
