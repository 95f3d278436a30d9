-- Pieces of the grammar are those that are read, and a document is refused where the grammar says so.
use Rattle.std.proofs.Common.{◌≡◌, ◌⊎◌, ℕ, zero, suc, ◌<◌, Bool, true, false, cond, List, [], ◌∷◌, length, Option, Some, None, Result, Ok, Err, inl, inr, refl, sym, ap, ◌∙◌, subst, arith}
use Rattle.laws.specs.Results.{◌>>=◌}
use Rattle.laws.specs.Steps.{each}
use Rattle.laws.proofs.Steps.{each-some, each-none, each-err}
use Rattle.texts.specs.declared.reader.Unreadable.{Unreadable}
use Rattle.cite_markers.specs.Marker.{Cite, marker_at}
use Rattle.cite_markers.specs.Document.{Piece, Text, Marker, is_opening, escaped, is_opening_or_escape, plain, from_opening_or_escape, Step, text_at, marker_or_fault, piece_if_escaped, piece_at}
use Rattle.cite_markers.proofs.DocumentLeaving.{pieces_shorten}
use Rattle.cite_markers_grammar.specs.Markers.{IsOpening}
use Rattle.cite_markers_grammar.specs.Documents.{IsEscape, IsMark, ArePlain, IsPiece, ArePieces, LacksMarker}
use Rattle.cite_markers_grammar.proofs.Cites.{marker-again, marker-takes}
use Rattle.cite_markers_grammar.proofs.Openings.{opening-again, opening-takes, marker-opens, none_opens, unescaped, escape-again, escape-takes, mark-again, mark-takes, unmarked-again, unmarked-takes}
use Rattle.cite_markers_grammar.proofs.Steps.{denied, both_ways}

-- plain characters
marked_plain : (cs : List ℕ) → is_opening_or_escape cs ≡ true → (plain cs ≡ []) × (from_opening_or_escape cs ≡ cs)
marked_plain [] e = (refl, refl)
marked_plain (c ∷ cs) e = (ap (λ b. cond b [] (c ∷ plain cs)) e, ap (λ b. cond b (c ∷ cs) (from_opening_or_escape cs)) e)

plain-ends : (cs : List ℕ) → (cs ≡ []) ⊎ IsMark cs → (plain cs ≡ []) × (from_opening_or_escape cs ≡ cs)
plain-ends cs (inl e) = (ap plain e, ap from_opening_or_escape e ∙ sym e)
plain-ends cs (inr mark) = marked_plain cs (mark-again cs mark)

plain-again : (t cs rest : List ℕ) → ArePlain cs t rest → (plain cs ≡ t) × (from_opening_or_escape cs ≡ rest)
plain-again [] cs rest (e, ends) =
    let there = plain-ends rest ends in
    (ap plain e ∙ there.0, ap from_opening_or_escape e ∙ there.1)
plain-again (c ∷ t) cs rest (a, e, never, more) =
    let others = plain-again t a rest more in
    let unmarked : is_opening_or_escape (c ∷ a) ≡ false = ap is_opening_or_escape (sym e) ∙ unmarked-again cs never in (
      ap plain e ∙ (ap (λ b. cond b [] (c ∷ plain a)) unmarked ∙ ap (λ (x : List ℕ). c ∷ x) others.0),
      ap from_opening_or_escape e ∙ (ap (λ b. cond b (c ∷ a) (from_opening_or_escape a)) unmarked ∙ others.1),
    )

plain-takes : (cs : List ℕ) → ArePlain cs (plain cs) (from_opening_or_escape cs)
plain-takes [] = (refl, inl refl)
plain-takes (c ∷ cs) = by_test (plain-takes cs) (is_opening_or_escape (c ∷ cs)) refl
  where
    by_test : ArePlain cs (plain cs) (from_opening_or_escape cs) → (b : Bool) → is_opening_or_escape (c ∷ cs) ≡ b
        → ArePlain (c ∷ cs) (cond b [] (c ∷ plain cs)) (cond b (c ∷ cs) (from_opening_or_escape cs))
    by_test more true e = (refl, inr (mark-takes (c ∷ cs) e))
    by_test more false e = (cs, refl, unmarked-takes (c ∷ cs) e, more)

-- texts
text_is : (c : ℕ) (t a rest : List ℕ) → ArePlain a t rest → text_at (c ∷ a) ≡ Ok (Some (Text (c ∷ t)), rest)
text_is c t a rest are =
    let there = plain-again t a rest are in
    λ j. Ok (Some (Text (c ∷ there.0 j)), there.1 j)

-- a text that no mark begins is read as a text
abbrev unescaped_piece : List ℕ → Bool → Step
unescaped_piece cs b = cond b (marker_or_fault cs (marker_at cs)) (text_at cs)

no_escape : (cs : List ℕ) → (IsMark cs → ⊥) → escaped cs ≡ None
no_escape cs never = by_escape (escaped cs) refl
  where
    by_escape : (o : Option (List ℕ)) → escaped cs ≡ o → o ≡ None
    by_escape (Some opening) is = absurd (never (inr (opening, escape-takes cs opening is)))
    by_escape None is = refl

no_opening : (cs : List ℕ) → (IsMark cs → ⊥) → is_opening cs ≡ false
no_opening cs never = denied (is_opening cs) (λ e. never (inl (opening-takes cs e)))

piece_is_text : (cs : List ℕ) → (IsMark cs → ⊥) → piece_at cs ≡ text_at cs
unfolding piece_at
piece_is_text cs never = ap (piece_if_escaped cs) (no_escape cs never) ∙ ap (unescaped_piece cs) (no_opening cs never)

piece_is_escaped : (cs opening : List ℕ) → IsEscape cs opening → piece_at cs ≡ text_at opening
unfolding piece_at
piece_is_escaped cs opening escape = ap (piece_if_escaped cs) (escape-again cs opening escape)

piece_is_marker : (cs : List ℕ) → is_opening cs ≡ true → piece_at cs ≡ marker_or_fault cs (marker_at cs)
unfolding piece_at
piece_is_marker cs opens = ap (piece_if_escaped cs) (unescaped cs opens) ∙ ap (unescaped_piece cs) opens

pub piece-again : (p : Piece) (cs rest : List ℕ) → IsPiece cs p rest → piece_at cs ≡ Ok (Some p, rest)
piece-again (Text []) cs rest is = absurd is
piece-again (Text (c ∷ t)) cs rest (a, inl (e, never), are) = piece_is_text cs never ∙ (ap text_at e ∙ text_is c t a rest are)
piece-again (Text (c ∷ t)) cs rest (a, inr escape, are) = piece_is_escaped cs (c ∷ a) escape ∙ text_is c t a rest are
piece-again (Marker cites) cs rest is = piece_is_marker cs (opening-again cs (marker-opens cs rest cites is)) ∙ ap (marker_or_fault cs) (marker-again cs rest cites is)

-- What a step gives is a piece; it gives nothing at the end alone, and refuses an opening at which no marker begins.
abbrev pub IsStep : List ℕ → Step → Type 0
IsStep cs (Ok (None, rest)) = cs ≡ []
IsStep cs (Ok (Some p, rest)) = IsPiece cs p rest
IsStep cs (Err opening) = (cs ≡ opening) × IsOpening opening × LacksMarker opening

not_read : (cs : List ℕ) (f : Unreadable) → marker_at cs ≡ Err f → LacksMarker cs
not_read cs f is cites rest marker =
    let other : ◌≡◌ {A = Result (List Cite × List ℕ) Unreadable} (Err f) (Ok (cites, rest)) = sym is ∙ marker-again cs rest cites marker in
    absurd cc

marker_step : (cs : List ℕ) → IsOpening cs → (r : Result (List Cite × List ℕ) Unreadable) → marker_at cs ≡ r → IsStep cs (marker_or_fault cs r)
marker_step cs opens (Ok q) is = marker-takes cs q is
marker_step cs opens (Err f) is = (refl, opens, not_read cs f is)

escaped_step : (cs opening : List ℕ) → IsEscape cs opening → IsStep cs (text_at opening)
escaped_step cs [] (e, opens) = absurd (both_ways (is_opening []) (opening-again [] opens) none_opens)
escaped_step cs (d ∷ opening) escape = (opening, inr escape, plain-takes opening)

text_step : (cs : List ℕ) → (IsMark cs → ⊥) → IsStep cs (text_at cs)
text_step [] never = refl
text_step (c ∷ cs) never = (cs, inl (refl, never), plain-takes cs)

none_of_both : (cs : List ℕ) → escaped cs ≡ None → is_opening cs ≡ false → IsMark cs → ⊥
none_of_both cs none closed (inl opens) = both_ways (is_opening cs) (opening-again cs opens) closed
none_of_both cs none closed (inr (opening, escape)) =
    let other : ◌≡◌ {A = Option (List ℕ)} None (Some opening) = sym none ∙ escape-again cs opening escape in
    absurd cc

pub piece-step : (cs : List ℕ) → IsStep cs (piece_at cs)
unfolding piece_at
piece-step cs = by_escape (escaped cs) refl
  where
    by_opening : escaped cs ≡ None → (b : Bool) → is_opening cs ≡ b → IsStep cs (unescaped_piece cs b)
    by_opening none true e = marker_step cs (opening-takes cs e) (marker_at cs) refl
    by_opening none false e = text_step cs (none_of_both cs none e)

    by_escape : (o : Option (List ℕ)) → escaped cs ≡ o → IsStep cs (piece_if_escaped cs o)
    by_escape (Some opening) e = escaped_step cs opening (escape-takes cs opening e)
    by_escape None e = by_opening e (is_opening cs) refl

-- all pieces
abbrev pub All : Type 0
All = Result (List Piece × List ℕ) (List ℕ)

abbrev pub put_before : Piece → All → All
put_before p others = others >>= λ q. Ok (p ∷ q.0, q.1)

none_at_end : piece_at [] ≡ Ok (None, [])
none_at_end = piece_is_text [] never
  where
    never : IsMark [] → ⊥
    never (inl opens) = both_ways (is_opening []) (opening-again [] opens) none_opens
    never (inr (opening, (e, opens))) = absurd cc

pub pieces-again : (ps : List Piece) (cs : List ℕ) → ArePieces cs ps [] → each piece_at cs ≡ Ok (ps, [])
pieces-again [] cs e = ap (each piece_at) e ∙ each-none piece_at [] [] none_at_end
pieces-again (p ∷ ps) cs (a, is, are) = each-some piece_at pieces_shorten cs a p (piece-again p cs a is) ∙ ap (put_before p) (pieces-again ps a are)

pub refusal-again : (ps : List Piece) (cs opening : List ℕ) → ArePieces cs ps opening → piece_at opening ≡ Err opening → each piece_at cs ≡ Err opening
refusal-again [] cs opening e refuses = ap (each piece_at) e ∙ each-err piece_at opening opening refuses
refusal-again (p ∷ ps) cs opening (a, is, are) refuses = each-some piece_at pieces_shorten cs a p (piece-again p cs a is) ∙ ap (put_before p) (refusal-again ps a opening are refuses)

-- at an opening without a marker a step refuses
pub lacking-refuses : (cs : List ℕ) → IsOpening cs → LacksMarker cs → piece_at cs ≡ Err cs
lacking-refuses cs opens lacks = piece_is_marker cs (opening-again cs opens) ∙ by_read (marker_at cs) refl
  where
    by_read : (r : Result (List Cite × List ℕ) Unreadable) → marker_at cs ≡ r → marker_or_fault cs r ≡ Err cs
    by_read (Ok q) is = absurd (lacks q.0 q.1 (marker-takes cs q is))
    by_read (Err f) is = refl

-- What all steps give are the pieces of the whole text, or those before an opening at which no marker begins.
abbrev pub AreSteps : List ℕ → All → Type 0
AreSteps cs (Ok q) = ArePieces cs q.0 []
AreSteps cs (Err opening) = (ps : List Piece) × ArePieces cs ps opening × IsOpening opening × LacksMarker opening

put-steps : (cs rest : List ℕ) (p : Piece) (others : All) → IsPiece cs p rest → AreSteps rest others → AreSteps cs (put_before p others)
put-steps cs rest p (Ok q) is are = (rest, is, are)
put-steps cs rest p (Err opening) is (ps, are, opens, lacks) = (p ∷ ps, (rest, is, are), opens, lacks)

steps-below : (n : ℕ) (cs : List ℕ) → length cs < n → AreSteps cs (each piece_at cs)
steps-below zero cs below = absurd (omega arith)
steps-below (suc n) cs below = by_step (λ rest less. steps-below n rest less) (piece_at cs) refl (piece-step cs)
  where
    by_step : ((rest : List ℕ) → length rest < n → AreSteps rest (each piece_at rest)) → (r : Step) → piece_at cs ≡ r → IsStep cs r → AreSteps cs (each piece_at cs)
    by_step more (Ok (None, rest)) is step = subst (AreSteps cs) (sym (each-none piece_at cs rest is)) step
    by_step more (Ok (Some p, rest)) is step =
        let less : length rest < length cs = pieces_shorten cs rest p is in
        subst (AreSteps cs) (sym (each-some piece_at pieces_shorten cs rest p is)) (put-steps cs rest p (each piece_at rest) step (more rest (omega arith)))
    by_step more (Err opening) is (e, opens, lacks) = subst (AreSteps cs) (sym (each-err piece_at cs opening is)) ([], e, opens, lacks)

pub steps : (cs : List ℕ) → AreSteps cs (each piece_at cs)
steps cs = steps-below (suc (length cs)) cs (omega arith)
