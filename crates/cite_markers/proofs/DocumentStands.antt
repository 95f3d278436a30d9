-- The pieces of a document stand in it one after the other, and nothing else does.
use Rattle.std.proofs.Common.{◌≡◌, inl, inr, ℕ, zero, suc, ◌-◌, ◌<◌, Bool, true, false, cond, List, [], ◌∷◌, ◌++◌, length, Some, None, Result, Ok, Err, eqb, refl, sym, ap, subst, arith}
use Rattle.std.specs.Prelude.{◌==◌, ◌&&◌}
use Rattle.std.proofs.lemmas.Bool.{eqb-true, and_parts}
use Rattle.laws.specs.Characters.{backslash}
use Rattle.laws.specs.Results.{◌>>=◌}
use Rattle.laws.specs.Steps.{go_on, each_below, each}
use Rattle.laws.specs.Text.{text}
use Rattle.laws.proofs.Results.{ok_is}
use Rattle.texts.specs.declared.reader.Unreadable.{Unreadable}
use Rattle.texts.specs.declared.reader.Unreadable.TheVariants.{NotThere}
use Rattle.cite_markers.specs.Marker.{Cite, marker_at, opening_at}
use Rattle.cite_markers.specs.Document.{Piece, is_opening, is_opening_or_escape, plain, from_opening_or_escape, Step, text_at, marker_or_fault, piece_if_escaped, piece_at, or_offset, document_of, Stands, FollowInOrder, LacksMarker}
use Rattle.cite_markers.proofs.DocumentLeaving.{pieces_shorten}

-- what a step gives stands in the text; it gives nothing at the end alone, and refuses where no marker follows an opening
abbrev StepStands : List ℕ → Step → Type 0
StepStands cs (Ok (None, rest)) = (cs ≡ []) × (rest ≡ [])
StepStands cs (Ok (Some p, rest)) = Stands cs p rest
StepStands cs (Err fault) = (cs ≡ fault) × LacksMarker cs

plain_and_rest : (cs : List ℕ) → cs ≡ plain cs ++ from_opening_or_escape cs
plain_and_rest [] = refl
plain_and_rest (c ∷ cs) = by_test (plain_and_rest cs) (is_opening_or_escape (c ∷ cs))
  where
    by_test : cs ≡ plain cs ++ from_opening_or_escape cs → (b : Bool) → c ∷ cs ≡ cond b [] (c ∷ plain cs) ++ cond b (c ∷ cs) (from_opening_or_escape cs)
    by_test more true = refl
    by_test more false = ap (λ (x : List ℕ). c ∷ x) more

none_at_end : StepStands [] (piece_at [])
unfolding piece_at is_opening opening_at
none_at_end = (refl, refl)

no_opening_at_end : is_opening [] ≡ true → ⊥
unfolding is_opening opening_at
no_opening_at_end e = absurd cc

text_stands : (c : ℕ) (cs : List ℕ) → StepStands (c ∷ cs) (text_at (c ∷ cs))
text_stands c cs = inl (ap (λ (x : List ℕ). c ∷ x) (plain_and_rest cs))

escaped_stands : (c : ℕ) (cs : List ℕ) → c ≡ backslash → is_opening cs ≡ true → StepStands (c ∷ cs) (text_at cs)
escaped_stands c [] is opens = absurd (no_opening_at_end opens)
escaped_stands c (d ∷ cs) is opens =
    let whole : d ∷ cs ≡ (d ∷ plain cs) ++ from_opening_or_escape cs = ap (λ (x : List ℕ). d ∷ x) (plain_and_rest cs) in
    inr ((λ i. is i ∷ whole i), subst (λ (x : List ℕ). is_opening x ≡ true) whole opens)

marker_stands : (cs : List ℕ) → is_opening cs ≡ true → (r : Result (List Cite × List ℕ) Unreadable) → marker_at cs ≡ r → StepStands cs (marker_or_fault cs r)
marker_stands cs opens (Ok p) is = is
marker_stands cs opens (Err NotThere) is = (refl, (opens, is))

piece_stands : (cs : List ℕ) → StepStands cs (piece_at cs)
unfolding piece_at
piece_stands [] = none_at_end
piece_stands (c ∷ cs) = by_escape (c == backslash && is_opening cs) refl
  where
    by_opening : (b : Bool) → is_opening (c ∷ cs) ≡ b → StepStands (c ∷ cs) (cond b (marker_or_fault (c ∷ cs) (marker_at (c ∷ cs))) (text_at (c ∷ cs)))
    by_opening true e = marker_stands (c ∷ cs) e (marker_at (c ∷ cs)) refl
    by_opening false e = text_stands c cs

    by_escape : (b : Bool) → (c == backslash && is_opening cs) ≡ b → StepStands (c ∷ cs) (piece_if_escaped (c ∷ cs) (cond b (Some cs) None))
    by_escape true e =
        let both = and_parts (eqb c backslash) (is_opening cs) e in
        escaped_stands c cs (eqb-true c backslash both.0) both.1
    by_escape false e = by_opening (is_opening (c ∷ cs)) refl

-- the same of all steps
abbrev AllStand : List ℕ → Result (List Piece × List ℕ) (List ℕ) → Type 0
AllStand cs (Ok read) = FollowInOrder cs read.0 []
AllStand cs (Err fault) = (before : List Piece) × FollowInOrder cs before fault × LacksMarker fault

before_others : (cs rest : List ℕ) (p : Piece) (others : Result (List Piece × List ℕ) (List ℕ)) → Stands cs p rest → AllStand rest others → AllStand cs (others >>= λ q. Ok (p ∷ q.0, q.1))
before_others cs rest p (Ok q) first more = (rest, first, more)
before_others cs rest p (Err fault) first more = (p ∷ more.0, (rest, first, more.1), more.2)

below_stand : (n : ℕ) (cs : List ℕ) → length cs < n → AllStand cs (each_below n piece_at cs)
unfolding each_below
below_stand zero cs below = absurd (omega arith)
below_stand (suc n) cs below = by_step (λ rest less. below_stand n rest less) (piece_at cs) refl (piece_stands cs)
  where
    by_step : ((rest : List ℕ) → length rest < n → AllStand rest (each_below n piece_at rest)) → (r : Step) → piece_at cs ≡ r → StepStands cs r
        → AllStand cs (r >>= λ p. go_on (λ rest. each_below n piece_at rest) p.0 p.1)
    by_step more (Ok (None, rest)) is stands = stands.0
    by_step more (Ok (Some p, rest)) is stands =
        let less : length rest < length cs = pieces_shorten cs rest p is in
        before_others cs rest p (each_below n piece_at rest) stands (more rest (omega arith))
    by_step more (Err fault) is stands = ([], stands.0, subst LacksMarker stands.0 stands.1)

all_stand : (cs : List ℕ) → AllStand cs (each piece_at cs)
unfolding each
all_stand cs = below_stand (suc (length cs)) cs (omega arith)

-- the pieces of a document are all of it
pub pieces_stand : (cs : List ℕ) (pieces : List Piece) → document_of cs ≡ Ok pieces → FollowInOrder cs pieces []
unfolding document_of
pieces_stand cs pieces is = by_read (each piece_at cs) (all_stand cs) is
  where
    by_read : (r : Result (List Piece × List ℕ) (List ℕ)) → AllStand cs r → or_offset cs r ≡ Ok pieces → FollowInOrder cs pieces []
    by_read (Ok read) stand e = subst (λ ps. FollowInOrder cs ps []) (ok_is {F = ℕ} read.0 pieces e) stand
    by_read (Err fault) stand e = absurd cc

-- where a document is refused, pieces stand up to the offset of an opening that no marker follows
pub record IsRefusedAt (cs : List ℕ) (offset : ℕ) : Type 0 where
  pub before : List Piece
  pub opening : List ℕ
  pub stand : FollowInOrder cs before opening
  pub lacks : LacksMarker opening
  pub position : offset ≡ length (text cs) - length (text opening)

abbrev refusal : ℕ → Result (List Piece) ℕ
refusal offset = Err offset

offset_is : (m n : ℕ) → refusal m ≡ refusal n → m ≡ n
offset_is m n e = cc

pub refused_at : (cs : List ℕ) (offset : ℕ) → document_of cs ≡ Err offset → IsRefusedAt cs offset
unfolding document_of
refused_at cs offset is = by_read (each piece_at cs) (all_stand cs) is
  where
    by_read : (r : Result (List Piece × List ℕ) (List ℕ)) → AllStand cs r → or_offset cs r ≡ Err offset → IsRefusedAt cs offset
    by_read (Ok read) stand e = absurd cc
    by_read (Err fault) stand e = record { before = stand.0; opening = fault; stand = stand.1; lacks = stand.2; position = sym (offset_is _ offset e) }
