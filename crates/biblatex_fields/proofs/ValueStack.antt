-- What is left to be read of a value: the rest of its pieces, and of each definition that is open, the innermost last.
use Rattle.std.proofs.Common.{◌≡◌, ℕ, Bool, List, [], ◌∷◌, ◌++◌, map, All, Result, Ok, Err, refl, sym, ap, ◌∙◌}
use Rattle.laws.specs.Results.{◌>>=◌}
use Rattle.laws.proofs.Results.{bind_bind}
use Rattle.std.proofs.lemmas.List.Elements.{All-head, All-tail}
use Rattle.biblatex_text.specs.Raw.{At, Piece}
use Rattle.biblatex_content.specs.Styled.{Member}
use Rattle.biblatex_fields.specs.Abbreviations.{Glossary, Sense, spelled, defined, sense, pieces_at, AreFlags}
use Rattle.biblatex_fields.specs.Refusals.{Refusal}
use Rattle.biblatex_fields.specs.Value.{Reading, in_order, by_sense, reading, read, text_read, ReadsByTheRule}
use Rattle.biblatex_fields.specs.Openings.{Resolved, Replacement, parts_in, resolved_read, resolved_sense, unresolved, unresolved_at}
use Rattle.biblatex_fields.proofs.ValueDepth.{IsLocal, deep_enough}

-- frames are read from the last to the first
abbrev pub stack_read : {X : Type 0} → (X → Reading) → List (List X) → Reading
stack_read each [] done = Ok done
stack_read each (f ∷ fs) done = stack_read each fs done >>= λ ms. in_order each f ms

bind_done : (r : Result (List (At Member)) Refusal) → r ≡ (r >>= λ ms. Ok ms)
bind_done (Ok ms) = refl
bind_done (Err f) = refl

-- a frame put last is read first
pub pushed : {X : Type 0} (each : X → Reading) (fs : List (List X)) (f : List X) (done : List (At Member))
    → stack_read each (fs ++ f ∷ []) done ≡ (in_order each f done >>= λ ms. stack_read each fs ms)
pushed each [] f done = bind_done (in_order each f done)
pushed each (g ∷ fs) f done = ap (λ (r : Result (List (At Member)) Refusal). r >>= λ ms. in_order each g ms) (pushed each fs f done)
    ∙ bind_bind (in_order each f done) (λ ms. stack_read each fs ms) (λ ms. in_order each g ms)

unfolded : {X : Type 0} (each : X → Reading) (fs : List (List X)) (ps : List X) (r : Result (List (At Member)) Refusal)
    → ((r >>= λ ms. in_order each ps ms) >>= λ ms. stack_read each fs ms) ≡ (r >>= λ ms. stack_read each (fs ++ ps ∷ []) ms)
unfolded each fs ps (Ok ms) = sym (pushed each fs ps ms)
unfolded each fs ps (Err f) = refl

-- the first piece of the last frame is read first of all
pub first_piece : {X : Type 0} (each : X → Reading) (fs : List (List X)) (p : X) (ps : List X) (done : List (At Member))
    → stack_read each (fs ++ (p ∷ ps) ∷ []) done ≡ (each p done >>= λ ms. stack_read each (fs ++ ps ∷ []) ms)
first_piece each fs p ps done = pushed each fs (p ∷ ps) done ∙ unfolded each fs ps (each p done)

-- a frame without pieces gives nothing
pub nothing_left : {X : Type 0} (each : X → Reading) (fs : List (List X)) (done : List (At Member)) → stack_read each (fs ++ [] ∷ []) done ≡ stack_read each fs done
nothing_left each fs done = pushed each fs [] done

same_order : (f h : At Piece → Reading) (ps : List (At Piece)) → All (λ q. f q ≡ h q) ps → in_order f ps ≡ in_order h ps
same_order f h [] all = refl
same_order f h (p ∷ ps) all =
    let here : f p ≡ h p = All-head (λ q. f q ≡ h q) p ps all in
    let more = same_order f h ps (All-tail (λ q. f q ≡ h q) p ps all) in
    λ i done. here i done >>= λ ms. more i ms

local_sense : (f h : At Piece → Reading) (is_verbatim : Bool) (start end : ℕ) (r : Result Sense Refusal) → All (λ q. f q ≡ h q) (parts_in r) → (done : List (At Member))
    → (r >>= λ s. by_sense f is_verbatim start end s done) ≡ (r >>= λ s. by_sense h is_verbatim start end s done)
local_sense f h is_verbatim start end (Ok (spelled cs)) all done = refl
local_sense f h is_verbatim start end (Ok (defined ps)) all done = λ i. same_order f h ps all i done
local_sense f h is_verbatim start end (Err e) all done = refl

pub reading_is_local : (g : Glossary) (is_verbatim : Bool) → IsLocal g (reading g is_verbatim)
reading_is_local g is_verbatim f h p all = λ i done. local_sense f h is_verbatim p.start p.end (sense g p) all done i

pub by_the_rule : (g : Glossary) → AreFlags g.flags g.definitions → ReadsByTheRule g
unfolding read
by_the_rule g flags is_verbatim p = deep_enough g (reading g is_verbatim) (λ ms. Ok ms) (reading_is_local g is_verbatim) flags p

pub read_unresolved : (g : Glossary) (is_verbatim : Bool) → AreFlags g.flags g.definitions → (p : At Piece) (done : List (At Member)) → resolved_read g is_verbatim (unresolved p) done ≡ read g is_verbatim p done
read_unresolved g is_verbatim flags p done = sym (λ i. by_the_rule g flags is_verbatim p i done)

pub in_order_unresolved : (g : Glossary) (is_verbatim : Bool) → AreFlags g.flags g.definitions → (ps : List (At Piece)) (done : List (At Member))
    → in_order (resolved_read g is_verbatim) (map unresolved ps) done ≡ in_order (read g is_verbatim) ps done
in_order_unresolved g is_verbatim flags [] done = refl
in_order_unresolved g is_verbatim flags (p ∷ ps) done = ap (λ (r : Result (List (At Member)) Refusal). r >>= λ ms. in_order (resolved_read g is_verbatim) (map unresolved ps) ms) (read_unresolved g is_verbatim flags p done)
    ∙ past_first (λ ms. in_order_unresolved g is_verbatim flags ps ms) (read g is_verbatim p done)
  where
    past_first : ((ms : List (At Member)) → in_order (resolved_read g is_verbatim) (map unresolved ps) ms ≡ in_order (read g is_verbatim) ps ms)
        → (r : Result (List (At Member)) Refusal) → (r >>= λ ms. in_order (resolved_read g is_verbatim) (map unresolved ps) ms) ≡ (r >>= λ ms. in_order (read g is_verbatim) ps ms)
    past_first more (Ok ms) = more ms
    past_first more (Err f) = refl

-- What is left to be read where the last frame begins with a piece, by what the piece stands for.

abbrev after_frame : Glossary → Bool → List (List Resolved) → List Resolved → Result (List (At Member)) Refusal → Result (List (At Member)) Refusal
after_frame g is_verbatim fs ps r = r >>= λ ms. stack_read (resolved_read g is_verbatim) (fs ++ ps ∷ []) ms

abbrev by_its_sense : Glossary → Bool → Resolved → List (At Member) → Result Sense Refusal → Result (List (At Member)) Refusal
by_its_sense g is_verbatim p done r = r >>= λ s. by_sense (read g is_verbatim) is_verbatim p.raw.start p.raw.end s done

-- a fault of what the first piece stands for is that of all that is left
pub next_refused : (g : Glossary) (is_verbatim : Bool) (fs : List (List Resolved)) (p : Resolved) (ps : List Resolved) (done : List (At Member)) (f : Refusal)
    → resolved_sense g p ≡ Err f → stack_read (resolved_read g is_verbatim) (fs ++ (p ∷ ps) ∷ []) done ≡ Err f
next_refused g is_verbatim fs p ps done f is = first_piece (resolved_read g is_verbatim) fs p ps done
    ∙ ap (λ (r : Result Sense Refusal). after_frame g is_verbatim fs ps (by_its_sense g is_verbatim p done r)) is

-- where the first piece stands for a text, the others are read after that
pub next_spelled : (g : Glossary) (is_verbatim : Bool) (fs : List (List Resolved)) (p : Resolved) (ps : List Resolved) (done : List (At Member)) (cs : List ℕ) (r : Result (List (At Member)) Refusal)
    → resolved_sense g p ≡ Ok (spelled cs) → text_read is_verbatim p.raw.start p.raw.end cs done ≡ r
    → stack_read (resolved_read g is_verbatim) (fs ++ (p ∷ ps) ∷ []) done ≡ (r >>= λ ms. stack_read (resolved_read g is_verbatim) (fs ++ ps ∷ []) ms)
next_spelled g is_verbatim fs p ps done cs r is given = first_piece (resolved_read g is_verbatim) fs p ps done
    ∙ (ap (λ (x : Result Sense Refusal). after_frame g is_verbatim fs ps (by_its_sense g is_verbatim p done x)) is
    ∙ ap (after_frame g is_verbatim fs ps) given)

-- where the first piece opens a definition, what is read instead of its pieces is a frame of its own
pub next_opened : (g : Glossary) (is_verbatim : Bool) → AreFlags g.flags g.definitions → (fs : List (List Resolved)) (p : Resolved) (ps qs : List Resolved) (index : ℕ) (done : List (At Member))
    → resolved_sense g p ≡ Ok (defined (pieces_at g.definitions index)) → Replacement g is_verbatim qs (unresolved_at g.definitions index)
    → stack_read (resolved_read g is_verbatim) (fs ++ (p ∷ ps) ∷ []) done ≡ stack_read (resolved_read g is_verbatim) ((fs ++ ps ∷ []) ++ qs ∷ []) done
next_opened g is_verbatim flags fs p ps qs index done is s = first_piece (resolved_read g is_verbatim) fs p ps done
    ∙ (ap (λ (x : Result Sense Refusal). after_frame g is_verbatim fs ps (by_its_sense g is_verbatim p done x)) is
    ∙ (ap (after_frame g is_verbatim fs ps) (sym (s.same done ∙ in_order_unresolved g is_verbatim flags (pieces_at g.definitions index) done))
    ∙ sym (pushed (resolved_read g is_verbatim) (fs ++ ps ∷ []) qs done)))

-- one frame alone gives what the pieces give instead of which it is read
pub one_frame : (g : Glossary) (is_verbatim : Bool) → AreFlags g.flags g.definitions → (qs : List Resolved) (index : ℕ) (done : List (At Member)) → Replacement g is_verbatim qs (unresolved_at g.definitions index)
    → stack_read (resolved_read g is_verbatim) (qs ∷ []) done ≡ in_order (read g is_verbatim) (pieces_at g.definitions index) done
one_frame g is_verbatim flags qs index done s = s.same done ∙ in_order_unresolved g is_verbatim flags (pieces_at g.definitions index) done

-- One piece as it is written, by what it stands for.

abbrev sensed : Glossary → Bool → At Piece → List (At Member) → Result Sense Refusal → Result (List (At Member)) Refusal
sensed g is_verbatim p done r = r >>= λ s. by_sense (read g is_verbatim) is_verbatim p.start p.end s done

pub read_sensed : (g : Glossary) (is_verbatim : Bool) → AreFlags g.flags g.definitions → (p : At Piece) (done : List (At Member)) (s : Sense) → sense g p ≡ Ok s
    → read g is_verbatim p done ≡ by_sense (read g is_verbatim) is_verbatim p.start p.end s done
read_sensed g is_verbatim flags p done s is = (λ i. by_the_rule g flags is_verbatim p i done) ∙ ap (sensed g is_verbatim p done) is

pub read_refused : (g : Glossary) (is_verbatim : Bool) → AreFlags g.flags g.definitions → (p : At Piece) (done : List (At Member)) (f : Refusal) → sense g p ≡ Err f → read g is_verbatim p done ≡ Err f
read_refused g is_verbatim flags p done f is = (λ i. by_the_rule g flags is_verbatim p i done) ∙ ap (sensed g is_verbatim p done) is
