-- Reading a piece of an ordinary field as a loop does.
use Rattle.std.proofs.Common.{◌≡◌, ℕ, List, [], ◌∷◌, Result, Ok, Err, refl, sym, ap, ◌∙◌}
use Rattle.laws.specs.Results.{◌>>=◌, Leaves, Gives}
use Rattle.biblatex_tex.specs.declared.error.ContentError.{ContentError}
use Rattle.biblatex_tex.specs.declared.error.ContentError.TheVariants as errors
use Rattle.biblatex_tex.specs.declared.error.ContentError.TheVariants.{MalformedCommand}
use Rattle.biblatex_content.specs.Styled.{Member}
use Rattle.biblatex_tex.specs.Token.{Token, paired_of}
use Rattle.biblatex_content.specs.Ordinary.{State, step, steps, begun, ended_in, ordinary}
use Rattle.biblatex_tex.specs.Results.{refusal_of}
use Rattle.biblatex_content.specs.Views.{following, joined}
use Rattle.biblatex_content.proofs.OrdinaryShifted.{onto, ordinary-following}

-- a fault of the tokens is that of the piece
following-malformed : (done : List Member) (cs : List ℕ) → paired_of cs ≡ Err MalformedCommand → following done (ordinary cs) ≡ Err MalformedCommand
following-malformed done cs e = sym (ordinary-following done cs) ∙ ap (onto done) e

pub following-fails : {X : Type 0} (view : X → List Token) (e : ContentError) (done : List Member) (cs : List ℕ) → Gives refusal_of view (Err e) (paired_of cs) → Gives refusal_of joined (Err e) (following done (ordinary cs))
following-fails view errors.Memory done cs g = tt
following-fails view errors.MalformedCommand done cs g = following-malformed done cs g

-- a fault of a step is that of the piece
following-stopped : (done : List Member) (cs : List ℕ) (ts rest : List Token) (t : Token) (s : State) → paired_of cs ≡ Ok ts → steps (t ∷ rest) s ≡ steps ts (begun done) → step t s ≡ Err MalformedCommand
    → following done (ordinary cs) ≡ Err MalformedCommand
following-stopped done cs ts rest t s e same stops =
    let fault : steps ts (begun done) ≡ Err MalformedCommand = sym same ∙ rw stops refl in
    sym (ordinary-following done cs) ∙ (ap (onto done) e ∙ rw fault refl)

pub following-stops : (e : ContentError) (done : List Member) (cs : List ℕ) (ts rest : List Token) (t : Token) (s next : State) → paired_of cs ≡ Ok ts → steps (t ∷ rest) s ≡ steps ts (begun done)
    → Leaves {X = Unit {0}} refusal_of (Err e) next (step t s) → Gives refusal_of joined (Err e) (following done (ordinary cs))
following-stops errors.Memory done cs ts rest t s next is same m = tt
following-stops errors.MalformedCommand done cs ts rest t s next is same m = following-stopped done cs ts rest t s is same m

-- where all tokens were read, the piece gives what they made
pub following-ends : (done : List Member) (cs : List ℕ) (ts : List Token) (s : State) → paired_of cs ≡ Ok ts → Ok s ≡ steps ts (begun done) → following done (ordinary cs) ≡ ended_in s.mode s.frames s.done
following-ends done cs ts s is same =
    sym (ordinary-following done cs) ∙ (ap (onto done) is ∙ ap (λ (r : Result State ContentError). r >>= λ x. ended_in x.mode x.frames x.done) (sym same))

-- after nothing stands what was read
pub after_nothing : (read : Result (List Member) ContentError) → following [] read ≡ read
after_nothing (Ok ms) = refl
after_nothing (Err f) = refl
