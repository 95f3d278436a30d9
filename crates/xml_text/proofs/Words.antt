-- A word, character by character, and what is gathered until reading stops.
use Rattle.std.proofs.Common.{◌≡◌, ℕ, List, ◌∷◌, Result, Err, refl}
use Rattle.laws.specs.Steps.{Step}
use Rattle.xml_text.specs.Reading.{Refusal, character_at, word_at}
use Rattle.xml_text.specs.Views.{StopsAt}
use Rattle.xml_text.specs.declared.fault.XmlError.{XmlError}
use Rattle.xml_text.specs.declared.fault.XmlError.TheVariants as errors
use Rattle.laws.proofs.Gathering.{Gathers, fails}

pub word_fails : (w : ℕ) (ws cs : List ℕ) (r : Refusal) → character_at w cs ≡ Err r → word_at (w ∷ ws) cs ≡ Err r
word_fails w ws cs r e = rw e refl

-- a step that stops, stops all that is gathered
pub stops-gathered : {X : Type 0} (step : Step Refusal X) (prefix : List X) (rest more : List ℕ) (all : Result (List X × List ℕ) Refusal) (error : XmlError)
    → Gathers step prefix rest all → StopsAt error more (step rest) → StopsAt error more all
stops-gathered step prefix rest more all errors.Memory so_far is = tt
stops-gathered step prefix rest more all (errors.Fault fault) so_far is = fails step prefix rest all (fault, more) so_far is
