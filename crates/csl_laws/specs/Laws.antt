-- What changes nothing of what a file means, nor whether it is refused: the order of attributes, places, white space where no text counts, and
-- all by which texts differ that spell one tree.
use Rattle.std.specs.Prelude.{◌≡◌, ◌↔◌, ℕ, List, []}
use Rattle.xml_tree.specs.Trees.{Element}
use Rattle.xml_tree.specs.Grammar.{Spells}
use Rattle.csl_styles.specs.Files.{Csl, meaning}
use Rattle.csl_styles.specs.Faults.{faults}
use Rattle.csl_styles.specs.Reading.{Refusal, Means, IsRefused}
use Rattle.csl_laws.specs.Trees.{Alike}

-- trees that say the same mean the same
abbrev pub AlikeTreesMeanTheSame : Type 0
AlikeTreesMeanTheSame = (x y : Element) → Alike x y → meaning x ≡ meaning y

-- and where one has no fault, the other has none
abbrev pub AlikeTreesAreFaultlessTogether : Type 0
AlikeTreesAreFaultlessTogether = (x y : Element) → Alike x y → (faults x ≡ []) ↔ (faults y ≡ [])

-- texts that spell trees that say the same
abbrev pub SayTheSame : List ℕ → List ℕ → Type 0
SayTheSame t u = (x : Element) × (y : Element) × Spells x t × Spells y u × Alike x y

-- they mean the same
abbrev pub AlikeTextsMeanTheSame : Type 0
AlikeTextsMeanTheSame = (t u : List ℕ) → SayTheSame t u → (c : Csl) → Means t c ↔ Means u c

-- and where one is refused, so is the other
abbrev pub AlikeTextsAreRefusedTogether : Type 0
AlikeTextsAreRefusedTogether = (t u : List ℕ) → SayTheSame t u → (r : Refusal) → IsRefused t r → (q : Refusal) × IsRefused u q
