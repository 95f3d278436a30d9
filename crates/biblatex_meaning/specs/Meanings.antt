-- What entries that were read come to, and what texts mean.
use Rattle.std.specs.Prelude.{◌≡◌, ℕ, List, length, Result, IfOk}
use Rattle.biblatex_text.specs.Raw.{At, Entry}
use Rattle.biblatex_fields.specs.Abbreviations.{Glossary}
use Rattle.biblatex_meaning.specs.Listed.{Listed, IsAsRead}
use Rattle.biblatex_meaning.specs.Reading.{Refusal, Loaded, loaded}
use Rattle.biblatex_meaning.specs.Resolved.{ComesTo, TextMeans}

-- each name means the last entry that has it, and each entry has its written key
pub record IsWellRead (read : Loaded) : Type 0 where
  pub names : IsAsRead read.listed
  pub keys : length read.keys ≡ length read.listed.entries

-- all that is read of entries is so
abbrev pub AllThatIsReadIsWellRead : Type 0
AllThatIsReadIsWellRead = (g : Glossary) (es : List (At Entry)) → IfOk (loaded g es) IsWellRead

-- entries that were read come to an answer once their references are to be resolved
abbrev pub AllThatIsReadComesToAnAnswer : Type 0
AllThatIsReadComesToAnAnswer = (read : Loaded) → IsWellRead read → (answer : Result Listed Refusal) × ComesTo read answer

-- characters mean something, and nothing else
pub record HasOneMeaning (cs : List ℕ) : Type 0 where
  pub answer : Result Listed Refusal
  pub means : TextMeans cs answer
  pub only : (other : Result Listed Refusal) → TextMeans cs other → other ≡ answer

abbrev pub EachTextHasOneMeaning : Type 0
EachTextHasOneMeaning = (cs : List ℕ) → HasOneMeaning cs
