-- What texts hold that are put one after the other. Texts are lists of characters, and characters are numbers.
use Rattle.std.specs.Prelude.{◌≡◌, ℕ, List, [], ◌∷◌, ◌++◌, map, Ok}
use Rattle.laws.specs.Characters.{line_feed, at_sign}
use Rattle.biblatex_text.specs.Raw.{Raw}
use Rattle.biblatex_text.specs.Items.{raw_of}
use Rattle.biblatex_laws.specs.Differing.{bare_entry, bare_field}

-- a text that is empty, or begins with an at sign
abbrev pub BeginsItem : List ℕ → Type 0
BeginsItem [] = Unit {0}
BeginsItem (c ∷ cs) = c ≡ at_sign

-- a character and what follows it end in a line feed
abbrev pub EndsInLineFeed : ℕ → List ℕ → Type 0
EndsInLineFeed c [] = c ≡ line_feed
EndsInLineFeed c (d ∷ cs) = EndsInLineFeed d cs

-- a text of whole lines: it is empty, or ends in a line feed
abbrev pub HasWholeLines : List ℕ → Type 0
HasWholeLines [] = Unit {0}
HasWholeLines (c ∷ cs) = EndsInLineFeed c cs

-- a raw text has the entries and the abbreviations of two others, one after the other, but for where they stand
pub record HoldsBoth (first second both : Raw) : Type 0 where
  pub entries : map bare_entry both.entries ≡ map bare_entry first.entries ++ map bare_entry second.entries
  pub abbreviations : map bare_field both.abbreviations ≡ map bare_field first.abbreviations ++ map bare_field second.abbreviations

-- A text of whole lines, and a text after it that begins with an item, hold together what each of them holds.
abbrev pub JoinedTextsHoldBoth : Type 0
JoinedTextsHoldBoth =
    (front back : List ℕ) (first second : Raw) → HasWholeLines front → BeginsItem back → raw_of front ≡ Ok first → raw_of back ≡ Ok second
    → (both : Raw) × (raw_of (front ++ back) ≡ Ok both) × HoldsBoth first second both

-- Where both together are read, so is the second by itself.
abbrev pub WhatFollowsIsRead : Type 0
WhatFollowsIsRead =
    (front back : List ℕ) (first both : Raw) → HasWholeLines front → BeginsItem back → raw_of front ≡ Ok first → raw_of (front ++ back) ≡ Ok both
    → (second : Raw) × (raw_of back ≡ Ok second)
