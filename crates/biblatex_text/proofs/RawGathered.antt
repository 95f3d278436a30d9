-- Gathering what the items of a text give as a loop does.
use Rattle.std.proofs.Common.{◌≡◌, ℕ, List, [], ◌∷◌, ◌++◌, Some, None, Result, Ok, Err, refl, ap, sym, ◌∙◌, append_assoc}
use Rattle.std.specs.List.{flat_map}
use Rattle.std.proofs.lemmas.List.{append-nil}
use Rattle.laws.specs.Results.{◌>>=◌}
use Rattle.laws.specs.Steps.{each}
use Rattle.laws.proofs.Steps.{each-none, each-some, each-err}
use Rattle.biblatex_text.specs.Raw.{At, Item, entries_of, abbreviations_of, Raw, with_item}
use Rattle.biblatex_text.specs.Reading.{Refusal}
use Rattle.biblatex_text.specs.Items.{next_item_at, raw_at}
use Rattle.biblatex_text.specs.Views.{Stops}
use Rattle.biblatex_text.specs.declared.error.Stop.{Stop}
use Rattle.biblatex_text.specs.declared.error.Stop.TheVariants as stops
use Rattle.biblatex_text.proofs.ReadingShorter.{items_shorten}

-- what was there, before what the items give
abbrev pub joined : Raw → List (At Item) → Raw
joined r is = record { entries = r.entries ++ flat_map entries_of is; abbreviations = r.abbreviations ++ flat_map abbreviations_of is }

abbrev pub onto : Raw → Result (List (At Item) × List ℕ) Refusal → Result Raw Refusal
onto r read = read >>= λ p. Ok (joined r p.0)

abbrev pub none : Raw
none = record { entries = []; abbreviations = [] }

pub onto-begin : (n : ℕ) (cs : List ℕ) → onto none (each (next_item_at n) cs) ≡ raw_at n cs
unfolding raw_at
onto-begin n cs = refl

joined-some : (r : Raw) (i : At Item) (is : List (At Item)) → joined r (i ∷ is) ≡ joined (with_item r i) is
joined-some r i is = λ j. record {
  entries = sym (append_assoc r.entries (entries_of i) (flat_map entries_of is)) j;
  abbreviations = sym (append_assoc r.abbreviations (abbreviations_of i) (flat_map abbreviations_of is)) j;
}

joined-none : (r : Raw) → joined r [] ≡ r
joined-none r = λ j. record { entries = append-nil r.entries j; abbreviations = append-nil r.abbreviations j }

moved : (r : Raw) (i : At Item) (read : Result (List (At Item) × List ℕ) Refusal) → onto r (read >>= λ p. Ok (i ∷ p.0, p.1)) ≡ onto (with_item r i) read
moved r i (Ok p) = ap (λ (x : Raw). Ok x) (joined-some r i p.0)
moved r i (Err f) = refl

-- what an item gives stands after what the items before it gave
pub onto-some : (n : ℕ) (r : Raw) (cs rest : List ℕ) (i : At Item) → next_item_at n cs ≡ Ok (Some i, rest) → onto r (each (next_item_at n) cs) ≡ onto (with_item r i) (each (next_item_at n) rest)
onto-some n r cs rest i is = ap (onto r) (each-some (next_item_at n) (items_shorten n) cs rest i is) ∙ moved r i (each (next_item_at n) rest)

-- where no item follows, what the items before gave is all
pub onto-none : (n : ℕ) (r : Raw) (cs rest : List ℕ) → next_item_at n cs ≡ Ok (None, rest) → onto r (each (next_item_at n) cs) ≡ Ok r
onto-none n r cs rest is = ap (onto r) (each-none (next_item_at n) cs rest is) ∙ ap (λ (x : Raw). Ok x) (joined-none r)

-- a fault of an item is that of the text
pub onto-stops : (n : ℕ) (r : Raw) (cs rest : List ℕ) (s : Stop) → Stops s rest (next_item_at n cs) → Stops s rest (onto r (each (next_item_at n) cs))
onto-stops n r cs rest stops.Memory is = tt
onto-stops n r cs rest (stops.Fault f) is = ap (onto r) (each-err (next_item_at n) cs (f, rest) is)
