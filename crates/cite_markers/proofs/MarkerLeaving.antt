-- What reading a marker leaves.
use Rattle.std.proofs.Common.{◌≡◌, ℕ, ◌<◌, Bool, true, false, cond, eqb, List, [], ◌∷◌, length, Option, Some, None, Result, Ok, Err, ap, arith}
use Rattle.std.specs.Prelude.{IfOk}
use Rattle.std.specs.Option.{ok_or}
use Rattle.laws.specs.Characters.{space, hyphen, semicolon, at_sign, open_bracket, close_bracket}
use Rattle.laws.specs.Results.{◌>>=◌}
use Rattle.laws.specs.Runs.{prefix_of, after}
use Rattle.laws.specs.Steps.{each, Shortens}
use Rattle.laws.specs.Text.{text, is_filled}
use Rattle.laws.proofs.Results.{bind_if_ok, if_ok_at, ok_is}
use Rattle.texts.specs.Reading.{token_at, taken}
use Rattle.texts.specs.declared.reader.Unreadable.{Unreadable}
use Rattle.texts.specs.declared.reader.Unreadable.TheVariants.{NotThere}
use Rattle.rendering_taxonomy.specs.declared.cite.CitePurpose.{CitePurpose}
use Rattle.rendering_taxonomy.specs.declared.locator.Locator.{Locator}
use Rattle.cite_markers.specs.Character.{passes}
use Rattle.cite_markers.specs.Words.{purpose_of, label_of}
use Rattle.cite_markers.specs.Marker.{CiteLocator, Cite, Beginning, passing, word_at, purpose_at, purpose_if_no_sign, beginning_at, is_value, locator_at, locator_if_space, cite_at, further_cite_at, cite_if_semicolon, next_cite_at, cites_at, marker_at}
use Rattle.cite_markers.specs.declared.class.Class.TheVariants.{Word, Name, Value}
use Rattle.cite_markers.proofs.Leaving.{Leaves, LeavesRest, leaves_all, leaves_run, leaves_token, leaves_taken, leaves_each, end_length}

-- what is looked up or tested takes nothing
abbrev anything : {A : Type 0} → A → Type 0
anything a = Unit {0}

of_looked_up : {A : Type 0} (o : Option A) → IfOk (ok_or o NotThere) (λ a. anything a)
of_looked_up None = tt
of_looked_up (Some a) = tt

of_tested : {A : Type 0} (b : Bool) (a : A) → IfOk (passing b a) (λ x. anything x)
of_tested true a = tt
of_tested false a = tt

word_leaves : (whole cs : List ℕ) → Leaves whole cs → IfOk (word_at cs) (LeavesRest whole)
unfolding word_at
word_leaves whole cs a =
    bind_if_ok (Leaves whole) (λ (p : List ℕ × List ℕ). LeavesRest whole p) (token_at space (after (passes Word) cs)) (λ rest. Ok (text (prefix_of (passes Word) cs), rest))
    (leaves_token whole space (after (passes Word) cs) (leaves_run whole (passes Word) cs a)) (λ rest b. b)

purpose_leaves : (whole cs : List ℕ) → Leaves whole cs → IfOk (purpose_at cs) (LeavesRest whole)
unfolding purpose_at
purpose_leaves whole cs a =
    bind_if_ok (λ (w : List ℕ × List ℕ). LeavesRest whole w) (λ (p : Option CitePurpose × List ℕ). LeavesRest whole p) (word_at cs) (λ word. ok_or (purpose_of word.0) NotThere >>= λ purpose. token_at at_sign word.1 >>= λ rest. Ok (Some purpose, rest)) (word_leaves whole cs a)
    (λ word b. bind_if_ok (λ (x : CitePurpose). anything x) (λ (p : Option CitePurpose × List ℕ). LeavesRest whole p) (ok_or (purpose_of word.0) NotThere) (λ purpose. token_at at_sign word.1 >>= λ rest. Ok (Some purpose, rest)) (of_looked_up (purpose_of word.0))
    (λ purpose _. bind_if_ok (Leaves whole) (λ (p : Option CitePurpose × List ℕ). LeavesRest whole p) (token_at at_sign word.1) (λ rest. Ok (Some purpose, rest)) (leaves_token whole at_sign word.1 b) (λ rest d. d)))

purpose_if_leaves : (whole : List ℕ) (t : Bool × List ℕ) → LeavesRest whole t → IfOk (purpose_if_no_sign t) (LeavesRest whole)
purpose_if_leaves whole (true, rest) a = a
purpose_if_leaves whole (false, rest) a = purpose_leaves whole rest a

pub beginning_leaves : (whole cs : List ℕ) → Leaves whole cs → IfOk (beginning_at cs) (LeavesRest whole)
unfolding beginning_at
beginning_leaves whole cs a =
    bind_if_ok (λ (p : Option CitePurpose × List ℕ). LeavesRest whole p) (λ (b : Beginning × List ℕ). LeavesRest whole b) (purpose_if_no_sign (taken at_sign (taken hyphen cs).1)) (λ purpose. Ok (record { hidden = (taken hyphen cs).0; purpose = purpose.0 }, purpose.1))
    (purpose_if_leaves whole (taken at_sign (taken hyphen cs).1) (leaves_taken whole at_sign (taken hyphen cs).1 (leaves_taken whole hyphen cs a))) (λ p b. b)

locator_leaves : (whole cs : List ℕ) → Leaves whole cs → IfOk (locator_at cs) (LeavesRest whole)
unfolding locator_at
locator_leaves whole cs a =
    bind_if_ok (λ (w : List ℕ × List ℕ). LeavesRest whole w) Rests (word_at cs) (λ word. ok_or (label_of word.0) NotThere >>= λ label. valued word label) (word_leaves whole cs a)
    (λ word b. bind_if_ok (λ (x : Locator). anything x) Rests (ok_or (label_of word.0) NotThere) (valued word) (of_looked_up (label_of word.0))
    (λ label _. bind_if_ok (λ (x : List ℕ). anything x) Rests (passing (is_value (text (run word))) (run word)) (λ value. Ok (Some (record { label = label; value = value }), after (passes Value) word.1)) (of_tested (is_value (text (run word))) (run word))
    (λ value _. leaves_run whole (passes Value) word.1 b)))
  where
    Rests : Option CiteLocator × List ℕ → Type 0
    Rests p = LeavesRest whole p

    run : List ℕ × List ℕ → List ℕ
    run word = prefix_of (passes Value) word.1

    valued : List ℕ × List ℕ → Locator → Result (Option CiteLocator × List ℕ) Unreadable
    valued word label = passing (is_value (text (run word))) (run word) >>= λ value. Ok (Some (record { label = label; value = value }), after (passes Value) word.1)

locator_if_leaves : (whole : List ℕ) (t : Bool × List ℕ) → LeavesRest whole t → IfOk (locator_if_space t) (LeavesRest whole)
locator_if_leaves whole (true, rest) a = locator_leaves whole rest a
locator_if_leaves whole (false, rest) a = a

cite_leaves : (whole cs : List ℕ) → Leaves whole cs → IfOk (cite_at cs) (LeavesRest whole)
unfolding cite_at
cite_leaves whole cs a =
    bind_if_ok (λ (b : Beginning × List ℕ). LeavesRest whole b) Rests (beginning_at cs) (λ b. passing (is_filled (run b)) (run b) >>= located b) (beginning_leaves whole cs a)
    (λ b l. bind_if_ok (λ (x : List ℕ). anything x) Rests (passing (is_filled (run b)) (run b)) (located b) (of_tested (is_filled (run b)) (run b))
    (λ name _. bind_if_ok (λ (p : Option CiteLocator × List ℕ). LeavesRest whole p) Rests (locator_if_space (taken space (after (passes Name) b.1))) (λ locator. Ok (record { name = name; hidden = b.0.hidden; purpose = b.0.purpose; locator = locator.0 }, locator.1))
    (locator_if_leaves whole (taken space (after (passes Name) b.1)) (leaves_taken whole space (after (passes Name) b.1) (leaves_run whole (passes Name) b.1 l))) (λ p d. d)))
  where
    Rests : Cite × List ℕ → Type 0
    Rests p = LeavesRest whole p

    run : Beginning × List ℕ → List ℕ
    run b = prefix_of (passes Name) b.1

    located : Beginning × List ℕ → List ℕ → Result (Cite × List ℕ) Unreadable
    located b name = locator_if_space (taken space (after (passes Name) b.1)) >>= λ locator. Ok (record { name = name; hidden = b.0.hidden; purpose = b.0.purpose; locator = locator.0 }, locator.1)

further_leaves : (whole cs : List ℕ) → Leaves whole cs → IfOk (further_cite_at cs) (LeavesRest whole)
unfolding further_cite_at
further_leaves whole cs a =
    bind_if_ok (Leaves whole) (λ (p : Option Cite × List ℕ). LeavesRest whole p) (token_at space cs) (λ rest. cite_at rest >>= λ cite. Ok (Some cite.0, cite.1)) (leaves_token whole space cs a)
    (λ rest b. bind_if_ok (λ (p : Cite × List ℕ). LeavesRest whole p) (λ (p : Option Cite × List ℕ). LeavesRest whole p) (cite_at rest) (λ cite. Ok (Some cite.0, cite.1)) (cite_leaves whole rest b) (λ p d. d))

cite_if_leaves : (whole : List ℕ) (t : Bool × List ℕ) → LeavesRest whole t → IfOk (cite_if_semicolon t) (LeavesRest whole)
cite_if_leaves whole (true, rest) a = further_leaves whole rest a
cite_if_leaves whole (false, rest) a = a

next_leaves : (cs : List ℕ) → IfOk (next_cite_at cs) (LeavesRest cs)
unfolding next_cite_at
next_leaves cs = cite_if_leaves cs (taken semicolon cs) (leaves_taken cs semicolon cs (leaves_all cs))

abbrev nothing : Option Cite
nothing = None

abbrev done : (F : Type 0) → Option Cite × List ℕ → Result (Option Cite × List ℕ) F
done F p = Ok p

nothing_given : (x : Cite) (a b : List ℕ) → done Unreadable (nothing, a) ≡ done Unreadable (Some x, b) → ⊥
nothing_given x a b e =
    let none : nothing ≡ Some x = ap (λ (p : Option Cite × List ℕ). p.0) (ok_is {F = Unreadable} (nothing, a) (Some x, b) e) in
    absurd cc

-- a further cite takes a semicolon at least
pub cites_shorten : Shortens next_cite_at
unfolding next_cite_at
cites_shorten [] rest x is = absurd (nothing_given x [] rest is)
cites_shorten (d ∷ cs) rest x is = by_test (eqb d semicolon) is
  where
    by_test : (b : Bool) → cite_if_semicolon (cond b (true, cs) (false, d ∷ cs)) ≡ Ok (Some x, rest) → length rest < length (d ∷ cs)
    by_test true e = omega (arith, end_length cs rest (if_ok_at (λ (p : Option Cite × List ℕ). LeavesRest cs p) (further_cite_at cs) (Some x, rest) e (further_leaves cs cs (leaves_all cs))))
    by_test false e = absurd (nothing_given x (d ∷ cs) rest e)

cites_leave : (whole cs : List ℕ) → Leaves whole cs → IfOk (cites_at cs) (LeavesRest whole)
unfolding cites_at
cites_leave whole cs a =
    bind_if_ok (λ (p : Cite × List ℕ). LeavesRest whole p) (λ (p : List Cite × List ℕ). LeavesRest whole p) (cite_at cs) (λ first. each next_cite_at first.1 >>= λ others. Ok (first.0 ∷ others.0, others.1)) (cite_leaves whole cs a)
    (λ first b. bind_if_ok (λ (p : List Cite × List ℕ). LeavesRest whole p) (λ (p : List Cite × List ℕ). LeavesRest whole p) (each next_cite_at first.1) (λ others. Ok (first.0 ∷ others.0, others.1))
    (leaves_each next_cite_at next_leaves whole first.1 b) (λ p d. d))

-- what follows the bracket of a marker
after_bracket : (whole cs : List ℕ) → Leaves whole cs → IfOk (cites_at cs >>= λ cites. token_at close_bracket cites.1 >>= λ rest. Ok (cites.0, rest)) (LeavesRest whole)
after_bracket whole cs a =
    bind_if_ok (λ (p : List Cite × List ℕ). LeavesRest whole p) (λ (p : List Cite × List ℕ). LeavesRest whole p) (cites_at cs) (λ cites. token_at close_bracket cites.1 >>= λ rest. Ok (cites.0, rest)) (cites_leave whole cs a)
    (λ cites b. bind_if_ok (Leaves whole) (λ (p : List Cite × List ℕ). LeavesRest whole p) (token_at close_bracket cites.1) (λ rest. Ok (cites.0, rest)) (leaves_token whole close_bracket cites.1 b) (λ rest d. d))

-- a marker takes its bracket at least
pub marker_leaves : (c : ℕ) (cs : List ℕ) → IfOk (marker_at (c ∷ cs)) (LeavesRest cs)
unfolding marker_at
marker_leaves c cs = by_test (eqb c open_bracket)
  where
    by_test : (b : Bool) → IfOk (cond b (Ok cs) (Err NotThere) >>= λ opened. cites_at opened >>= λ cites. token_at close_bracket cites.1 >>= λ rest. Ok (cites.0, rest)) (LeavesRest cs)
    by_test true = after_bracket cs cs (leaves_all cs)
    by_test false = tt
