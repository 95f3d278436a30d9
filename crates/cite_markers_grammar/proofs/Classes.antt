-- The reader's classes of characters, which its crate does not export. Each is named here by a definition of that crate in which it stands.
use Rattle.std.proofs.Common.{◌≡◌, ℕ, List, Some, Ok, refl}
use Rattle.std.specs.Option.{ok_or}
use Rattle.laws.specs.Results.{◌>>=◌}
use Rattle.laws.specs.Runs.{prefix_of, after}
use Rattle.laws.specs.Text.{is_filled, text as text_of}
use Rattle.texts.specs.Reading.{token_at, taken}
use Rattle.texts.specs.declared.reader.Unreadable.TheVariants.{NotThere}
use Rattle.cite_markers.specs.Character.{passes}
use Rattle.cite_markers.specs.Words.{label_of}
use Rattle.cite_markers.specs.Marker.{passing, word_at, beginning_at, is_value, locator_at, locator_if_space, cite_at}

-- what a function is defined on
abbrev pub domain : {A B : Type 0} → (A → B) → Type 0
domain {A} f = A

abbrev pub Class : Type 0
Class = domain passes

-- the value that a type determines which is about it
abbrev pub the : {A : Type 0} (P : A → Type 0) {a : A} → P a → A
the P {a} p = a

abbrev pub of_word : Class
unfolding word_at
of_word = the (λ class. (cs : List ℕ) → (token_at 32 (after (passes class) cs) >>= λ rest. Ok (text_of (prefix_of (passes class) cs), rest)) ≡ word_at cs) (λ cs. refl)

abbrev pub of_value : Class
unfolding locator_at
of_value =
    the (λ class. (cs : List ℕ) → (word_at cs >>= λ word. ok_or (label_of word.0) NotThere >>= λ label. passing (is_value (text_of (prefix_of (passes class) word.1))) (prefix_of (passes class) word.1) >>= λ value. Ok (Some (record { label = label; value = value }), after (passes class) word.1)) ≡ locator_at cs)
    (λ cs. refl)

abbrev pub of_name : Class
unfolding cite_at
of_name =
    the (λ class. (cs : List ℕ) → (beginning_at cs >>= λ b. passing (is_filled (prefix_of (passes class) b.1)) (prefix_of (passes class) b.1) >>= λ name. locator_if_space (taken 32 (after (passes class) b.1)) >>= λ locator. Ok (record { name = name; hidden = b.0.hidden; purpose = b.0.purpose; locator = locator.0 }, locator.1)) ≡ cite_at cs)
    (λ cs. refl)
