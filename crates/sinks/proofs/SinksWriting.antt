-- Writing a text piece by piece.
use Rattle.std.proofs.Common.{◌≡◌, ℕ, ◌<◌, ◌≤◌, ◌^◌, ◌-◌, List, [], ◌++◌, take, drop, Option, Some, None, refl, sym, ap, subst, ◌∙◌, append_assoc, arith, inl, inr, ◌⊎◌}
use Rattle.std.proofs.lemmas.Bool.{cases_lt}
use Rattle.std.specs.Io.KnownBytes.{Appends, Keeps}
use Rattle.std.proofs.lemmas.List.{take-append-drop, append-nil}
use Rattle.laws.specs.Counts.{next_count}
use Rattle.sinks.specs.Sinks.{AppendsPrefix, HasFailed}

-- a prefix of the bytes was taken, the rest is still to come, and no call has failed
pub record Writing (old new : Option (List ℕ)) (was is : ℕ) (bytes rest : List ℕ) : Type 0 where
  pub prefix : List ℕ
  pub parts : bytes ≡ prefix ++ rest
  pub taken : Appends old new prefix
  pub count : is ≡ was

appends_none : (old : Option (List ℕ)) → Appends old old []
appends_none None = tt
appends_none (Some xs) = sym (append-nil xs)

appends_more : (old mid new : Option (List ℕ)) (xs ys : List ℕ) → Appends old mid xs → Appends mid new ys → Appends old new (xs ++ ys)
appends_more None mid new xs ys a b = tt
appends_more (Some os) None new xs ys a b = absurd a
appends_more (Some os) (Some ms) None xs ys a b = absurd b
appends_more (Some os) (Some ms) (Some ns) xs ys a b = b ∙ (ap (λ (t : List ℕ). t ++ ys) a ∙ append_assoc os xs ys)

keeps_is : (mid new : Option (List ℕ)) → Keeps mid new → Appends mid new []
keeps_is None new k = tt
keeps_is (Some ms) None k = absurd k
keeps_is (Some ms) (Some ns) k = k ∙ sym (append-nil ms)

pub starts : (old : Option (List ℕ)) (was : ℕ) (bytes : List ℕ) → Writing old old was was bytes bytes
starts old was bytes = record { prefix = []; parts = refl; taken = appends_none old; count = refl }

-- a call that took n bytes of the rest
pub goes_on : (old mid new : Option (List ℕ)) (was now later n : ℕ) (bytes rest : List ℕ) → Writing old mid was now bytes rest → Appends mid new (take n rest) → later ≡ now
    → Writing old new was later bytes (drop n rest)
goes_on old mid new was now later n bytes rest w a e = record {
  prefix = w.prefix ++ take n rest;
  parts = w.parts ∙ (ap (λ (t : List ℕ). w.prefix ++ t) (sym (take-append-drop n rest)) ∙ sym (append_assoc w.prefix (take n rest) (drop n rest)));
  taken = appends_more old mid new w.prefix (take n rest) w.taken a;
  count = e ∙ w.count;
}

-- at the end all was taken
pub is_whole : (old new : Option (List ℕ)) (was now : ℕ) (bytes rest : List ℕ) → Writing old new was now bytes rest → rest ≡ [] → Appends old new bytes
is_whole old new was now bytes rest w e = subst (λ (t : List ℕ). Appends old new t) (sym (w.parts ∙ (ap (λ (t : List ℕ). w.prefix ++ t) e ∙ append-nil w.prefix))) w.taken

-- where a call failed, a prefix was taken
pub is_prefix : (old mid new : Option (List ℕ)) (was now : ℕ) (bytes rest : List ℕ) → Writing old mid was now bytes rest → Keeps mid new → AppendsPrefix old new bytes
is_prefix old mid new was now bytes rest w k =
    (w.prefix, rest, w.parts, subst (λ (t : List ℕ). Appends old new t) (append-nil w.prefix) (appends_more old mid new w.prefix [] w.taken (keeps_is mid new k)))

-- and the count rose, or stood at its last value
pub has_failed : (was now later : ℕ) → now ≡ was → later ≡ next_count now → HasFailed was later
has_failed was now later e h = by_room (cases_lt was (2 ^ 64 - 1))
  where
    by_room : (was < 2 ^ 64 - 1) ⊎ (2 ^ 64 - 1 ≤ was) → HasFailed was later
    by_room (inl lt) = inl (omega arith)
    by_room (inr le) = inr (omega arith)
