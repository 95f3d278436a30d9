-- Items after one of the same entry.
use Rattle.std.proofs.Common.{◌≡◌, ◌==◌, ◌&&◌, ℕ, Bool, true, false, cond, refl, sym, ap, ◌∙◌, Option, Some, None}
use Rattle.std.specs.Option.{option_map}
use Rattle.rendering_taxonomy.specs.declared.cite.IbidState.{IbidState}
use Rattle.rendering_taxonomy.specs.declared.cite.IbidState.TheVariants as ibids
use Rattle.driver_requests.specs.Positions.{follows_several, ibid_after, ibid_after_item, ibid_at, ibid_of_same_entry}
use Rattle.driver_requests.specs.Requests.{Item}

-- an item after one that counts and is of the same entry
pub after_same : {P : Type 0} (same : P → P → Bool) (counting : Item P → Bool) (last i : Item P) (counts is_same : Bool) (result : IbidState) → counts ≡ true → is_same ≡ true
    → result ≡ ibid_of_same_entry same last i
    → (counts ≡ counting last) × (is_same ≡ (last.entry.index == i.entry.index))
    → result ≡ ibid_after same counting (Some last) i
after_same same counting last i counts is_same result counted one is h = rw (sym h.0 ∙ counted, sym h.1 ∙ one) is

-- an item after one that does not count
pub after_uncounted : {P : Type 0} (same : P → P → Bool) (counting : Item P → Bool) (last i : Item P) (counts : Bool) → counts ≡ false → counts ≡ counting last → ibids.Different ≡ ibid_after same counting (Some last) i
after_uncounted same counting last i counts out counted = sym (ap (λ b. cond b (ibid_after_item same last i) ibids.Different) (sym counted ∙ out))

either : {X : Type 0} (b : Bool) (x d : X) → x ≡ d → cond b x d ≡ d
either true x d e = e
either false x d e = refl

-- an item after one of another entry
pub after_other : {P : Type 0} (same : P → P → Bool) (counting : Item P → Bool) (last i : Item P) → (last.entry.index == i.entry.index) ≡ false → ibids.Different ≡ ibid_after same counting (Some last) i
after_other same counting last i apart = sym (either (counting last) (ibid_after_item same last i) ibids.Different (rw apart refl))

-- an item that may not repeat the one before it, and one that may
pub not_repeated : {P : Type 0} (same : P → P → Bool) (counting : Item P → Bool) (after_one : Bool) (index before : ℕ) (last i : Item P) → (after_one && follows_several index before) ≡ true
    → ibids.Different ≡ ibid_at same counting after_one index (Some (before, last)) i
not_repeated same counting after_one index before last i several = sym (ap (λ b. cond b ibids.Different (ibid_after same counting (Some last) i)) several)

pub may_repeat : {P : Type 0} (same : P → P → Bool) (counting : Item P → Bool) (after_one : Bool) (index before : ℕ) (last i : Item P) → (after_one && follows_several index before) ≡ false
    → ibid_after same counting (Some last) i ≡ ibid_at same counting after_one index (Some (before, last)) i
may_repeat same counting after_one index before last i one = sym (ap (λ b. cond b ibids.Different (ibid_after same counting (Some last) i)) one)

-- where ibid may follow citations of several cites, the index in a request changes nothing
as_before : {P : Type 0} (same : P → P → Bool) (counting : Item P → Bool) (index : ℕ) (last : Option (ℕ × Item P)) (i : Item P) → ibid_at same counting false index last i ≡ ibid_after same counting (option_map (λ p. p.1) last) i
as_before same counting index None i = refl
as_before same counting index (Some p) i = refl
