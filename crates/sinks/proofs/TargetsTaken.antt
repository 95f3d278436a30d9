-- What calls of a sink took, one after the other, up to its first fault.
use Rattle.std.proofs.Common.{◌≡◌, ℕ, true, false, List, [], ◌∷◌, ◌++◌, Option, Some, Result, Ok, Err, OnOk, OnErr, refl, sym, ap, subst, ◌∙◌, append_assoc, true≢false}
use Rattle.std.specs.Prelude.{IfErr, is_ok}
use Rattle.std.specs.Io.KnownBytes.{Appends}
use Rattle.std.specs.Fmt.{WritesInCalls}
use Rattle.std.specs.List.{concat, FoldsTo}
use Rattle.std.proofs.KnownBytes.{Appends-nil, Appends-trans}
use Rattle.laws.specs.Counts.{next_count}
use Rattle.sinks.specs.Sinks.{HasFailed, AppendsPrefix}
use Rattle.sinks.specs.declared.sink.SinkFault.{SinkFault}
use Rattle.sinks.specs.Targets.{IsWritten, IsWrittenAfter, TakesUntilFault}
use Rattle.sinks.specs.declared.target.SinkTarget.{SinkTarget}

-- a prefix of what follows, after what was taken whole
prefix_after : (old mid new : Option (List ℕ)) (bytes more : List ℕ) → Appends old mid bytes → AppendsPrefix mid new more → AppendsPrefix old new (bytes ++ more)
prefix_after old mid new bytes more before (prefix, rest, parted, taken) =
    (bytes ++ prefix, rest, ap (λ xs. bytes ++ xs) parted ∙ sym (append_assoc bytes prefix rest), Appends-trans old mid new bytes prefix before taken)

-- a prefix of bytes is a prefix of what they begin
prefix_before : (old new : Option (List ℕ)) (bytes more : List ℕ) → AppendsPrefix old new bytes → AppendsPrefix old new (bytes ++ more)
prefix_before old new bytes more (prefix, rest, parted, taken) = (prefix, rest ++ more, ap (λ xs. xs ++ more) parted ∙ append_assoc prefix rest more, taken)

module _ {W : Type 0} (contents : W → Option (List ℕ)) (failures : W → ℕ) (last : W → Option SinkFault) where
  nothing_written : (r : Result (Unit {0}) SinkFault) (w : W) → IsWrittenAfter contents failures last r w [] r w
  nothing_written (Ok x) w = (Appends-nil (contents w), refl)
  nothing_written (Err e) w = (refl, refl)

  written_more : (a : Result (Unit {0}) SinkFault) (w : W) (xs : List ℕ) (b : Result (Unit {0}) SinkFault) (v : W) (ys : List ℕ) (c : Result (Unit {0}) SinkFault) (u : W)
      → IsWrittenAfter contents failures last a w xs b v → IsWrittenAfter contents failures last b v ys c u → IsWrittenAfter contents failures last a w (xs ++ ys) c u
  written_more (Ok x) w xs (Ok y) v ys (Ok z) u p q = (Appends-trans (contents w) (contents v) (contents u) xs ys p.0 q.0, q.1 ∙ p.1)
  written_more (Ok x) w xs (Ok y) v ys (Err e) u p q = (
    prefix_after (contents w) (contents v) (contents u) xs ys p.0 q.0,
    subst (λ (n : ℕ). HasFailed n (failures u)) p.1 q.1,
    q.2 ∙ ap next_count p.1,
    q.3,
  )
  written_more (Ok x) w xs (Err e) v ys c u p q =
      subst (λ (r : Result (Unit {0}) SinkFault). IsWritten contents failures last w (xs ++ ys) u r) (sym q.0)
      (subst (λ (t : W). IsWritten contents failures last w (xs ++ ys) t (Err e)) (sym q.1) (prefix_before (contents w) (contents v) xs ys p.0, p.1, p.2, p.3))
  written_more (Err e) w xs b v ys c u p q =
      let then : (c ≡ Err e) × (u ≡ v) = subst (λ (r : Result (Unit {0}) SinkFault). IsWrittenAfter contents failures last r v ys c u) p.0 q in
      (then.0, then.1 ∙ p.1)

  -- what that says of each answer
  pub record Answered (old : W) (bytes : List ℕ) (new : W) (r : Result (Unit {0}) SinkFault) : Type 0 where
    pub ok : OnOk r (Appends (contents old) (contents new) bytes)
    pub err : OnErr r (AppendsPrefix (contents old) (contents new) bytes)
    pub cause : OnErr r (HasFailed (failures old) (failures new))
    pub quiet : OnOk r (failures new ≡ failures old)
    pub once : OnErr r (failures new ≡ next_count (failures old))
    pub fault : IfErr r (λ e. last new ≡ Some e)

  pub answered : (old : W) (bytes : List ℕ) (new : W) (r : Result (Unit {0}) SinkFault) → IsWritten contents failures last old bytes new r → Answered old bytes new r
  answered old bytes new (Ok x) p = record { ok = p.0; err = tt; cause = tt; quiet = p.1; once = tt; fault = tt }
  answered old bytes new (Err e) p = record { ok = tt; err = p.0; cause = p.1; quiet = tt; once = p.2; fault = p.3 }

  -- what is written where there is no fault yet
  after_ok : (before : Result (Unit {0}) SinkFault) (old : W) (bytes : List ℕ) (after : Result (Unit {0}) SinkFault) (new : W) → is_ok before ≡ true
      → IsWritten contents failures last old bytes new after → IsWrittenAfter contents failures last before old bytes after new
  after_ok (Ok x) old bytes after new ok written = written
  after_ok (Err e) old bytes after new ok written = absurd (true≢false (sym ok))

  -- and where there is one
  after_err : (before : Result (Unit {0}) SinkFault) (old : W) (bytes : List ℕ) → is_ok before ≡ false → IsWrittenAfter contents failures last before old bytes before old
  after_err (Ok x) old bytes not_ok = absurd (true≢false not_ok)
  after_err (Err e) old bytes not_ok = (refl, refl)

  by_answer : (r : Result (Unit {0}) SinkFault) (old : W) (bytes : List ℕ) (new : W) → Answered old bytes new r → IsWritten contents failures last old bytes new r
  by_answer (Ok x) old bytes new a = (a.ok, a.quiet)
  by_answer (Err e) old bytes new a = (a.err, a.cause, a.once, a.fault)

  -- a call that writes a text
  pub taken_by_call : (s t : SinkTarget W) (bytes : List ℕ) → is_ok s.result ≡ true → t.sink.ghost_name ≡ s.sink.ghost_name → Answered s.sink.now bytes t.sink.now t.result
      → TakesUntilFault contents failures last s bytes t
  taken_by_call s t bytes ok same a = (same, after_ok s.result s.sink.now bytes t.result t.sink.now ok (by_answer t.result s.sink.now bytes t.sink.now a))

  -- a text that is passed over
  pub passed_over : (s : SinkTarget W) (bytes : List ℕ) → is_ok s.result ≡ false → TakesUntilFault contents failures last s bytes s
  passed_over s bytes not_ok = (refl, after_err s.result s.sink.now bytes not_ok)

-- calls of what holds such a target
module _ {W S : Type 0} (contents : W → Option (List ℕ)) (failures : W → ℕ) (last : W → Option SinkFault) (target : S → SinkTarget W) where
  abbrev takes : S → List ℕ → S → Type 0
  takes s bytes t = TakesUntilFault contents failures last (target s) bytes (target t)

  calls_taken : (s : S) (xs : List (List ℕ)) (t : S) → FoldsTo takes s xs t → takes s (concat xs) t
  calls_taken s [] t same = subst (λ (x : S). takes s [] x) same (refl, nothing_written contents failures last (target s).result (target s).sink.now)
  calls_taken s (x ∷ xs) t (m, first, others) =
      let later = calls_taken m xs t others in
      let a = target s in
      let b = target m in
      let c = target t in
      (later.0 ∙ first.0, written_more contents failures last a.result a.sink.now x b.result b.sink.now (concat xs) c.result c.sink.now first.1 later.1)

  -- bytes, from a sink without a fault on
  pub all_taken : (s t : S) (w v : W) (r : Result (Unit {0}) SinkFault) (bytes : List ℕ) → (target s).result ≡ Ok tt → (target s).sink.now ≡ w → r ≡ (target t).result
      → ((target t).sink.ghost_name ≡ (target s).sink.ghost_name → v ≡ (target t).sink.now) → WritesInCalls takes s bytes t → IsWritten contents failures last w bytes v r
  all_taken s t w v r bytes fresh starts is back written =
      let a = target s in
      let c = target t in
      let taken = subst (λ (bs : List ℕ). takes s bs t) written.whole (calls_taken s written.parts t written.calls) in
      let from_fresh : IsWritten contents failures last a.sink.now bytes c.sink.now c.result =
      subst (λ (x : Result (Unit {0}) SinkFault). IsWrittenAfter contents failures last x a.sink.now bytes c.result c.sink.now) fresh taken.1 in
      subst (λ (x : Result (Unit {0}) SinkFault). IsWritten contents failures last w bytes v x) (sym is)
      (subst (λ (x : W). IsWritten contents failures last x bytes v c.result) starts
      (subst (λ (x : W). IsWritten contents failures last a.sink.now bytes x c.result) (sym (back taken.0)) from_fresh))
