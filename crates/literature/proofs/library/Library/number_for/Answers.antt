use Rattle.std.proofs.Common.{◌≡◌, ℕ, ◌+◌, List, Some, None, cond, bytes_eq, sym, ap, ◌∙◌, subst}
use Rattle.hashes.specs.TextIndices.{number_of}
use Rattle.literature.specs.Numbered.{AreNumbered}
use Rattle.literature.proofs.EntriesNumbered.{numbered_given}
use Rattle.literature.proofs.library.Library.number_for.Goals as goal

pub invariant_of-self-2 : goal.invariant_of-self-2
invariant_of-self-2 c =
    let l = c.args.self.now in
    let key = c.args.key.now in
    let new = number_of c.insert.new.self in
    let none : number_of l.numbers key ≡ None = sym c.get.ensures ∙ c.in_default.is in
    let given : (q : List ℕ) → new q ≡ cond (bytes_eq key q) (Some l.next) (number_of l.numbers q) =
    λ q. c.in_ok-insert.ensures.ok q ∙ ap (λ xs. cond (bytes_eq xs q) (Some l.next) (number_of l.numbers q)) c.in_ok-text.ensures.ok in
    let next : c.in-Some-checked_add.next ≡ l.next + 1 = c.in-Some-checked_add.ensures.1 in
    record {
      numbered = subst (λ n. AreNumbered new n l.entries.entries) (sym next) (numbered_given (number_of l.numbers) new key l.next given l.entries.entries none l.numbered);
      distinct = l.distinct;
    }
