use Rattle.std.proofs.Common.{◌≡◌, Some, None, nat_eq, sym, ap, ◌∙◌, subst}
use Rattle.std.specs.Map.{lookup, remove_entry, values_of}
use Rattle.hashes.specs.TextIndices.{number_of}
use Rattle.literature.specs.Numbered.{AreNumbered}
use Rattle.literature.proofs.EntriesNumbered.{Numbered, entry_found, entry_taken, keys_distinct, none_found, none_taken, numbered_taken}
use Rattle.literature.proofs.library.Library.remove.Goals as goal

pub returns-in_err-number-clause-removed : goal.returns-in_err-number-clause-removed
returns-in_err-number-clause-removed c =
    let l = c.args.self.now in
    c.from_residual.ensures ∙ sym (none_found (number_of l.numbers) l.next l.entries.entries l.numbered c.args.key.now (sym c.get.ensures ∙ c.in_err-number.was))

pub returns-in_err-number-clause-entries : goal.returns-in_err-number-clause-entries
returns-in_err-number-clause-entries c =
    let l = c.args.self.now in
    sym (none_taken (number_of l.numbers) l.next l.entries.entries l.numbered c.args.key.now (sym c.get.ensures ∙ c.in_err-number.was))

pub invariant_of-self : goal.invariant_of-self
invariant_of-self c =
    let l = c.args.self.now in
    let f = number_of l.numbers in
    let g = number_of c.remove.new.self in
    let key = c.args.key.now in
    let n = c.in_ok-number.number in
    let es = l.entries.entries in
    let after = c.shift_remove.new.self.entries in
    let has : f key ≡ Some n = sym c.get.ensures ∙ c.in_ok-number.was in
    let left : after ≡ remove_entry (nat_eq n) es = c.shift_remove.ensures.entries in
    let gone : lookup (nat_eq n) (remove_entry (nat_eq n) es) ≡ None = subst (λ (xs : Numbered). lookup (nat_eq n) xs ≡ None) left c.shift_remove.ensures.updates.1 in
    let numbered : AreNumbered g l.next after = subst (AreNumbered g l.next) (sym left) (numbered_taken f g key c.remove.ensures n l.next es has gone l.numbered) in
    record { numbered = numbered; distinct = keys_distinct g l.next after numbered c.shift_remove.ensures.unique }

pub returns-clause-removed : goal.returns-clause-removed
returns-clause-removed c =
    let l = c.args.self.now in
    let f = number_of l.numbers in
    let has : f c.args.key.now ≡ Some c.in_ok-number.number = sym c.get.ensures ∙ c.in_ok-number.was in
    c.shift_remove.ensures.value ∙ entry_found f l.next l.entries.entries l.numbered c.args.key.now c.in_ok-number.number has

pub returns-clause-entries : goal.returns-clause-entries
returns-clause-entries c =
    let l = c.args.self.now in
    let f = number_of l.numbers in
    let has : f c.args.key.now ≡ Some c.in_ok-number.number = sym c.get.ensures ∙ c.in_ok-number.was in
    ap values_of c.shift_remove.ensures.entries ∙ entry_taken f l.next l.entries.entries l.numbered c.args.key.now c.in_ok-number.number has
