use Rattle.std.proofs.Common.{◌≡◌, Some, string_bytes, nat_cmp, refl, sym, ap, ◌∙◌, subst}
use Rattle.std.specs.BTreeMap.{get, Updates}
use Rattle.hashes.specs.Hashes.{text_hash}
use Rattle.hashes.specs.TextIndices.{is_another}
use Rattle.hashes.proofs.IndexKept.{after_error, put_first, put_other, still}
use Rattle.hashes.proofs.text_index.TextIndex.insert.Goals as goal

pub returns-in_err-insert-clause-err : goal.returns-in_err-insert-clause-err
returns-in_err-insert-clause-err c =
    let old = c.args.self.now in
    after_error c.from_residual.result (still old (record { firsts = old.firsts; others = c.insert.new.self }) refl c.in_err-insert.ensures.err)

pub returns-in_err-insert-2-clause-err : goal.returns-in_err-insert-2-clause-err
returns-in_err-insert-2-clause-err c =
    let old = c.args.self.now in
    after_error c.from_residual-in_err-insert-2.result (still old (record { firsts = c.insert-else-has_another.new.self; others = old.others }) c.in_err-insert-2.ensures.err refl)

pub returns-in_ok-insert-clause-ok : goal.returns-in_ok-insert-clause-ok
returns-in_ok-insert-clause-ok c =
    let old = c.args.self.now in
    let bytes = string_bytes c.args.text in
    let hash : c.hash_of-hash.result ≡ text_hash bytes = c.hash_of-hash.ensures ∙ ap text_hash c.as_str.ensures.value in
    let asked : c.has_another.result ≡ is_another bytes (get nat_cmp old.firsts (text_hash bytes)) =
    c.has_another.ensures ∙ (λ i. is_another (c.as_str-2.ensures.value i) (get nat_cmp old.firsts (hash i))) in
    put_other old (record { firsts = old.firsts; others = c.insert.new.self }) bytes (Some c.args.number) (sym asked ∙ c.if-has_another.true) refl c.in_ok-insert.ensures.updates

pub returns-in_ok-insert-2-clause-ok : goal.returns-in_ok-insert-2-clause-ok
returns-in_ok-insert-2-clause-ok c =
    let old = c.args.self.now in
    let bytes = string_bytes c.args.text in
    let hash : c.hash_of-hash.result ≡ text_hash bytes = c.hash_of-hash.ensures ∙ ap text_hash c.as_str.ensures.value in
    let asked : c.has_another.result ≡ is_another bytes (get nat_cmp old.firsts (text_hash bytes)) =
    c.has_another.ensures ∙ (λ i. is_another (c.as_str-2.ensures.value i) (get nat_cmp old.firsts (hash i))) in
    let made = subst (λ h. Updates nat_cmp old.firsts c.insert-else-has_another.new.self h (Some (c.args.text, c.args.number))) hash c.in_ok-insert-2.ensures.updates in
    put_first old (record { firsts = c.insert-else-has_another.new.self; others = old.others }) bytes c.args.text c.args.number refl (sym asked ∙ c.if-has_another.false) made refl
