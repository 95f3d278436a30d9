use Rattle.std.proofs.Common.{◌≡◌, None, nat_cmp, refl, sym, ap, ◌∙◌, subst}
use Rattle.std.specs.BTreeMap.{get, UpdatesBy}
use Rattle.hashes.specs.Hashes.{text_hash}
use Rattle.hashes.specs.TextIndices.{is_another}
use Rattle.hashes.proofs.IndexKept.{put_other, taken}
use Rattle.hashes.proofs.text_index.TextIndex.remove.Goals as goal

pub returns-then-not-has_another : goal.returns-then-not-has_another
returns-then-not-has_another c =
    let old = c.args.self.now in
    let asked : c.has_another.result ≡ is_another c.args.text.now (get nat_cmp old.firsts (text_hash c.args.text.now)) =
    c.has_another.ensures ∙ ap (λ h. is_another c.args.text.now (get nat_cmp old.firsts h)) c.hash_of-hash.ensures in
    let made = subst (λ h. UpdatesBy nat_cmp (nat_cmp h) old.firsts c.remove-then-not-has_another.new.self None) c.hash_of-hash.ensures c.remove-then-not-has_another.ensures.updates in
    taken old (record { firsts = c.remove-then-not-has_another.new.self; others = c.remove.new.self }) c.args.text.now (sym asked ∙ c.if-not-has_another.true) made c.remove.ensures.updates

pub returns-else-not-has_another : goal.returns-else-not-has_another
returns-else-not-has_another c =
    let old = c.args.self.now in
    let asked : c.has_another.result ≡ is_another c.args.text.now (get nat_cmp old.firsts (text_hash c.args.text.now)) =
    c.has_another.ensures ∙ ap (λ h. is_another c.args.text.now (get nat_cmp old.firsts h)) c.hash_of-hash.ensures in
    put_other old (record { firsts = old.firsts; others = c.remove.new.self }) c.args.text.now None (sym asked ∙ c.if-not-has_another.false) refl c.remove.ensures.updates
