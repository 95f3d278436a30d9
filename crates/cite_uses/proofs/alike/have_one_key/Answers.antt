use Rattle.std.proofs.Common.{sym, ◌∙◌}
use Rattle.std.specs.Cmp.Lexicographic.{bytes_decides}
use Rattle.cite_requests.proofs.WorksKeys.{key_is}
use Rattle.cite_uses.proofs.alike.have_one_key.Goals as goal

pub returns : goal.returns
returns c =
    let d = bytes_decides c.key.result.now c.key-2.result.now in (
      λ yes. key_is c.args.work.now ∙ (sym c.key.ensures ∙ d.0 (sym c.eq.ensures ∙ yes) ∙ c.key-2.ensures) ∙ sym (key_is c.args.other.now),
      λ same. c.eq.ensures ∙ d.1 (c.key.ensures ∙ sym (key_is c.args.work.now) ∙ same ∙ key_is c.args.other.now ∙ sym c.key-2.ensures),
    )
