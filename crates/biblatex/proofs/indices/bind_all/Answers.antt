use Rattle.std.proofs.Common.{◌≡◌, map, length, suc, string_bytes, sym, ap, ◌∙◌, arith}
use Rattle.biblatex_meaning.specs.Listed.{Meaning, bound}
use Rattle.biblatex.specs.Indices.{meaning_in, names_in}
use Rattle.biblatex.proofs.IndicesBinding.{done, bound_last, bound_none}
use Rattle.biblatex.proofs.indices.bind_all.Goals as goal

pub loop-name-preserved : goal.loop-name-preserved
loop-name-preserved c =
    let before = meaning_in (names_in c.loop-name.names.items) in
    let fewer : length c.loop-name.rest.items ≡ suc (length c.pop.new.self.items) = omega (arith, c.in-Some.ensures.len, c.loop-name.rest.ok.0, c.pop.new.self.ok.0) in
    let room = c.loop-name.invariant.2 in
    let one = done c.bind-bound.result _ (c.bind-bound.ensures.succeeds (omega (arith, fewer, room))) c.bind-bound.ensures.ok in (
      ap (λ (f : Meaning). bound (map string_bytes c.pop.new.self.items) c.args.index f) one
          ∙ (sym (bound_last c.pop.new.self.items c.in-Some.name c.args.index before)
          ∙ (ap (λ ns. bound (map string_bytes ns) c.args.index before) (sym c.in-Some.ensures.items)
          ∙ c.loop-name.invariant.0)),
      c.bind-bound.ensures.order,
      omega (arith, fewer, room, c.bind-bound.ensures.len, c.bind-bound.ensures.capacity),
    )

pub returns-clause-ok : goal.returns-clause-ok
returns-clause-ok c =
    sym (bound_none c.loop-name.rest.items c.args.index (meaning_in (names_in c.loop-name.names.items)) (omega (arith, c.in_default.ensures.cases.0, c.loop-name.rest.ok.0)))
    ∙ c.loop-name.invariant.0
