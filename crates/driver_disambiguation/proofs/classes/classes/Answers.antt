use Rattle.std.proofs.Common.{◌≡◌, ℕ, ◌<◌, All, List, length, map, subst₂, sym, ap, ◌∙◌, arith, rules, string_bytes}
use Rattle.std.specs.BTreeMap.{btree_map_len}
use Rattle.std.proofs.lemmas.Result.{IfOk-weaker}
use Rattle.driver_disambiguation.specs.Grouping.{under}
use Rattle.driver_disambiguation.specs.Numbered.{number_of}
use Rattle.driver_disambiguation.proofs.Classing.{classes_are}
use Rattle.driver_disambiguation.proofs.Groups.{seconds_below}
use Rattle.driver_disambiguation.proofs.Numbering.{numbers_below, numbers_length}
use Rattle.driver_disambiguation.proofs.classes.classes.Goals as goal

pub grouped-requires-clause-len : goal.grouped-requires-clause-len
grouped-requires-clause-len c = numbers_length (number_of c.args.texts.now) c.args.cites.now c.args.numbers.now c.requires.1

pub grouped-requires-clause-below : goal.grouped-requires-clause-below
grouped-requires-clause-below c =
    let len : c.len.result ≡ btree_map_len c.args.texts.now = search rules in
    numbers_below (number_of c.args.texts.now) c.len.result c.args.cites.now c.args.numbers.now c.requires.1 (λ s n e. let less = c.requires.0.1 (string_bytes s.text) n e in omega (arith, len, less))

pub mixed_parts-requires : goal.mixed_parts-requires
mixed_parts-requires c =
    let len : c.len.result ≡ btree_map_len c.args.texts.now = search rules in
    let below : All (λ n. n < c.len.result) c.args.numbers.now =
    numbers_below (number_of c.args.texts.now) c.len.result c.args.cites.now c.args.numbers.now c.requires.1 (λ s n e. let less = c.requires.0.1 (string_bytes s.text) n e in omega (arith, len, less)) in
    subst₂ (λ (n : ℕ) (ns : List ℕ). All (λ m. m < n) ns) (sym (ap length c.as_slice.ensures.value ∙ c.in_ok-groups.ensures.len)) (sym (c.as_slice-2.ensures.value ∙ c.in_ok-groups.ensures.shared))
    (seconds_below c.len.result c.args.numbers.now c.args.cites.now below)

pub returns : goal.returns
returns c =
    IfOk-weaker c.mixed_parts.result _ _
    (λ cs e. classes_are c.args.texts.now c.args.numbers.now c.args.cites.now c.as_slice.result.now c.as_slice-2.result.now cs.items c.requires
    (λ n. ap (λ gs. map (λ s. s.now) (under gs n)) c.as_slice.ensures.value ∙ c.in_ok-groups.ensures.members n) (c.as_slice-2.ensures.value ∙ c.in_ok-groups.ensures.shared) e) c.mixed_parts.ensures
