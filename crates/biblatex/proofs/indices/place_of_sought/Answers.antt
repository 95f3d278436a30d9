use Rattle.std.proofs.Common.{rules}
use Rattle.std.proofs.lemmas.List.Sorted.{IsPartitionPoint-from_clause}
use Rattle.biblatex.specs.Indices.{is_less}
use Rattle.biblatex.proofs.IndicesOrder.{parted}
use Rattle.biblatex.proofs.indices.place_of_sought.Goals as goal

pub returns-clause-place : goal.returns-clause-place
returns-clause-place c =
    let name = c.args.sought.now.text.now in
    IsPartitionPoint-from_clause (is_less name) c.args.names.now c.partition_point.result c.partition_point.ensures.partitioned (parted c.args.names.now name c.requires) (λ a r q k. search rules)
