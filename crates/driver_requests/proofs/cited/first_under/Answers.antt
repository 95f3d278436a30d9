use Rattle.std.proofs.Common.{rules}
use Rattle.driver_requests.proofs.cited.first_under.Goals as goal

pub returns-clause-table : goal.returns-clause-table
returns-clause-table c q =
    let put = (c.in_ok-table.ensures.update.0 c.or_insert.result.now).0 q in
    search rules
