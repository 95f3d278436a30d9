use Rattle.std.proofs.Common.{inl, inr, arith}
use Rattle.std.proofs.lemmas.Bool.{lt-ltb}
use Rattle.cite_csl_styles.proofs.FilesJoined.{file_found, file_passed}
use Rattle.cite_csl_styles.proofs.joined_faults.file_with.Goals as goal
use Rattle.cite_csl_styles.proofs.joined_faults.file_with.Goals.{then-before-files-via-then-before-files, then-before-files-via-else-before-files+then-left-file}

pub returns-then-before-files-clause-some : goal.returns-then-before-files-clause-some
returns-then-before-files-clause-some c =
    file_found c.args.files.now c.args.at c.loop-before.before c.loop-before.left _ c.loop-before-test.true c.loop-before.invariant.said (elim c.then-before-files.branch [
      | then-before-files-via-then-before-files w ↦ inl w.if-before-files.true
      | then-before-files-via-else-before-files+then-left-file w ↦ inr w.if-left-file.true
    ])

pub loop-before-preserved : goal.loop-before-preserved
loop-before-preserved c =
    let here = c.loop-before-test.true in
    let others = c.if-before-files.false in
    record {
      said = file_passed c.args.files.now c.args.at c.loop-before.before c.loop-before.left _ here c.loop-before.invariant.said (omega arith) (lt-ltb _ _ (omega arith));
      more = λ some. omega arith;
    }
