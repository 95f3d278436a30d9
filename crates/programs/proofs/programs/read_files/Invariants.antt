use Rattle.std.proofs.Common.{◌≡◌, map, take}
use Rattle.programs.specs.declared.files.FileRead.{FileRead}
use Rattle.programs.proofs.programs.read_files.Given as goal

abbrev pub invariant-loop-path : goal.invariant-loop-path
invariant-loop-path l = map (λ (f : FileRead). f.path) l.files.items ≡ take l.path-index l.paths
