use Rattle.interop.proofs.SameFilesAlike.{files_alike}
use Rattle.interop.proofs.LibraryWorks.{alike_library}
use Rattle.interop.proofs.same_files.files_that_say_the_same_have_one_library.Goals as goal

pub returns-clause-alike : goal.returns-clause-alike
returns-clause-alike c = files_alike

pub returns-clause-one : goal.returns-clause-one
returns-clause-one c es fs h = alike_library es fs (files_alike es fs h)
