-- What stands for names that are compared as elements.
use Rattle.std.proofs.Common.{refl}
use Rattle.driver_bibliography.specs.AsElements.{AllIsReplaced, NamesAreElements}

pub names_as_elements : NamesAreElements
names_as_elements n m = refl

pub all_replaced : AllIsReplaced
all_replaced names last = refl
