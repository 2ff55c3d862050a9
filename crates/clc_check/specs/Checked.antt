-- What `check` answers, by its list of functions.
use Rattle.std.specs.Prelude.{Ok, Err, Result, List}
use Rattle.clc_types.specs.declared.typed.TFunction.{TFunction}
use Rattle.clc_types.specs.declared.typed.Typed.{Typed}
use Rattle.clc_types.specs.declared.typed.TypeFault.{TypeFault}

abbrev pub functions_in : Result Typed TypeFault → Result (List TFunction) TypeFault
functions_in (Ok typed) = Ok typed.functions
functions_in (Err f) = Err f
