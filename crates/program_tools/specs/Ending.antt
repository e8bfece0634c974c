-- How a program ends that has printed.
-- Assumes nothing.
use Rattle.std.specs.Prelude.{Result, Ok, Err}
use Rattle.std.specs.IoError.{error_kind}
use Rattle.std.specs.declared.io.Error.{Error}
use Rattle.std.specs.declared.io.ErrorKind.{ErrorKind}
use Rattle.std.specs.declared.io.ErrorKind.TheVariants.{OutOfMemory}

-- an error of a kind, if memory ran out
abbrev pub of_memory : ErrorKind → Error → Result Unit Error
of_memory OutOfMemory error = Err error
of_memory _ error = Ok tt

-- an error only where memory ran out
abbrev pub ended : Result Unit Error → Result Unit Error
ended (Ok _) = Ok tt
ended (Err error) = of_memory (error_kind error) error
