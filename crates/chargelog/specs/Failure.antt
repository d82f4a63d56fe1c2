-- What is said of a job that has no answer.
use Rattle.std.specs.Prelude.{ℕ, List, codes}
use Rattle.chargelog.specs.declared.Failure.{Failure}
use Rattle.chargelog.specs.declared.Failure.TheVariants.{NotRead, NotWritten}

abbrev pub message : Failure → List ℕ
message NotRead = codes "standard input cannot be read"
message NotWritten = codes "standard output cannot be written"
