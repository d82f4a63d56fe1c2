-- How an outcome is handed to a C or Rust caller: three numbers, by value.
use Rattle.std.specs.Prelude.{Ok, Err}
use Rattle.spec.specs.Outcome.{Outcome}
use Rattle.chargefile.specs.declared.CallOutcome.{CallOutcome}

-- refusal 0: done, and length is the output's; else its number, with place, and length 0. (Where it is done, place is 0.)
unfoldable pub handed : Outcome → CallOutcome
handed (Ok n) = record { refusal = 0; place = 0; length = n }
handed (Err f) = record { refusal = f.number; place = f.place; length = 0 }
