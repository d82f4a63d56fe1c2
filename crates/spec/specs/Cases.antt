-- "Where an answer is an enum, a definition sets out this paper's number and values for each of its cases": why a call is refused, and what an answer
-- tells in numbers. (The cases of `Kind` are set out in Job.antt, and what looking into a page comes to in File.antt.)
use Rattle.std.specs.Prelude.{ℕ, Option, None, Some, Result, Ok, Err}
use Rattle.spec.specs.declared.Reason.{Reason}
use Rattle.spec.specs.declared.Reason.TheVariants.{Short, Version, Limit, Offset, Entry, Page, Owner, Record, Operation, Turn, Output, Pattern, Zero, Band, Charge, Tariff, Present, Depth, Dealt}
use Rattle.spec.specs.declared.Refusal.{Refusal}
use Rattle.spec.specs.Check.{Fault}

-- the numbers of the refusal table, and of the outputs of document 02
abbrev pub reason_number : Reason → ℕ
reason_number Short = 1
reason_number Version = 2
reason_number Limit = 3
reason_number Offset = 4
reason_number Entry = 5
reason_number Page = 6
reason_number Owner = 7
reason_number Record = 8
reason_number Operation = 9
reason_number Turn = 10
reason_number Output = 11
reason_number Pattern = 12
reason_number Zero = 13
reason_number Band = 14
reason_number Charge = 15
reason_number Tariff = 16
reason_number Present = 18
reason_number Depth = 19
reason_number Dealt = 21

-- "A refusal gives the number and a place"
abbrev pub fault_of : Refusal → Fault
fault_of r = record { number = reason_number r.reason; place = r.place }

-- what an answer tells, in numbers
abbrev pub told : {A : Type 0} → Result A Refusal → Result A Fault
told (Ok x) = Ok x
told (Err r) = Err (fault_of r)

-- the fault that an answer tells, if it is refused
abbrev pub fault_in : {A : Type 0} → Result A Refusal → Option Fault
fault_in (Ok x) = None
fault_in (Err r) = Some (fault_of r)
