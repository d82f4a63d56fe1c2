-- A record as the code reads it, and as the definitions have it.
use Rattle.spec.specs.SwitchLog.{Logged as Record}
use Rattle.switchlog.specs.declared.Logged.{Logged}

abbrev pub logged_in : Logged → Record
logged_in r = record { call = r.call; extension = r.extension; band = r.band; spare = r.spare; start = r.start; talked = r.talked }
