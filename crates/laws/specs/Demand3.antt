-- DEMAND 3, for every accepted job given as bytes and its whole turn list, and what is read from the bytes of its result, under no further hypothesis.
use Rattle.spec.specs.Decode.{job_of}
use Rattle.spec.specs.Claims.{Demand3}
use Rattle.laws.specs.Codec.Accepted.{accepted-file}
use Rattle.laws.specs.Turns.Theorem.{explained}
use Rattle.laws.specs.ReadBack.{read_back, reads}

pub demand3 : Demand3
demand3 b post bytes accepted = rw (reads b bytes accepted post) (explained (job_of b) (accepted-file b accepted) (read_back b bytes accepted))
