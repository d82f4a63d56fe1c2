-- How many turns an operation uses at most, for every accepted job given as bytes and what is read from the bytes of its result.
use Rattle.std.specs.Prelude.{ℕ, ◌≡◌}
use Rattle.std.proofs.Common.{ap}
use Rattle.spec.specs.Job.{Job}
use Rattle.spec.specs.Decode.{job_of}
use Rattle.spec.specs.Run.{run}
use Rattle.spec.specs.Result.{Told, told_of, result_of, result}
use Rattle.spec.specs.Proper.{FileOk}
use Rattle.spec.specs.Claims.{answer_at}
use Rattle.spec.specs.MostTurns.{under, used_by, TurnsWithin, MostTurns}
use Rattle.laws.specs.Codec.Accepted.{accepted-file}
use Rattle.laws.specs.Turns.Answers.{answer_at_lem}
use Rattle.laws.specs.Turns.SpentTurns.{sharp-turns, most-turns, narrow-turns}
use Rattle.laws.specs.ReadBack.{reads}

-- what is told of an operation is what its row says
counted : (j : Job) (i : ℕ) → (answer_at (result j) i).used ≡ used_by j j.turns i
unfolding answer_at result result_of told_of under
counted j i = ap (λ (t : Told). t.used) (answer_at_lem (run j) i)

pub turns-within : (j : Job) → FileOk j.file → TurnsWithin j (result j)
turns-within j ok =
    record {
      most = most-turns j ok;
      sharp = sharp-turns j ok;
      narrow = narrow-turns j ok;
      counts = counted j;
      told = λ i. rw (counted j i) (most-turns j ok j.turns i);
    }

-- HOW MANY TURNS AN OPERATION USES AT MOST
pub at_most : MostTurns
at_most b post bytes accepted = rw (reads b bytes accepted post) (turns-within (job_of b) (accepted-file b accepted))
