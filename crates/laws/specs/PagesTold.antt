-- The pages that are told with the answers, for every accepted job given as bytes and what is read from the bytes of its result.
use Rattle.std.proofs.Common.{arith}
use Rattle.spec.specs.Job.{Job}
use Rattle.spec.specs.Decode.{job_of}
use Rattle.spec.specs.Run.{run}
use Rattle.spec.specs.Result.{told_of, result_of, result}
use Rattle.spec.specs.Proper.{FileOk}
use Rattle.spec.specs.Claims.{answer_at, file_then, told_at, line_told, PagesTold, PagesBehind}
use Rattle.laws.specs.Codec.Accepted.{accepted-file}
use Rattle.laws.specs.Turns.Log.{log-says}
use Rattle.laws.specs.Turns.Answers.{answer_at_lem}
use Rattle.laws.specs.Turns.PageTold.{untold, told-used, told_named, told-held, told-read, told_missed, told-decided}
use Rattle.laws.specs.ReadBack.{reads}

-- what is told of an operation is what its row says
pub pages-told : (j : Job) → FileOk j.file → PagesTold j (result j)
unfolding answer_at file_then result result_of told_of
pages-told j ok =
    record {
      untold = λ i. rw (told_at, answer_at_lem (run j) i) (untold j ok i);
      in_use = λ i. rw (told_at, answer_at_lem (run j) i) (told-used j ok i);
      names = λ p l k. let m = log-says (run j) p l in rw (line_told, told_at, answer_at_lem (run j) _) (told_named j ok _ m.code _ m.moment k);
      holds = λ p l. let m = log-says (run j) p l in rw (line_told, told_at, answer_at_lem (run j) _) (told-held j ok _ m.code _ m.moment);
      decides = λ i. rw (told_at, answer_at_lem (run j) i) (λ k n z. told-decided j ok i n k z);
      lacks = λ p l. let m = log-says (run j) p l in rw (line_told, told_at, answer_at_lem (run j) _) (told_missed j ok _ m.code _ m.moment);
      finds = λ i. rw (told_at, answer_at_lem (run j) i) (λ e. told-read j ok i (λ z. omega arith) e);
    }

-- THE PAGE WITH THE ANSWER
pub pages_behind : PagesBehind
pages_behind b post bytes accepted = rw (reads b bytes accepted post) (pages-told (job_of b) (accepted-file b accepted))
