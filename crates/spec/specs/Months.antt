-- Months one after another: each job's file is the charge file of the result before it, as it is or tidied. One plain list is fed all their logs.
use Rattle.std.specs.Prelude.{ℕ, ◌≡◌, ◌↔◌, List, [], ◌∷◌, map, None, Some}
use Rattle.spec.specs.declared.Rec.{Rec}
use Rattle.spec.specs.Basics.{Has}
use Rattle.spec.specs.Bytes.{AreBytes}
use Rattle.spec.specs.File.{File, contents}
use Rattle.spec.specs.Decode.{file_of, job_of}
use Rattle.spec.specs.Run.{run}
use Rattle.spec.specs.Result.{Result, result}
use Rattle.spec.specs.PlainList.{NoneTwice, Reply, Replay, reply_of, replay}
use Rattle.spec.specs.Tidy.{tidy_bytes, tidy_fault}
use Rattle.spec.specs.Claims.{Accepted, answer_at}

-- f is the file of the charge file b, as it is or tidied
pub data Taken (b : List ℕ) (f : File) : Type 0 where
  as_it_is : f ≡ file_of b → Taken b f
  tidied : (room d : ℕ) → tidy_fault room d b ≡ None → f ≡ file_of (tidy_bytes d b) → Taken b f

-- the bytes b are a job of the month after job a's: accepted, and its file is the charge file of a's result, as it is or tidied
pub record Follows (a b : List ℕ) : Type 0 where
  pub bytes : AreBytes b
  pub accepted : Accepted b
  pub charges : List ℕ
  pub left : (result (job_of a)).file ≡ Some charges
  pub taken : Taken charges (file_of b)

-- jobs of months one after another, behind job a
pub data Months : List ℕ → List (List ℕ) → Type 0 where
  last : {a : List ℕ} → Months a []
  month : {a b : List ℕ} {bs : List (List ℕ)} → Follows a b → Months b bs → Months a (b ∷ bs)

-- the last of them
unfoldable pub last_of : List ℕ → List (List ℕ) → List ℕ
last_of a [] = a
last_of a (b ∷ bs) = last_of b bs

-- what a job's result answers, line for line of its log
unfoldable pub replies_told : List ℕ → List Reply
replies_told a =
    let r : Result = result (job_of a) in
    map (λ h. reply_of (answer_at r h.op)) r.log

-- a plain list fed the log of a job
unfoldable pub fed_log : List ℕ → List Rec → Replay
fed_log a l =
    let r : Result = result (job_of a) in
    replay (job_of a).ops r.answers r.log l

-- and fed the logs of some jobs, one after another: its replies, log by log, and the list at the end
pub record Fed : Type 0 where
  pub replies : List (List Reply)
  pub list : List Rec

unfoldable pub feed : List (List ℕ) → List Rec → Fed
feed [] l = record { replies = []; list = l }
feed (a ∷ more) l =
    let t = feed more (fed_log a l).list in
    record { replies = (fed_log a l).replies ∷ t.replies; list = t.list }

-- The months of job a and the jobs behind it are explained by their logs, on one plain list that starts as what the first file held.
pub record Together (a : List ℕ) (bs : List (List ℕ)) : Type 0 where
  pub answers : (feed (a ∷ bs) (contents (file_of a))).replies ≡ map replies_told (a ∷ bs)
  pub held : (r : Rec) → Has r (feed (a ∷ bs) (contents (file_of a))).list ↔ Has r (contents (run (job_of (last_of a bs))).file)
  pub once : NoneTwice (feed (a ∷ bs) (contents (file_of a))).list

-- for every accepted job, given as its bytes, and all months behind it
abbrev pub MonthsTogether : Type 0
MonthsTogether = (a : List ℕ) → AreBytes a → Accepted a → (bs : List (List ℕ)) → Months a bs → Together a bs
