-- In every page calls rise, at every time, for every accepted job given as bytes. So looking for a call may stop at the first higher number.
use Rattle.std.specs.Prelude.{ℕ, ◌≤◌, length}
use Rattle.spec.specs.File.{page_at}
use Rattle.spec.specs.Job.{Job}
use Rattle.spec.specs.Decode.{job_of}
use Rattle.spec.specs.Proper.{CallsRise, FileOk}
use Rattle.spec.specs.Claims.{state_at, InOrder, PagesInOrder}
use Rattle.laws.specs.Codec.Accepted.{accepted-file}
use Rattle.laws.specs.Turns.CallsRise.{look_find}
use Rattle.laws.specs.Turns.Whole.{whole}

-- the records of a page are what the invariant says of them
pub in_order : (j : Job) → FileOk j.file → InOrder j
in_order j ok = record { pages_rise = up; looks = λ t x k l. look_find _ k (up t x l) }
  where
    up : (t x : ℕ) → t ≤ length j.turns → CallsRise (page_at (state_at j t).file x).records
    up t x l = ((whole j ok t l).coherent.pages x).calls_rise

-- CALLS RISE IN EVERY PAGE
pub pages_in_order : PagesInOrder
pages_in_order b accepted = in_order (job_of b) (accepted-file b accepted)
