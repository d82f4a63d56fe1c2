-- What the contracts ask: that what they speak of stands inside the memory, and inside the bytes of a job or a result. Numbers alone.
use Rattle.std.specs.Prelude.{ℕ, ◌+◌, ◌*◌, ◌≤◌, List, length}
use Rattle.spec.specs.Job.{entry_size, page_size}
use Rattle.spec.specs.Check.{work_size}

-- the memory is large enough, a page has at most 8 records, and pages are numbered up to 256
pub record Within (w : List ℕ) (c x : ℕ) : Type 0 where
  pub size : work_size ≤ length w
  pub capacity : c ≤ 8
  pub number : x ≤ 256

-- the memory is large enough, and the bytes b have room for n entries and P pages of capacity c from place `at` on
pub record FileIn (w b : List ℕ) (at n c P : ℕ) : Type 0 where
  pub size : work_size ≤ length w
  pub entries : n ≤ 256
  pub capacity : c ≤ 8
  pub pages : P ≤ 256
  pub room : at + entry_size * n + page_size c * P ≤ length b

-- the memory is large enough for the directory d and the pages p, of capacity c
pub record Loads (w d p : List ℕ) (c : ℕ) : Type 0 where
  pub size : work_size ≤ length w
  pub directory : length d ≤ entry_size * 256
  pub capacity : c ≤ 8
  pub pages : length p ≤ page_size c * 256
