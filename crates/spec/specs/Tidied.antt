-- What is claimed of a charge file that is tidied at a depth, and not refused. Definitions only.
use Rattle.std.specs.Prelude.{ℕ, ◌≤◌, ◌<◌, ◌≡◌, ◌↔◌, List, ◌++◌, length, None}
use Rattle.spec.specs.declared.Rec.{Rec}
use Rattle.spec.specs.Basics.{Has}
use Rattle.spec.specs.Bytes.{AreBytes}
use Rattle.spec.specs.File.{Page, File, page_at, entry_at, pages_in_use, contents}
use Rattle.spec.specs.Decode.{file_of, job_of}
use Rattle.spec.specs.Result.{read_result}
use Rattle.spec.specs.Outcome.{result_bytes}
use Rattle.spec.specs.PlainList.{NoneTwice}
use Rattle.spec.specs.Tidy.{NoPair, Same, Joins, pages_left, first_entry, ByFirstEntry, tidy_file, tidy_bytes, tidy_fault}
use Rattle.spec.specs.Job.{Job}
use Rattle.spec.specs.Proper.{PageNo}
use Rattle.spec.specs.Claims.{state_at, Accepted, IsFile, Explained}

-- the longest charge file: depth 8, capacity 8, 256 pages
abbrev pub longest_file : ℕ
longest_file = 17952

-- The pages that are left of a file, however they are joined, and their order.
pub record Joined (f : File) : Type 0 where
  -- they come of the file's pages by joins, one after another
  pub reached : Joins f.c (pages_in_use f) (pages_left f)
  -- "until no such pair is left"
  pub no_pair : NoPair f.c (pages_left f)
  -- and any joins, one after another until no pair is left, end in the same pages
  pub any_order : (ps : List Page) → Joins f.c (pages_in_use f) ps → NoPair f.c ps → Same ps (pages_left f)
  -- "The pages are then numbered by their first entry": so they stand, and in no other order would they
  pub numbered : ByFirstEntry f.g (pages_left f)
  pub no_other : (ps : List Page) → Joins f.c (pages_in_use f) ps → NoPair f.c ps → ByFirstEntry f.g ps → ps ≡ pages_left f

-- The charge file b, tidied at depth d, where that is not refused.
pub record Tidied (d : ℕ) (b : List ℕ) : Type 0 where
  pub joined : Joined (file_of b)
  -- in the new directory each page's first entry names it, and every entry before names a page with a lower number
  pub entries
      : (x : ℕ)
      → PageNo (tidy_file d (file_of b)) x
      → let first = first_entry d (page_at (tidy_file d (file_of b)) x) in
      (entry_at (tidy_file d (file_of b)) first ≡ x) × ((j : ℕ) → j < first → entry_at (tidy_file d (file_of b)) j < x)
  -- "P is kept"; c too; the depth is the wanted one, and no more pages are in use than before
  pub keeps
      : ((tidy_file d (file_of b)).g ≡ d)
      × ((tidy_file d (file_of b)).c ≡ (file_of b).c)
      × ((tidy_file d (file_of b)).limit ≡ (file_of b).limit)
      × ((tidy_file d (file_of b)).used ≤ (file_of b).used)
  -- what is written is accepted as a job by itself, and as a job is the tidied file
  pub bytes : AreBytes (tidy_bytes d b)
  pub accepted : IsFile (tidy_bytes d b) (tidy_file d (file_of b))
  pub most : length (tidy_bytes d b) ≤ longest_file
  -- "The file holds the same calls with the same charges", and no call twice
  pub holds : (r : Rec) → Has r (contents (file_of (tidy_bytes d b))) ↔ Has r (contents (file_of b))
  pub once : NoneTwice (contents (file_of (tidy_bytes d b)))
  -- tidied again it comes out as if it had not been tidied before: so at the same depth nothing changes
  pub again : (room e : ℕ) → (tidy_fault room e (tidy_bytes d b) ≡ tidy_fault room e b) × (tidy_bytes e (tidy_bytes d b) ≡ tidy_bytes e b)
  -- "A run that begins from a tidied file is explained by its log like any other"
  pub explained
      : (k post : List ℕ)
      → AreBytes k
      → Accepted k
      → file_of k ≡ file_of (tidy_bytes d b)
      → Explained (job_of k) (read_result (result_bytes k ++ post))

-- "no page number comes back into use during a run": a page in use stays in use, whatever the job; so only tidying gives pages back
abbrev pub StaysInUse : Type 0
StaysInUse = (j : Job) (t u x : ℕ) → t ≤ u → u ≤ length j.turns → PageNo (state_at j t).file x → PageNo (state_at j u).file x

-- WHAT TIDYING IS TO KEEP, for every charge file, given as its bytes, every depth and every buffer
abbrev pub Tidies : Type 0
Tidies = (room d : ℕ) (b : List ℕ) → AreBytes b → tidy_fault room d b ≡ None → Tidied d b
