-- What tidying is given, and what its steps leave for one another.
use Rattle.std.specs.Prelude.{ℕ, ◌^◌, ◌<◌, ◌≤◌, ◌≡◌, List, length, get_or, None}
use Rattle.spec.specs.Basics.{Each}
use Rattle.spec.specs.Bytes.{byte}
use Rattle.spec.specs.File.{Page, File}
use Rattle.spec.specs.Job.{page_size}
use Rattle.spec.specs.Encode.{page_bytes}
use Rattle.spec.specs.Decode.{page_of}
use Rattle.spec.specs.Check.{job_fault}
use Rattle.laws.specs.Tidy.Entries.{records_before, start_of}
use Rattle.header.specs.declared.Header.{Header}
use Rattle.header.specs.Counts.{Heads}

-- the bytes b are accepted, with the header h
pub record Given (h : Header) (b : List ℕ) : Type 0 where
  pub bytes : (k : ℕ) → get_or b k 0 < 256
  pub accepted : job_fault b ≡ None
  pub heads : Heads h b

-- the bytes s are those of page q, read and written, of a file with this header
pub record Shows (h : Header) (q : Page) (s : List ℕ) : Type 0 where
  pub is : page_of s ≡ q
  pub written : page_bytes h.capacity q ≡ s
  pub size : length s ≡ page_size h.capacity
  pub deep : byte s 0 ≤ h.depth
  pub few : byte s 1 ≤ h.capacity

-- s has, for each entry and behind the last, the number of records before it
abbrev pub Counted : File → List ℕ → Type 0
Counted f s = (j : ℕ) → j ≤ 2 ^ f.g → get_or s j 0 ≡ records_before f j

-- pages of these depths fill a directory of depth d
pub record Fills (d : ℕ) (ls : List ℕ) : Type 0 where
  pub deep : Each (λ l. l ≤ d) ls
  pub total : start_of d ls (length ls) ≡ 2 ^ d
