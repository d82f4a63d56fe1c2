-- The accepted file that is tidied, as the definitions have it; and what is asked for of a page that is written.
use Rattle.std.specs.Prelude.{ℕ, ◌+◌, ◌-◌, ◌^◌, ◌≤◌, ◌≡◌, List, length}
use Rattle.spec.specs.File.{File}
use Rattle.spec.specs.Job.{page_size}
use Rattle.spec.specs.Decode.{file_of}
use Rattle.laws.specs.Tidy.Entries.{page_from}
use Rattle.tidy.specs.declared.file.ChargeFile.{ChargeFile}

-- its bytes
abbrev pub bytes_in : ChargeFile → List ℕ
bytes_in f = f.reader.job.now

-- what they show
abbrev pub file_in : ChargeFile → File
file_in f = file_of f.reader.job.now

-- the page of depth l whose first entry is j, in n bytes: its entries are entries of the file's directory, and its records have room
pub record Asked (f : ChargeFile) (j l n : ℕ) : Type 0 where
  pub deep : l ≤ f.reader.header.depth
  pub within : j + 2 ^ (f.reader.header.depth - l) ≤ 2 ^ f.reader.header.depth
  pub size : n ≡ page_size f.reader.header.capacity
  pub few : length (page_from (file_in f) j l).records ≤ f.reader.header.capacity
