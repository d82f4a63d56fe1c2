-- The switch's log, from which charges are worked out. (The log of a result, which is another thing, is in Result.antt.)
use Rattle.std.specs.Prelude.{ℕ, ◌/◌, ◌%◌, List, map, not, length, eqb, Option}
use Rattle.spec.specs.Basics.{when}
use Rattle.spec.specs.Bytes.{byte, word, long, parts}

-- "A log record is 16 bytes: call number (4), extension (2), band (1), zero (1), start in seconds from the month's beginning (4), seconds talked (4)"
pub record Logged : Type 0 where
  pub call : ℕ
  pub extension : ℕ
  pub band : ℕ
  pub spare : ℕ
  pub start : ℕ
  pub talked : ℕ

abbrev pub logged_size : ℕ
logged_size = 16

-- what stands where there is no record
abbrev pub no_logged : Logged
no_logged = record { call = 0; extension = 0; band = 0; spare = 0; start = 0; talked = 0 }

unfoldable pub logged_of : List ℕ → Logged
logged_of b =
    record {
      call = long b 0;
      extension = word b 4;
      band = byte b 6;
      spare = byte b 7;
      start = long b 8;
      talked = long b 12;
    }

-- the records of a log, in its order
unfoldable pub switch_log : List ℕ → List Logged
switch_log l = map logged_of (parts (length l / logged_size) logged_size l)

-- bytes that are not whole parts of this size, told at their length
unfoldable pub not_whole : ℕ → List ℕ → Option ℕ
not_whole size b = when (not (eqb (length b % size) 0)) (length b)

-- 1, "here and later, for a log that is not whole records, at its length"
unfoldable pub broken_log : List ℕ → Option ℕ
broken_log l = not_whole logged_size l
