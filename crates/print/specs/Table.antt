-- The table that the program lends: a row for each operation that a job may have, none of them begun.
use Rattle.std.specs.Prelude.{List, replicate}
use Rattle.turn.specs.declared.Row.{Row}
use Rattle.turn.specs.Rows.{blank_row}

abbrev pub full_table : List Row
full_table = replicate 256 blank_row
