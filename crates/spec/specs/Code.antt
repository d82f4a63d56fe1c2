-- "The result": the codes of answers, by name.
use Rattle.std.specs.Prelude.{ℕ}

-- "0 not yet, 1 found, 2 none, 3 stored, 4 already there, 5 deleted, 6 absent, 7 no depth, 8 no page"; "9, "differs""
abbrev pub not_yet : ℕ
not_yet = 0

abbrev pub found : ℕ
found = 1

abbrev pub not_found : ℕ
not_found = 2

abbrev pub stored : ℕ
stored = 3

abbrev pub already_there : ℕ
already_there = 4

abbrev pub deleted : ℕ
deleted = 5

abbrev pub absent : ℕ
absent = 6

abbrev pub no_depth : ℕ
no_depth = 7

abbrev pub no_page : ℕ
no_page = 8

abbrev pub differs : ℕ
differs = 9
