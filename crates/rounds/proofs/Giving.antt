-- An operation of a round, passed over or not: what becomes of the table, the buffer, the memory and the count.
use mathlib.Core.Path.{◌≡◌, sym, ◌∙◌}
use mathlib.Core.List.{List}
use mathlib.Core.Bool.{true, false}
use Prim.Native.Nat.{ℕ, ◌+◌}
use lib.ListN.{set}
use Rattle.spec.specs.Bytes.{two}
use Rattle.laws.specs.Tools.{if-true, if-false}
use Rattle.header.specs.declared.Header.{Header}
use Rattle.header.specs.Counts.{counts_of}
use Rattle.wire.specs.Over.{over}
use Rattle.turn.specs.Steps.{Out}
use Rattle.reader.specs.Parts.{ops_in}
use Rattle.table.specs.Turns.{moved_on, turn_on}
use Rattle.run.specs.Table.{shape_for}
use Rattle.rounds.specs.OnTable.{Dealing, dealing, row_for, is_passed, next_place, give_to}

module _ (h : Header) (b : List ℕ) (i : ℕ) (u : Dealing) where
  pub passed : is_passed u i ≡ true → u ≡ give_to h b i u
  unfolding give_to
  passed p = sym (if-true u _ p)

  -- it gets the turn: o is its row moved on, with the memory, and s is the buffer
  pub given
      : {s : List ℕ} {o : Out}
      → is_passed u i ≡ false
      → s ≡ over u.out (next_place h u.turns) (two i)
      → o ≡ moved_on (shape_for h) (ops_in (counts_of h) b) u.turns i (row_for u i) u.work
      → dealing (set u.rows i o.row) s o.work (u.turns + 1) ≡ give_to h b i u
  unfolding give_to turn_on
  given p e m = (λ k. dealing (set u.rows i (m k).row) (e k) (m k).work (u.turns + 1)) ∙ sym (if-false u _ p)
