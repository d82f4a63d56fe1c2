-- What dealing does to the lent table, the output buffer and the working memory: one operation of a round, a round, and rounds one after another.
use Rattle.std.specs.Prelude.{ℕ, zero, suc, ◌+◌, ◌*◌, ◌≤◌, ◌<◌, ◌≡◌, List, Bool, false, length, get_or}
use Rattle.spec.specs.Basics.{if}
use Rattle.spec.specs.Bytes.{two}
use Rattle.spec.specs.Job.{turns_offset, turn_size}
use Rattle.header.specs.declared.Header.{Header}
use Rattle.header.specs.Counts.{counts_of, Heads}
use Rattle.wire.specs.Over.{over}
use Rattle.turn.specs.declared.Row.{Row}
use Rattle.turn.specs.Rows.{blank_row}
use Rattle.turn.specs.Steps.{idles}
use Rattle.turn.specs.Safe.{Lockable}
use Rattle.reader.specs.Parts.{ops_in}
use Rattle.table.specs.Turns.{Both, both, Moves, turn_on}
use Rattle.run.specs.Table.{shape_for}

-- the table, the buffer and the memory, and how many turns are dealt
pub record Dealing : Type 0 where
  pub rows : List Row
  pub out : List ℕ
  pub work : List ℕ
  pub turns : ℕ

abbrev pub dealing : List Row → List ℕ → List ℕ → ℕ → Dealing
dealing x s w t = record { rows = x; out = s; work = w; turns = t }

-- the row of operation i, and whether it is passed over
abbrev pub row_for : Dealing → ℕ → Row
row_for u i = get_or u.rows i blank_row

abbrev pub is_passed : Dealing → ℕ → Bool
is_passed u i = idles (row_for u i) u.work

-- where the next turn is written: behind the job, whose header is h, and the turns dealt
abbrev pub next_place : Header → ℕ → ℕ
next_place h t = turns_offset (counts_of h) + turn_size * t

-- operation i of the job b gets the next turn, or is passed over
unfoldable pub give_to : Header → List ℕ → ℕ → Dealing → Dealing
give_to h b i u =
    let after : Both = turn_on (shape_for h) (ops_in (counts_of h) b) u.turns i (both u.rows u.work) in
    let given = dealing after.rows (over u.out (next_place h u.turns) (two i)) after.work (u.turns + 1) in
    if (is_passed u i) u given

-- what that asks: the operation is there with its row, and where it is not passed over, it may take a turn and the turn has room in the buffer
pub record Gives (h : Header) (b : List ℕ) (i : ℕ) (u : Dealing) : Type 0 where
  pub heads : Heads h b
  pub op : i < h.ops
  pub row : i < length u.rows
  pub lock : Lockable (row_for u i) u.work
  pub moves : is_passed u i ≡ false → Moves (shape_for h) (ops_in (counts_of h) b) u.turns i (row_for u i) u.work
  pub room : is_passed u i ≡ false → next_place h u.turns + turn_size ≤ length u.out

-- the first k operations of a round, and all
unfoldable pub give_up_to : Header → List ℕ → ℕ → Dealing → Dealing
give_up_to h b zero u = u
give_up_to h b (suc k) u = give_to h b k (give_up_to h b k u)

abbrev pub round_on : Header → List ℕ → Dealing → Dealing
round_on h b u = give_up_to h b h.ops u

-- n rounds
unfoldable pub rounds_on : Header → List ℕ → ℕ → Dealing → Dealing
rounds_on h b zero u = u
rounds_on h b (suc n) u = round_on h b (rounds_on h b n u)

-- what a round asks of each of its operations
abbrev pub GivesAll : Header → List ℕ → Dealing → Type 0
GivesAll h b u = (k : ℕ) → k < h.ops → Gives h b k (give_up_to h b k u)
