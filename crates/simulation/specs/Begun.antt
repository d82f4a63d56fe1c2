-- A working memory that holds a file, with no page locked, shows the state from which a run starts; and every row is one of zeros.
use Rattle.std.specs.Prelude.{◌≡◌, refl, List, false, ℕ, suc, ◌<◌, get_or, replicate}
use Rattle.std.proofs.Common.{ap, ◌∙◌}
use Rattle.std.proofs.lemmas.List.{get_or-replicate}
use Rattle.spec.specs.File.{File}
use Rattle.spec.specs.Split.{digit}
use Rattle.spec.specs.State.{blank, gone}
use Rattle.spec.specs.Run.{row_of, start}
use Rattle.laws.specs.Tools.{replicate_all}
use Rattle.laws.specs.Turns.Slots.{start_slots}
use Rattle.memory.specs.Memory.{turn_in}
use Rattle.turn.specs.Rows.{blank_row, row_image}
use Rattle.simulation.specs.Shown.{Picture, Shown}
use Rattle.simulation.specs.RowBack.{blank-row}

-- no page is locked
pub no_lock : (n x : ℕ) → digit (get_or (replicate n false) x false) ≡ 0
unfolding digit
no_lock n x = replicate_all (λ b. digit b ≡ 0) n false false refl refl x

pub start_shown : (f : File) (m : ℕ) (w : List ℕ) → Picture f (replicate (suc f.limit) false) w → Shown (start f m) w
unfolding start
start_shown f m w p = record { picture = p; turns = start_slots (turn_in w) f m }

pub start-row : (f : File) (m i : ℕ) → i < m → row_image (row_of (start f m) i) ≡ blank_row
unfolding start row_of
start-row f m i l = ap row_image (get_or-replicate m i blank gone l) ∙ blank-row
