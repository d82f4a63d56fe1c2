-- The turns, one after another: none, and one turn more; and the numbers of a turn list.
use mathlib.Core.Path.{◌≡◌, refl, sym, ap, subst, ◌∙◌}
use mathlib.Core.Bool.{true}
use mathlib.Core.List.{List}
use Prim.Native.Nat.{ℕ, ◌+◌}
use native.Mathlib.Numerals.{add-one}
use lib.ListN.{get_or, set}
use lib.Seq.{set-get_or}
use Rattle.memory.specs.declared.Shape.{Shape}
use Rattle.turn.specs.declared.Row.{Row}
use Rattle.turn.specs.Rows.{blank_row}
use Rattle.turn.specs.Steps.{Out, idles}
use Rattle.turn.specs.Idle.{idle_stays}
use Rattle.reader.specs.Parts.{op_at, turn_at}
use Rattle.table.specs.Turns.{Both, both, moved_on, turn_on, run_turns}

-- who would only wait, or is finished, stays as it is
pub idle_turn
    : (sh : Shape) (ops : List ℕ) (t i : ℕ) (u : Both)
    → idles (get_or u.rows i blank_row) u.work ≡ true
    → turn_on sh ops t i u ≡ u
unfolding turn_on moved_on
idle_turn sh ops t i u e =
    ap (λ (o : Out). both (set u.rows i o.row) o.work) (idle_stays sh (op_at ops i) t (get_or u.rows i blank_row) u.work e)
    ∙ ap (λ (x : List Row). both x u.work) (set-get_or u.rows i blank_row)

pub none_run : (sh : Shape) (ops list : List ℕ) (u : Both) → run_turns sh ops list 0 u ≡ u
unfolding run_turns
none_run sh ops list u = refl

pub one_more : (sh : Shape) (ops list : List ℕ) (k : ℕ) (u : Both) → turn_on sh ops k (turn_at list k) (run_turns sh ops list k u) ≡ run_turns sh ops list (k + 1) u
unfolding run_turns
one_more sh ops list k u = subst (λ (j : ℕ). turn_on sh ops k (turn_at list k) (run_turns sh ops list k u) ≡ run_turns sh ops list j u) (sym (add-one k)) refl

-- a turn more, of whatever operation the list names there
pub turned
    : (sh : Shape) (ops list : List ℕ) (k i : ℕ) (u s : Both)
    → i ≡ turn_at list k
    → s ≡ run_turns sh ops list k u
    → turn_on sh ops k i s ≡ run_turns sh ops list (k + 1) u
turned sh ops list k i u s e h = rw (e, h) (one_more sh ops list k u)
