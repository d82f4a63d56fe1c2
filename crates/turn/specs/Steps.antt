-- One turn of an operation in memory: its row of numbers, and the working memory through what is read of it. `Sim` shows that it is the
-- machine's turn; here what takes the machine a walk over the directory or the history is one look-up or a few steps.
use Rattle.std.specs.Prelude.{ℕ, suc, ◌+◌, ◌-◌, ◌*◌, ◌^◌, List, Bool, true, false, not, ltb, leb, eqb, get_or, length, Option, None, Some, unwrap_or}
use Rattle.spec.specs.declared.Found.{Found}
use Rattle.spec.specs.declared.Op.{Op}
use Rattle.spec.specs.declared.Kind.{Kind}
use Rattle.spec.specs.declared.Kind.TheVariants.{Search, Insert, Delete}
use Rattle.spec.specs.declared.Task.{Task}
use Rattle.spec.specs.declared.Task.TheVariants.{Verify, Release, Decide, WritePage, WriteOld, Unlock}
use Rattle.spec.specs.declared.Part.{Part}
use Rattle.spec.specs.declared.Part.TheVariants.{WriteNew, WriteEntry, UnlockNew}
use Rattle.spec.specs.declared.Stage.{Stage}
use Rattle.spec.specs.declared.Stage.TheVariants.{NotBegun, ReadPage, Reread, Lock, Held, Split, Done}
use Rattle.spec.specs.Basics.{if}
use Rattle.spec.specs.Code.{found, not_found, stored, already_there, deleted, absent, no_depth, no_page, differs}
use Rattle.spec.specs.Key.{index}
use Rattle.spec.specs.File.{Page, zero_page, look_in, found_of}
use Rattle.spec.specs.Job.{strikes}
use Rattle.spec.specs.Split.{Grown, added, grow, least_shared, split_count}
use Rattle.spec.specs.Turn.{rec_of, begin, cleared}
unfoldable pub use Rattle.laws.specs.Turns.GoesBy.{entry_bit, last_one}
use Rattle.memory.specs.declared.Shape.{Shape}
use Rattle.memory.specs.Memory.{entry_in, with_entry, lock_in, with_locks, used_in, with_used, turn_in, with_turn, page_in, with_page, found_in}
use Rattle.turn.specs.declared.Row.{Row}
use Rattle.turn.specs.Rows.{stage_in, moved, answered}

-- What a turn leaves: the operation's row, and the memory.
pub record Out : Type 0 where
  pub row : Row
  pub work : List ℕ

abbrev pub out : Row → List ℕ → Out
out r w = record { row = r; work = w }

-- the call's own entry, and the page that it names
unfoldable pub home : Shape → Op → ℕ
home sh op = index sh.depth op.call

unfoldable pub named : Shape → Op → List ℕ → ℕ
named sh op w = entry_in w (home sh op)

-- the pages that the insert leaves of page x
unfoldable pub plan : Shape → Op → List ℕ → ℕ → Grown
plan sh op w x = grow sh.capacity (suc sh.depth) (page_in sh.capacity w x) (rec_of op)

-- A search has read page x. Where its entry no longer names that page, the turn of the change stands under the page's depth
unfoldable pub found_at : Shape → Op → ℕ → List ℕ → ℕ → ℕ
found_at sh op t w x =
    if (eqb (named sh op w) x) t (turn_in w (home sh op) (page_in sh.capacity w x).depth)

unfoldable pub mem_looked_at : Shape → Op → ℕ → Row → List ℕ → ℕ → Option ℕ → Out
mem_looked_at sh op t r w x None = out (moved r (Reread x t)) w
mem_looked_at sh op t r w x (Some v) = out (answered (moved r Done) found v x (found_at sh op t w x)) w

abbrev pub mem_looked : Shape → Op → ℕ → Row → List ℕ → Found → Out
mem_looked sh op t r w o = mem_looked_at sh op t r w o.page o.charge

unfoldable pub mem_reread : Shape → Op → Row → List ℕ → ℕ → ℕ → Out
mem_reread sh op r w x u =
    if (eqb (named sh op w) x) (out (answered (moved r Done) not_found 0 x u) w) (out (moved r (ReadPage (named sh op w))) w)

unfoldable pub mem_lock : Row → List ℕ → ℕ → Out
mem_lock r w x = if (eqb (lock_in w x) 0) (out (moved r (Held x Verify)) (with_locks w x 1 1)) (out r w)

unfoldable pub mem_verified : Shape → Op → Row → List ℕ → ℕ → Out
mem_verified sh op r w x =
    if (eqb (named sh op w) x) (out (moved r (Held x Decide)) w) (out (moved r (Held x (Release (named sh op w)))) w)

-- an operation that holds page x has its answer, told with that page, and the next turn unlocks
abbrev pub settled : Row → ℕ → ℕ → ℕ → ℕ → Row
settled r x code charge t = answered (moved r (Held x Unlock)) code charge x t

-- turn (d)
unfoldable pub mem_refused : ℕ → Row → List ℕ → ℕ → ℕ → ℕ → Out
mem_refused t r w x code charge = out (settled r x code charge t) w

-- an insert takes n new pages, when u are in use
unfoldable pub mem_taken : Row → List ℕ → ℕ → ℕ → ℕ → Out
mem_taken r w x u n = out (moved r (Split x u n (WriteNew 1))) (with_used (with_locks w (u + 1) n 1) (u + n))

-- "How many leading bits two pseudo keys share settles n": an insert into page x, which is p and is full
unfoldable pub mem_full : Shape → Op → ℕ → Row → List ℕ → ℕ → Page → Out
mem_full sh op t r w x p =
    if (leb sh.depth (least_shared p.records op.call)) (mem_refused t r w x no_depth 0)
    (if (ltb sh.pages (used_in w + split_count p op.call)) (mem_refused t r w x no_page 0)
    (mem_taken r w x (used_in w) (split_count p op.call)))

unfoldable pub mem_placed : Shape → Op → ℕ → Row → List ℕ → ℕ → Page → Out
mem_placed sh op t r w x p =
    if (ltb (length p.records) sh.capacity) (out (moved r (Held x WritePage)) w) (mem_full sh op t r w x p)

-- a delete with the charge `asked` finds its call in page x at the charge `held`
unfoldable pub mem_at_charge : ℕ → ℕ → Row → ℕ → ℕ → Row
mem_at_charge asked t r x held = if (strikes asked held) (moved r (Held x WritePage)) (settled r x differs held t)

unfoldable pub mem_decided_at : Shape → Op → ℕ → Row → List ℕ → ℕ → Kind → Option ℕ → Out
mem_decided_at sh op t r w x Search o = out (moved r (Held x Unlock)) w
mem_decided_at sh op t r w x Insert None = mem_placed sh op t r w x (page_in sh.capacity w x)
mem_decided_at sh op t r w x Insert (Some v) = mem_refused t r w x already_there v
mem_decided_at sh op t r w x Delete None = mem_refused t r w x absent 0
mem_decided_at sh op t r w x Delete (Some v) = out (mem_at_charge op.charge t r x v) w

abbrev pub mem_decided : Shape → Op → ℕ → Row → List ℕ → Kind → Found → Out
mem_decided sh op t r w k o = mem_decided_at sh op t r w o.page k o.charge

-- the row of a delete that writes its page, by what it finds there
abbrev pub mem_struck : ℕ → Row → Found → Row
mem_struck t r o = settled r o.page deleted (unwrap_or o.charge 0) t

unfoldable pub mem_written : Shape → Op → ℕ → Row → List ℕ → ℕ → Kind → Page → Out
mem_written sh op t r w x Search p = out (moved r (Held x Unlock)) w
mem_written sh op t r w x Insert p =
    out (settled r x stored op.charge t) (with_page sh.capacity w x (added p (rec_of op)))
mem_written sh op t r w x Delete p =
    out (mem_struck t r (found_of x (look_in p.records op.call))) (with_page sh.capacity w x (cleared p op.call))

-- Which new page of the splits of page x an entry e goes to, counted from 1, or 0: the last of n splits that puts it on the side of bit 1
unfoldable pub goes : Shape → Op → List ℕ → ℕ → ℕ → ℕ → ℕ
goes sh op w x n e = last_one sh.depth op.call e n (page_in sh.capacity w x).depth 1 0

-- the entry behind the last one that a page's pattern begins
unfoldable pub behind : ℕ → Page → ℕ
behind g p = (p.pattern + 1) * 2 ^ (g - p.depth)

-- the old page is written. The call is in it where its own entry stays
unfoldable pub mem_old : Shape → Op → ℕ → Row → List ℕ → ℕ → Out
mem_old sh op t r w x =
    let n : ℕ = split_count (page_in sh.capacity w x) op.call in
    out
    (if (eqb (goes sh op w x n (home sh op)) 0) (settled r x stored op.charge t) (moved r (Held x Unlock)))
    (with_page sh.capacity w x (plan sh op w x).old)

unfoldable pub mem_held : Shape → Op → ℕ → Row → List ℕ → ℕ → Task → Out
mem_held sh op t r w x Verify = mem_verified sh op r w x
mem_held sh op t r w x (Release y) = out (moved r (Lock y)) (with_locks w x 1 0)
mem_held sh op t r w x Decide = mem_decided sh op t r w op.kind (found_in sh.capacity w x op.call)
mem_held sh op t r w x WritePage = mem_written sh op t r w x op.kind (page_in sh.capacity w x)
mem_held sh op t r w x WriteOld = mem_old sh op t r w x
mem_held sh op t r w x Unlock = out (moved r Done) (with_locks w x 1 0)

-- what comes behind new page i of n, and behind entry j: the changed entries are those from behind the old page's last part up to the end of
-- the page that was split
unfoldable pub after_new : Shape → Op → List ℕ → ℕ → ℕ → ℕ → Part
after_new sh op w x n i = if (ltb i n) (WriteNew (i + 1)) (WriteEntry (behind sh.depth (plan sh op w x).old))

unfoldable pub after_entry : Shape → List ℕ → ℕ → ℕ → Part
after_entry sh w x j = if (ltb (j + 1) (behind sh.depth (page_in sh.capacity w x))) (WriteEntry (j + 1)) UnlockNew

unfoldable pub mem_new : Shape → Op → Row → List ℕ → ℕ → ℕ → ℕ → ℕ → Out
mem_new sh op r w x b n i =
    out (moved r (Split x b n (after_new sh op w x n i)))
    (with_page sh.capacity w (b + i) (get_or (plan sh op w x).news (i - 1) zero_page))

unfoldable pub mem_entry : Shape → Op → ℕ → Row → List ℕ → ℕ → ℕ → ℕ → ℕ → Out
mem_entry sh op t r w x b n j =
    let y : ℕ = b + goes sh op w x n j in
    out
    (if (eqb j (home sh op)) (answered (moved r (Split x b n (after_entry sh w x j))) stored op.charge y t)
    (moved r (Split x b n (after_entry sh w x j))))
    (with_entry (with_turn w j (page_in sh.capacity w x).depth t) j y)

unfoldable pub mem_split : Shape → Op → ℕ → Row → List ℕ → ℕ → ℕ → ℕ → Part → Out
mem_split sh op t r w x b n (WriteNew i) = mem_new sh op r w x b n i
mem_split sh op t r w x b n (WriteEntry j) = mem_entry sh op t r w x b n j
mem_split sh op t r w x b n UnlockNew = out (moved r (Held x WriteOld)) (with_locks w (b + 1) n 0)

-- one turn of operation op at a stage, on turn t
unfoldable pub mem_turn : Shape → Op → ℕ → Row → List ℕ → Stage → Out
mem_turn sh op t r w NotBegun = out (moved r (begin op.kind (named sh op w))) w
mem_turn sh op t r w (ReadPage x) = mem_looked sh op t r w (found_in sh.capacity w x op.call)
mem_turn sh op t r w (Reread x u) = mem_reread sh op r w x u
mem_turn sh op t r w (Lock x) = mem_lock r w x
mem_turn sh op t r w (Held x k) = mem_held sh op t r w x k
mem_turn sh op t r w (Split x b n q) = mem_split sh op t r w x b n q
mem_turn sh op t r w Done = out r w

unfoldable pub mem_step : Shape → Op → ℕ → Row → List ℕ → Out
mem_step sh op t r w = mem_turn sh op t r w (stage_in r)

-- an operation at a stage uses no turn: the page that it is to lock is locked, or it is finished
unfoldable pub idle_at : List ℕ → Stage → Bool
idle_at w NotBegun = false
idle_at w (ReadPage x) = false
idle_at w (Reread x u) = false
idle_at w (Lock x) = not (eqb (lock_in w x) 0)
idle_at w (Held x k) = false
idle_at w (Split x b n q) = false
idle_at w Done = true

unfoldable pub idles : Row → List ℕ → Bool
idles r w = idle_at w (stage_in r)
