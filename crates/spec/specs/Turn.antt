-- "Turns": what the next turn of an operation does, stage by stage.
use Rattle.std.specs.Prelude.{ℕ, suc, ◌+◌, ◌-◌, ◌^◌, List, [], ◌∷◌, true, false, ◌&&◌, length, get_or, ltb, eqb, Option, None, Some, unwrap_or}
use Rattle.spec.specs.declared.Rec.{Rec}
use Rattle.spec.specs.declared.Found.{Found}
use Rattle.spec.specs.declared.Op.{Op}
use Rattle.spec.specs.declared.Kind.{Kind}
use Rattle.spec.specs.declared.Kind.TheVariants.{Search, Insert, Delete}
use Rattle.spec.specs.declared.Task.{Task}
use Rattle.spec.specs.declared.Task.TheVariants.{Verify, Release, Decide, WritePage, WriteOld, Unlock}
use Rattle.spec.specs.declared.Part.{Part}
use Rattle.spec.specs.declared.Part.TheVariants.{WriteNew, WriteEntry, UnlockNew}
use Rattle.spec.specs.declared.Stage.{Stage}
use Rattle.spec.specs.declared.Stage.TheVariants.{NotBegun, ReadPage, Reread, Lock, Held, Split, Done}
use Rattle.spec.specs.Basics.{if}
use Rattle.spec.specs.Code.{found, not_found, stored, already_there, deleted, absent, no_depth, no_page, differs}
use Rattle.spec.specs.Key.{index}
use Rattle.spec.specs.File.{Page, File, zero_page, page_at, entry_at, look_into, without}
use Rattle.spec.specs.Job.{strikes}
use Rattle.spec.specs.Split.{Grown, added, grow, all_share, new_owner, next_entry}
use Rattle.spec.specs.State.{Change, State, Answer, same, answer, Move, go, go_lock, go_page, go_entry}

-- the call's own entry, and the page that it names: what reading the entry reads
unfoldable pub home_of : File → Op → ℕ
home_of f op = index f.g op.call

unfoldable pub entry_of : File → Op → ℕ
entry_of f op = entry_at f (home_of f op)

abbrev pub rec_of : Op → Rec
rec_of op = record { call = op.call; charge = op.charge }

-- the pages that the insert leaves of page x. They are worked out from page x on each turn, since nobody else writes it while it is held
unfoldable pub plan_of : File → Op → ℕ → Grown
plan_of f op x = grow f.c (suc f.g) (page_at f x) (rec_of op)

-- "Count n new pages"
unfoldable pub new_count : File → Op → ℕ → ℕ
new_count f op x = length (plan_of f op x).news

-- the new page, numbered from b + 1, that entry j goes to: 0 where it stays
unfoldable pub goes_to : File → Op → ℕ → ℕ → ℕ → ℕ
goes_to f op x b j = new_owner f.g (plan_of f op x).news (suc b) j

-- the writing of the first changed entry from j on, or, where there is none, the unlocking of the new pages
unfoldable pub entries_from : File → Op → ℕ → ℕ → ℕ → Part
entries_from f op x b j =
    let k : ℕ = next_entry (2 ^ f.g - j) f x b (plan_of f op x).news j in
    if (ltb k (2 ^ f.g)) (WriteEntry k) UnlockNew

-- "Search: read its entry"; "Insert and delete: (a) read the entry"
unfoldable pub begin : Kind → ℕ → Stage
begin Search x = ReadPage x
begin Insert x = Lock x
begin Delete x = Lock x

-- "the turn on which the entry was changed from it": the last change of entry e from page x
unfoldable pub changed_at : List Change → ℕ → ℕ → ℕ
changed_at [] e x = 0
changed_at (h ∷ hs) e x = if (eqb h.entry e && eqb h.from x) h.turn (changed_at hs e x)

-- "a found search, its page reading, or, where its entry no longer names that page, the turn on which the entry was changed from it"
unfoldable pub found_moment : State → Op → ℕ → ℕ
found_moment s op x = if (eqb (entry_of s.file op) x) s.now (changed_at s.changes (home_of s.file op) x)

-- "read that page (found: finished)". An answer has its page: "the page last read by a search", here and in `reread`
unfoldable pub looked_at : State → Op → ℕ → Option ℕ → Move
looked_at s op x None = go (Reread x s.now) same
looked_at s op x (Some v) = go Done (answer found v x (found_moment s op x))

-- the same, of what looking into the page tells; and so `decided`
abbrev pub looked : State → Op → Found → Move
looked s op o = looked_at s op o.page o.charge

-- "read the entry again. The same page number means "none", finished; else read the page now named". "a failed search, its last page reading"
unfoldable pub reread : State → Op → ℕ → ℕ → Move
reread s op x t =
    let y : ℕ = entry_of s.file op in
    if (eqb y x) (go Done (answer not_found 0 x t)) (go (ReadPage y) same)

-- ""Already there", "absent", "no depth" and "no page": the next turn unlocks, finished"; "codes 4, 6, 7, 8, turn (d)"; "differs": "its moment is turn
-- (d), the next turn unlocks, and nothing changes"; "the page read in turn (d)"
abbrev pub refused : ℕ → ℕ → ℕ → ℕ → Move
refused x code charge now = go (Held x Unlock) (answer code charge x now)

-- An insert whose call is not in page x, which is p: "Otherwise a turn writes the page"; a full page: ""No depth" exactly when all c records
-- share their first g bits with the call; otherwise "no page" exactly when U + n is above P. If neither, turn (d) also takes and locks pages
-- U+1 to U+n in the order of the splits, and from then on U is n more"
unfoldable pub placed : State → Op → ℕ → Page → Move
placed s op x p =
    let n : ℕ = new_count s.file op x in
    if (ltb (length p.records) s.file.c) (go (Held x WritePage) same)
    (if (all_share s.file.g p.records op.call) (refused x no_depth 0 s.now)
    (if (ltb s.file.limit (s.file.used + n)) (refused x no_page 0 s.now)
    (go_lock (Split x s.file.used n (WriteNew 1)) (suc s.file.used) n true n)))

-- "(d) read the page and decide". "Where the call is there at another charge, the answer is 9, "differs", with the file's charge". (No search comes
-- here, nor to `written`.)
unfoldable pub decided_at : State → Op → ℕ → Kind → Option ℕ → Move
decided_at s op x Search o = go (Held x Unlock) same
decided_at s op x Insert None = placed s op x (page_at s.file x)
decided_at s op x Insert (Some v) = refused x already_there v s.now
decided_at s op x Delete None = refused x absent 0 s.now
decided_at s op x Delete (Some v) = if (strikes op.charge v) (go (Held x WritePage) same) (refused x differs v s.now)

abbrev pub decided : State → Op → Kind → Found → Move
decided s op k o = decided_at s op o.page k o.charge

-- the answer of a delete that writes its page, by what it finds there: the call, as on turn (d), since nobody else writes a page that is held; and
-- so its page is "the page read in turn (d)". (That the call is missing does not come.)
abbrev pub struck : ℕ → Found → Answer
struck now o = answer deleted (unwrap_or o.charge 0) o.page now

-- "Delete closes the gap"
unfoldable pub cleared : Page → ℕ → Page
cleared p k = record { depth = p.depth; pattern = p.pattern; records = without p.records k }

-- "a turn writes the page". "deleted, the page writing; stored, the writing of the page the call is in if that is the old page"; and "the page
-- that holds the call at a stored insert's moment" is the page written
unfoldable pub written : State → Op → ℕ → Kind → Page → Move
written s op x Search p = go (Held x Unlock) same
written s op x Insert p = go_page (Held x Unlock) (answer stored op.charge x s.now) x (added p (rec_of op))
written s op x Delete p =
    go_page (Held x Unlock) (struck s.now (look_into s.file x op.call)) x (cleared p op.call)

-- "(c) read the entry again. If it names another page, the next turn unlocks the page held, and (b) follows with the page just read"
unfoldable pub verified : State → Op → ℕ → Move
verified s op x =
    let y : ℕ = entry_of s.file op in
    if (eqb y x) (go (Held x Decide) same) (go (Held x (Release y)) same)

-- "one writing the old page": the call's moment, where it is in the old page
unfoldable pub old_written : State → Op → ℕ → Move
old_written s op x =
    go_page (Held x Unlock) (if (eqb (goes_to s.file op x 0 (home_of s.file op)) 0) (answer stored op.charge x s.now) same) x
    (plan_of s.file op x).old

-- the turn of an operation that holds page x
unfoldable pub held_turn : State → Op → ℕ → Task → Move
held_turn s op x Verify = verified s op x
held_turn s op x (Release y) = go_lock (Lock y) x 1 false 0
held_turn s op x Decide = decided s op op.kind (look_into s.file x op.call)
held_turn s op x WritePage = written s op x op.kind (page_at s.file x)
held_turn s op x WriteOld = old_written s op x
held_turn s op x Unlock = go_lock Done x 1 false 0

-- "Then one turn for each new page written, one for each changed entry by rising index, one unlocking all new pages": the turn of an operation
-- that holds page x and the new pages b + 1 to b + n. "stored, .. else the writing of the call's own entry", which then names the page that holds
-- the call
unfoldable pub split_turn : State → Op → ℕ → ℕ → ℕ → Part → Move
split_turn s op x b n (WriteNew i) =
    go_page (Split x b n (if (ltb i n) (WriteNew (suc i)) (entries_from s.file op x b 0))) same (b + i)
    (get_or (plan_of s.file op x).news (i - 1) zero_page)
split_turn s op x b n (WriteEntry j) =
    let y : ℕ = goes_to s.file op x b j in
    go_entry (Split x b n (entries_from s.file op x b (suc j))) (if (eqb j (home_of s.file op)) (answer stored op.charge y s.now) same) j
    y
split_turn s op x b n UnlockNew = go_lock (Held x WriteOld) (suc b) n false 0

-- what the next turn of an operation at this stage does, where it does not wait. "(b) lock that page"
unfoldable pub turn : State → Op → Stage → Move
turn s op NotBegun = go (begin op.kind (entry_of s.file op)) same
turn s op (ReadPage x) = looked s op (look_into s.file x op.call)
turn s op (Reread x t) = reread s op x t
turn s op (Lock x) = go_lock (Held x Verify) x 1 true 0
turn s op (Held x t) = held_turn s op x t
turn s op (Split x b n q) = split_turn s op x b n q
turn s op Done = go Done same
