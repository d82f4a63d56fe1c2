-- "The plain list": one operation at a time on a list of calls with charges, and the log replayed on it.
use Rattle.std.specs.Prelude.{ℕ, ◌≡◌, List, [], ◌∷◌, ◌++◌, Bool, ◌||◌, get_or, eqb, Option, None, Some}
use Rattle.spec.specs.declared.Rec.{Rec}
use Rattle.spec.specs.declared.Op.{Op}
use Rattle.spec.specs.declared.Kind.{Kind}
use Rattle.spec.specs.declared.Kind.TheVariants.{Search, Insert, Delete}
use Rattle.spec.specs.Basics.{if}
use Rattle.spec.specs.Code.{found, not_found, stored, already_there, deleted, absent, no_depth, no_page, differs}
use Rattle.spec.specs.File.{find_in, without}
use Rattle.spec.specs.Job.{no_op, strikes}
use Rattle.spec.specs.Result.{Told, Line}

-- "no call twice": of each record in a list, the rest has no record with its call
pub data NoneTwice : List Rec → Type 0 where
  empty : NoneTwice []
  more : {r : Rec} {rs : List Rec} → find_in rs r.call ≡ None → NoneTwice rs → NoneTwice (r ∷ rs)

-- What the plain list answers to one operation, and the list after it.
pub record Plain : Type 0 where
  pub code : ℕ
  pub charge : ℕ
  pub list : List Rec

abbrev pub plain : ℕ → ℕ → List Rec → Plain
plain k c l = record { code = k; charge = c; list = l }

-- "no depth" or "no page"
unfoldable pub turned_down : ℕ → Bool
turned_down k = eqb k no_depth || eqb k no_page

-- "of the answers it is told only which inserts got 7 or 8": that code, or 0 for all else
unfoldable pub hint : ℕ → ℕ
hint k = if (turned_down k) k 0

-- "Search: call there, 1 and its charge; else 2 and 0."
-- "Insert: call there, 4 and its charge. Missing and told 7 or 8: that code and 0. Otherwise 3 and the insert's charge, and the call goes in with it."
-- "Delete: call there, 5 and its charge, and the call goes out; else 6 and 0." "Where the call is there at another charge, the answer is 9, "differs",
-- with the file's charge .. and nothing changes"
-- (the third argument is what the list has of the operation's call)
unfoldable pub plain_step : Kind → Op → Option Rec → ℕ → List Rec → Plain
plain_step Search op (Some r) told l = plain found r.charge l
plain_step Search op None told l = plain not_found 0 l
plain_step Insert op (Some r) told l = plain already_there r.charge l
plain_step Insert op None told l =
    if (turned_down told) (plain told 0 l)
    (plain stored op.charge (l ++ (record { call = op.call; charge = op.charge } ∷ [])))
plain_step Delete op (Some r) told l =
    if (strikes op.charge r.charge) (plain deleted r.charge (without l op.call)) (plain differs r.charge l)
plain_step Delete op None told l = plain absent 0 l

abbrev pub nothing_told : Told
nothing_told = record { code = 0; page = 0; used = 0; charge = 0 }

-- one line is fed: "each with kind, call and charge as in the job"
unfoldable pub ask_line : List Op → List Told → Line → List Rec → Plain
ask_line ops answers h l =
    let op : Op = get_or ops h.op no_op in
    plain_step op.kind op (find_in l op.call) (hint (get_or answers h.op nothing_told).code) l

-- Code and charge of an answer.
pub record Reply : Type 0 where
  pub code : ℕ
  pub charge : ℕ

unfoldable pub reply_of : Told → Reply
reply_of r = record { code = r.code; charge = r.charge }

-- "It is fed the log's operations in log order": each line's code and charge, and the list at the end
pub record Replay : Type 0 where
  pub replies : List Reply
  pub list : List Rec

abbrev pub cons_reply : Plain → Replay → Replay
cons_reply p t = record { replies = record { code = p.code; charge = p.charge } ∷ t.replies; list = t.list }

unfoldable pub replay : List Op → List Told → List Line → List Rec → Replay
replay ops answers [] l = record { replies = []; list = l }
replay ops answers (h ∷ hs) l =
    cons_reply (ask_line ops answers h l) (replay ops answers hs (ask_line ops answers h l).list)
