-- "Turns": what a turn finds and leaves, and what one turn does.
use Rattle.std.specs.Prelude.{ℕ, List, Bool, false, Option, None, Some}
use Rattle.spec.specs.declared.Stage.{Stage}
use Rattle.spec.specs.declared.Stage.TheVariants.{NotBegun, Done}
use Rattle.spec.specs.Code.{not_yet}
use Rattle.spec.specs.File.{Page, File}

-- "The operations under way stand in one lent table, a row each": where the operation stands, its turns used without waiting, and its
-- answer: code, charge, page and moment. "The code is set when the operation's moment is known": until then there is no page, which is 0
pub record Row : Type 0 where
  pub stage : Stage
  pub used : ℕ
  pub code : ℕ
  pub charge : ℕ
  pub page : ℕ
  pub moment : ℕ

-- A directory entry that was changed: on which turn, which entry, and the page that it named before.
pub record Change : Type 0 where
  pub turn : ℕ
  pub entry : ℕ
  pub from : ℕ

-- "each turn finds directory, pages, locks, U and rows as the last one left them". Page x stands at place x of the locks, and place 0 is
-- not used. `changes` is the history of directory changes, the last one first; `now` is the number of the next turn.
pub record State : Type 0 where
  pub file : File
  pub locks : List Bool
  pub rows : List Row
  pub changes : List Change
  pub now : ℕ

-- What one turn says of the operation's answer: nothing new; or code, charge, page and moment.
pub data Answer : Type 0 where
  same : Answer
  answer : ℕ → ℕ → ℕ → ℕ → Answer

pub record PageWrite : Type 0 where
  pub number : ℕ
  pub page : Page

pub record EntryWrite : Type 0 where
  pub entry : ℕ
  pub number : ℕ

-- What one turn does: the operation's next stage and answer; the locks of `count` pages from `from` on become `value`;
-- `takes` unused pages come into use; at most one page and at most one entry are written.
pub record Move : Type 0 where
  pub stage : Stage
  pub answer : Answer
  pub from : ℕ
  pub count : ℕ
  pub value : Bool
  pub takes : ℕ
  pub page : Option PageWrite
  pub entry : Option EntryWrite

-- an operation not begun; and what is read where there is no operation, which takes no turns
abbrev pub blank : Row
blank = record { stage = NotBegun; used = 0; code = not_yet; charge = 0; page = 0; moment = 0 }

abbrev pub gone : Row
gone = record { stage = Done; used = 0; code = not_yet; charge = 0; page = 0; moment = 0 }

-- the kinds of move: nothing shared changes; locks change; a page is written; an entry is written
abbrev pub go : Stage → Answer → Move
go st a = record { stage = st; answer = a; from = 0; count = 0; value = false; takes = 0; page = None; entry = None }

abbrev pub go_lock : Stage → ℕ → ℕ → Bool → ℕ → Move
go_lock st from n v takes =
    record { stage = st; answer = same; from = from; count = n; value = v; takes = takes; page = None; entry = None }

abbrev pub go_page : Stage → Answer → ℕ → Page → Move
go_page st a x p =
    record {
      stage = st;
      answer = a;
      from = 0;
      count = 0;
      value = false;
      takes = 0;
      page = Some (record { number = x; page = p });
      entry = None;
    }

abbrev pub go_entry : Stage → Answer → ℕ → ℕ → Move
go_entry st a j x =
    record {
      stage = st;
      answer = a;
      from = 0;
      count = 0;
      value = false;
      takes = 0;
      page = None;
      entry = Some (record { entry = j; number = x });
    }
