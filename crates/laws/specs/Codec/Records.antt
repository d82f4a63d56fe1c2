-- Row 8 as a property of a file: in every page in use, each call's pseudo key begins with the page's pattern, and calls rise.
-- The row compares a call with the one before it, `CallsRise` with all those behind it.
use Rattle.std.proofs.Math.Logic.Iff
use Rattle.std.specs.Prelude.{ℕ, zero, suc, ◌-◌, ◌<◌, ◌≤◌, ◌≡◌, ◌↔◌, List, [], ◌∷◌, length, get_or, None}
use Rattle.std.proofs.Common.{arith}
use Rattle.spec.specs.declared.Rec.{Rec}
use Rattle.spec.specs.Basics.{first_of, Each, end}
use Rattle.spec.specs.File.{Page, File, no_record, page_at, pages_in_use}
use Rattle.spec.specs.Job.{Header}
use Rattle.spec.specs.Check.{not_above, bad_record, record_fault, record_fault_in}
use Rattle.spec.specs.Proper.{CallsRise, flat, rise, In, PageNo}
use Rattle.laws.specs.Tools.{each_at}
use Rattle.laws.specs.Turns.CallsRise.{below_all}
use Rattle.laws.specs.Codec.Tools.{failed, each_places}
use Rattle.laws.specs.Codec.Walk.{first-none}
use Rattle.laws.specs.Codec.InUse.{first_in_use}

-- record k + 1 is above record k
abbrev pub Up : List Rec → ℕ → Type 0
Up rs k = (get_or rs k no_record).call < (get_or rs (suc k) no_record).call

rise_up : {rs : List Rec} → CallsRise rs → (k : ℕ) → suc k < length rs → Up rs k
rise_up flat k l = absurd (omega arith)
rise_up (rise {rs = rs} low h) zero l = each_at rs 0 no_record (omega arith) low
rise_up (rise low h) (suc k) l = rise_up h k (omega arith)

up_rise : (rs : List Rec) → ((k : ℕ) → suc k < length rs → Up rs k) → CallsRise rs
up_rise [] h = flat
up_rise (r ∷ []) h = rise end flat
up_rise (r ∷ a ∷ rs) h =
    let low = h 0 (omega arith) in
    let t = up_rise (a ∷ rs) (λ k l. h (suc k) (omega arith)) in
    rise (below_all t low) t

-- as row 8 counts: the first record has none before it
abbrev AboveLast : List Rec → ℕ → Type 0
AboveLast rs k = 0 < k → (get_or rs (k - 1) no_record).call < (get_or rs k no_record).call

up_above : {rs : List Rec} → CallsRise rs → (k : ℕ) → k < length rs → AboveLast rs k
up_above h zero l z = absurd (omega arith)
up_above h (suc k) l z = let e : suc k - 1 ≡ k = omega arith in rw e (rise_up h k l)

pub above_up : (rs : List Rec) (k : ℕ) → AboveLast rs (suc k) → Up rs k
above_up rs k h = let e : suc k - 1 ≡ k = omega arith in rw e at (h (omega arith))

-- the records of a page that row 8 does not refuse
pub record RecordsOk (p : Page) : Type 0 where
  pub homed : Each (λ a. In p a.call) p.records
  pub calls_rise : CallsRise p.records

page-records : (place : ℕ) (p : Page) → first_of (record_fault place p) 0 p.records ≡ None ↔ RecordsOk p
unfolding record_fault bad_record not_above
page-records place p =
    simp (first-none (record_fault place p) p.records no_record, failed) (
      λ h. record { homed = (each_places _ no_record).1 (λ k l. (h k l).0); calls_rise = up_rise _ (λ k l. above_up p.records k (h (suc k) l).1) },
      λ ok k l. ((each_places _ no_record).0 ok.homed k l, up_above ok.calls_rise k l),
    )

-- row 8
pub records_said
    : (h : Header) (f : File)
    → f.used ≤ f.limit
    → length f.table ≡ suc f.limit
    → first_of (record_fault_in h) 1 (pages_in_use f) ≡ None ↔ ((x : ℕ) → PageNo f x → RecordsOk (page_at f x))
unfolding record_fault_in
records_said h f within size =
    simp (first_in_use f within size, page-records) Iff.rfl
