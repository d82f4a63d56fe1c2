-- What a call comes to, refused or done, step by step.
use Rattle.std.specs.Prelude.{ℕ, ◌*◌, ◌≤◌, ◌≡◌, List, length, ltb, Option, None, Some, refl}
use Rattle.std.specs.Bool.{then_some}
use Rattle.spec.specs.Basics.{or_else}
use Rattle.spec.specs.Bytes.{AreBytes}
use Rattle.spec.specs.Job.{op_size}
use Rattle.spec.specs.Check.{Fault, numbered}
use Rattle.spec.specs.Outcome.{Outcome}
use Rattle.spec.specs.SwitchLog.{logged_size, switch_log, not_whole, broken_log}
use Rattle.spec.specs.Tariff.{band_size, insert_bytes, broken_tariff, wrong_logged, small_for_inserts, tariff_fault, price_outcome, price_buffer}
use Rattle.laws.specs.Codec.Tools.{or_else_none, numbered-none, failed}
use Rattle.laws.specs.Priced.{prices-calls}
use Rattle.wire.specs.Comes.{Comes}
use Rattle.switchlog.specs.Parts.{then_some-when}
use Rattle.tariff.specs.Call.{Settled, log_fault, bands_fault}

-- a fault that is told comes before what is behind it; one that is not there lets that through
pub first : {f : Fault} {o : Option Fault} (x : Option Fault) → Some f ≡ o → or_else o x ≡ Some f
unfolding or_else
first x e = rw (← e)

pub later : {o : Option Fault} (x : Option Fault) → None ≡ o → or_else o x ≡ x
unfolding or_else
later x e = rw (← e)

-- 11
pub small : (room n : ℕ) (l : List ℕ) → length (switch_log l) ≡ n → then_some (ltb room (op_size * n)) 0 ≡ small_for_inserts room l
unfolding small_for_inserts
small room n l e = rw e (then_some-when _ _)

pub passed : (room : ℕ) (t l : List ℕ) → log_fault room t l ≡ None → (wrong_logged t l ≡ None) × (op_size * length (switch_log l) ≤ room)
unfolding small_for_inserts
passed room t l e = simp (or_else_none, numbered-none, failed) at e

-- the order of the checks: 1 for the tariff and for the log, then 16, and what comes behind it
pub in-order
    : (room : ℕ) (t l : List ℕ)
    → tariff_fault room t l ≡ or_else (numbered 1 (not_whole band_size t)) (or_else (numbered 1 (not_whole logged_size l)) (bands_fault room t l))
unfolding tariff_fault broken_tariff broken_log
in-order room t l = refl

-- THE CALL
pub settled
    : {fault : Option Fault} {t l s u : List ℕ} {r : Outcome}
    → AreBytes l
    → tariff_fault (length s) t l ≡ fault
    → Comes fault (insert_bytes t l) s u r
    → Settled t l s u r
unfolding price_outcome price_buffer
settled {t = t} {l = l} {s = s} bytes e c =
    record { answer = rw e c.answer; output = rw e c.buffer; priced = prices-calls (length s) t l bytes }
