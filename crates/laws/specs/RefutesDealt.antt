-- A test that fails refutes the claim: where a field of `DealtWell` or of `DealtWritten` holds, the test of that name in WeighedDealt is true. As in
-- Refutes, each is shown from the field's statement alone, whatever the machine is and whatever list is dealt.
use Rattle.std.specs.Prelude.{ℕ, ◌≡◌, true, length}
use Rattle.std.proofs.Math.Path.{ap}
use mathlib.Core.List.{List, []}
use Rattle.std.proofs.Math.Bool.{not}
use Rattle.std.proofs.Common.{arith}
use Rattle.std.proofs.Math.Dec.{eqb}
use borrow.Author.Tests.{eqb-true, le-leb, not-false}
use Rattle.spec.specs.Encode.{encode_job}
use Rattle.spec.specs.Decode.{job_of}
use Rattle.spec.specs.Dealt.{DealtWritten}
use Rattle.laws.specs.Tools.{is_some}
use Rattle.laws.specs.Codec.Quiet.{no_member}
use Rattle.laws.specs.Refutes.{is_not_lem, is_or, eqb_same, every_true, same_true, says-done, says_waits}
use Rattle.laws.specs.Weighed.{is_done}
use Rattle.laws.specs.RefutesRounds.{lacks_nothing_true}
use Rattle.laws.specs.WeighedDealt.{every_turn, no_wait, unfinished, fits, done, whole, empty, accepted, says, bytes, complete}

-- The fields, in the claim's order.
module _ (b : List ℕ) (e : DealtWritten b) where
  no_wait-true : no_wait b ≡ true
  unfolding no_wait every_turn
  no_wait-true = every_true _ _ (λ t l. is_not_lem (λ w. e.list.no_wait t l (says_waits _ _ w)))

  unfinished-true : unfinished b ≡ true
  unfolding unfinished every_turn
  unfinished-true = every_true _ _ (λ t l. is_not_lem (λ d. e.list.unfinished t l (says-done _ d)))

  fits-true : fits b ≡ true
  unfolding fits
  fits-true = le-leb _ _ e.list.fits

  done-true : done b ≡ true
  unfolding done is_done
  done-true = every_true _ _ (λ i l. ap is_done (e.list.done i l))

  whole-true : whole b ≡ true
  unfolding whole
  whole-true = same_true eqb eqb_same (e.list.whole _ (omega arith))

  empty-true : empty b ≡ true
  unfolding empty
  empty-true = is_or (λ t. ap (λ (ts : List ℕ). eqb (length ts) 0) (e.list.empty (no_member (job_of b).ops (eqb-true _ _ (not-false _ t)))))

  accepted-true : accepted b ≡ true
  unfolding accepted is_some
  accepted-true = ap (λ o. not (is_some o)) e.accepted

  says-true : says b ≡ true
  unfolding says
  says-true = same_true eqb eqb_same (ap encode_job e.says)

  bytes-true : bytes b ≡ true
  unfolding bytes
  bytes-true = same_true eqb eqb_same e.bytes

  complete-true : complete b ≡ true
  unfolding complete
  complete-true = lacks_nothing_true _ _ (e.complete [])

  -- all of them
  pub dealt_passes
      : (no_wait b ≡ true)
      × (unfinished b ≡ true)
      × (fits b ≡ true)
      × (done b ≡ true)
      × (whole b ≡ true)
      × (empty b ≡ true)
      × (accepted b ≡ true)
      × (says b ≡ true)
      × (bytes b ≡ true)
      × (complete b ≡ true)
  dealt_passes = (no_wait-true, unfinished-true, fits-true, done-true, whole-true, empty-true, accepted-true, says-true, bytes-true, complete-true)
