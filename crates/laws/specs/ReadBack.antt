-- Read-back: what is read from the bytes of a result is the result; its charge file is accepted as a job, and says just the file after the last turn.
use Rattle.std.specs.Prelude.{ℕ, suc, ◌^◌, ◌<◌, ◌≤◌, ◌≡◌, List, [], ◌∷◌, ◌++◌, map, length, get_or, None, Some}
use Rattle.std.proofs.Common.{sym, ◌∙◌, arith, eqb-true}
use Rattle.std.proofs.lemmas.Option.{none-some, same_Some}
use Rattle.std.proofs.lemmas.List.{length-map}
use Rattle.spec.specs.declared.Op.{Op}
use Rattle.spec.specs.Basics.{Each, end}
use Rattle.spec.specs.Bytes.{AreBytes}
use Rattle.spec.specs.File.{File}
use Rattle.spec.specs.Job.{Job, file_job, no_op}
use Rattle.spec.specs.Encode.{encode_file}
use Rattle.spec.specs.Decode.{job_of}
use Rattle.spec.specs.State.{Row, gone}
use Rattle.spec.specs.Turn.{rec_of}
use Rattle.spec.specs.Run.{row_of, run}
use Rattle.spec.specs.Result.{told_of, log_of, count_under, file_left, result_of, result, read_result}
use Rattle.spec.specs.Check.{job_fault}
use Rattle.spec.specs.Outcome.{result_bytes}
use Rattle.spec.specs.Proper.{FileOk}
use Rattle.spec.specs.Claims.{state_at, no_line, IsFile}
use Rattle.laws.specs.Tools.{if_case, each_imp, each_or, each_at}
use Rattle.laws.specs.Codec.Tools.{each_map, each_places}
use Rattle.laws.specs.Codec.Back.{RecFits}
use Rattle.laws.specs.Codec.InUse.{any_page}
use Rattle.laws.specs.Codec.Exact.{accepted_proper}
use Rattle.laws.specs.Codec.Proper.{RecordsFit, OpProper, JobProper, file_proper}
use Rattle.laws.specs.Codec.AsBytes.{written-bytes}
use Rattle.laws.specs.Codec.Written.{file-accepted, file_comes_back}
use Rattle.laws.specs.Codec.ResultBack.{ToldFits, LineFits, ResultFits, result_back}
use Rattle.laws.specs.Turns.Whole.{Whole, end_whole}
use Rattle.laws.specs.Turns.Again.{final_ok, final_file}
use Rattle.laws.specs.Turns.States.{state_at_end, run_now}
use Rattle.laws.specs.Turns.Narrow.{EveryRecord, run_every}
use Rattle.laws.specs.Turns.Fields.{cut, cut_run}
use Rattle.laws.specs.Turns.Log.{log-says, log-rows}
use Rattle.laws.specs.Turns.Sizes.{log-le, code-small}
use Rattle.laws.specs.Turns.SpentTurns.{used_end}
use Rattle.laws.specs.Turns.PageTold.{untold, told-used, page-small}
use Rattle.laws.specs.Turns.Theorem.{answer-count}

-- calls and charges keep their 32 bits through a run: those of every page, and every charge that is answered
page-records : (f : File) → FileOk f → RecordsFit f → EveryRecord RecFits f
page-records f ok fits = any_page f (λ p. Each RecFits p.records) ok end fits

op_record : (ops : List Op) → Each OpProper ops → (i : ℕ) → RecFits (rec_of (get_or ops i no_op))
op_record ops h i =
    each_or {P = λ o. RecFits (rec_of o)} ops i no_op (record { call = omega arith; charge = omega arith })
    (each_imp (λ o p. record { call = p.fits.call; charge = p.fits.charge }) h)

-- in the state before any turn t
pub narrow_at : (j : Job) → JobProper j → (t : ℕ) → EveryRecord RecFits (state_at j t).file × ((i : ℕ) → (row_of (state_at j t) i).charge < 2 ^ 32)
unfolding cut
narrow_at j h t =
    let e =
    run_every RecFits (λ c. c < 2 ^ 32) (omega arith) (λ r w. w.charge) (cut j t) (page-records j.file h.file h.records)
    (op_record j.ops h.ops) in
    rw (← cut_run j t) (e.records, e.charges)

-- and at the end
pub narrow : (j : Job) → JobProper j → EveryRecord RecFits (run j).file × ((i : ℕ) → (row_of (run j) i).charge < 2 ^ 32)
narrow j h = rw (← state_at_end j) (narrow_at j h (length j.turns))

under-le : (rs : List Row) → count_under rs ≤ length rs
unfolding count_under
under-le [] = omega arith
under-le (r ∷ rs) = if_case (λ n. n ≤ suc (length rs)) (λ e. omega (arith, under-le rs)) (λ e. omega (arith, under-le rs))

-- where there is a charge file, no operation is under way
filed_ended : (j : Job) (f : List ℕ) → (result j).file ≡ Some f → (result j).unended ≡ 0
unfolding result result_of file_left
filed_ended j f =
    if_case (λ o. o ≡ Some f → count_under (run j).rows ≡ 0) (λ t e. eqb-true _ _ t) (λ t e. absurd (none-some f e))

module _ (b : List ℕ) (bytes : AreBytes b) (accepted : job_fault b ≡ None) where
  abbrev j : Job
  j = job_of b

  proper : JobProper j
  proper = accepted_proper b bytes accepted

  w : Whole j (run j)
  w = end_whole j proper.file

  -- THE CHARGE FILE in the result is bytes, accepted as a job with no fault about them, and is the file after the last turn
  filed : (f : List ℕ) → (result j).file ≡ Some f → AreBytes f × IsFile f (run j).file
  unfolding encode_file
  filed f e =
      rw (← is_that)
      (written-bytes (file_job (run j).file) (file_proper (run j).file ok fits), (file-accepted (run j).file ok fits, file_comes_back (run j).file ok fits))
    where
      ended : (result j).unended ≡ 0
      ended = filed_ended j f e

      ok : FileOk (run j).file
      ok = final_ok j proper.file ended

      fits : RecordsFit (run j).file
      fits x n = (narrow j proper).0 x

      is_that : encode_file (run j).file ≡ f
      is_that = same_Some _ _ (sym (final_file j ended) ∙ e)

  pub file-bytes : (f : List ℕ) → (result j).file ≡ Some f → AreBytes f
  file-bytes f e = (filed f e).0

  pub read_back : (f : List ℕ) → (result j).file ≡ Some f → IsFile f (run j).file
  read_back f e = (filed f e).1

  -- the numbers of the result fit their fields
  answers-fit : Each ToldFits (map told_of (run j).rows)
  unfolding told_of row_of
  answers-fit =
      (each_map told_of (run j).rows).1
      ((each_places (run j).rows gone).1
      (λ i l.
      record {
        code = code-small j proper.file i;
        untold = untold j proper.file i;
        page = λ n. ((told-used j proper.file i n).0, page-small j proper.file i);
        used = omega (arith, used_end j proper.file i);
        charge = (narrow j proper).1 i;
      }))

  line_fits : (p : ℕ) → p < length (log_of (run j)) → LineFits (get_or (log_of (run j)) p no_line)
  line_fits p l =
      let m = log-says (run j) p l in
      record {
        moment = omega (arith, m.moment, (w.past.right _ m.code).1, run_now j, proper.turn_count);
        op = omega (arith, each_at (log_of (run j)) p no_line l (log-rows (run j)), w.rows, proper.op_count);
      }

  pub accepted-result-fits : ResultFits (length j.ops) (result j)
  unfolding result result_of
  accepted-result-fits =
      record {
        version = omega arith;
        unended = omega (arith, under-le (run j).rows, w.rows, proper.op_count);
        total = rw length-map;
        count = answer-count j proper.file;
        answers = answers-fit;
        lines = omega (arith, log-le j proper.file, proper.op_count);
        log = (each_places (log_of (run j)) no_line).1 line_fits;
        file = λ f e. (read_back f e).0;
      }

  -- WHAT IS READ from the bytes of an accepted job's result is its result, whatever stands behind them
  pub reads : (post : List ℕ) → read_result (result_bytes b ++ post) ≡ result j
  unfolding result_bytes
  reads post = result_back (length j.ops) (result j) proper.op_count accepted-result-fits post
