-- Everyone gets done, for every accepted job given as bytes and what is read from the bytes of its result.
use Rattle.std.specs.Prelude.{ℕ, suc, ◌<◌, ◌≡◌, refl, List, [], ◌∷◌, length, get_or}
use Rattle.std.proofs.Common.{ap, ◌∙◌, arith}
use Rattle.spec.specs.declared.Stage.TheVariants.{Done}
use Rattle.spec.specs.Job.{Job}
use Rattle.spec.specs.Decode.{job_of}
use Rattle.spec.specs.State.{Row, gone}
use Rattle.spec.specs.Run.{row_of, stage_of, run}
use Rattle.spec.specs.Result.{under_way, count_under, result_of, result}
use Rattle.spec.specs.Proper.{FileOk}
use Rattle.spec.specs.MostTurns.{under}
use Rattle.spec.specs.Rounds.{AllDone, Complete, GetsDone, EveryoneGetsDone}
use Rattle.laws.specs.Tools.{if-false}
use Rattle.laws.specs.Codec.Accepted.{accepted-file}
use Rattle.laws.specs.Turns.Whole.{end_whole}
use Rattle.laws.specs.Turns.Theorem.{finished-answered}
use Rattle.laws.specs.Turns.Again.{final_file}
use Rattle.laws.specs.Turns.Rounds.{under-stay, in_turn_lem, round-more, sharp-rounds, most-rounds, search_rounds}
use Rattle.laws.specs.ReadBack.{reads}

-- none is under way where all are finished
count_none : (rs : List Row) → ((i : ℕ) → i < length rs → (get_or rs i gone).stage ≡ Done) → count_under rs ≡ 0
unfolding count_under under_way
count_none [] h = refl
count_none (r ∷ rs) h = if-false _ _ (ap under_way (h 0 (omega arith))) ∙ count_none rs (λ i l. h (suc i) (omega arith))

module _ (j : Job) (ok : FileOk j.file) where
  -- where all are finished the result lacks nothing
  complete : AllDone j (run j) → Complete j (result j)
  unfolding result result_of stage_of row_of
  complete done = record { answered = λ i l. finished-answered j ok i l (done i l); ended = ended; file = final_file j ended }
    where
      ended : (result j).unended ≡ 0
      ended = count_none (run j).rows (λ i l. done i (rw (end_whole j ok).rows at l))

  gets_done : GetsDone j (result j)
  unfolding under
  gets_done =
      record {
        finish = most-rounds j ok;
        sooner = sharp-rounds j ok;
        searches = search_rounds j ok;
        stay = under-stay j;
        fewer = round-more j;
        in_turns = in_turn_lem j;
        complete = complete;
        answers = λ k l r. complete (most-rounds j ok k j.turns l r);
      }

-- EVERYONE GETS DONE
pub everyone : EveryoneGetsDone
everyone b post bytes accepted = rw (reads b bytes accepted post) (gets_done (job_of b) (accepted-file b accepted))
