-- The marked items of "Jobs worked through" as one table, from job bytes to result bytes, refusal or printed text. One proof covers its rows.
-- A second table is for calls that rise, a third for the pages told with answers, a fourth for deletes at a charge, a fifth for calls that share
-- a pseudo key, a sixth for how many turns an operation uses at most, a seventh for how many rounds finish a job, and an eighth for lists dealt.
use Rattle.std.specs.Prelude.{ℕ, ◌≡◌, refl, List, [], ◌∷◌, ◌++◌, map, length, drop, replicate, Ok, Err}
use Rattle.spec.specs.declared.Rec.{Rec}
use Rattle.spec.specs.declared.Kind.{Kind}
use Rattle.spec.specs.declared.Kind.TheVariants.{Search, Insert, Delete}
use Rattle.spec.specs.Key.{pseudo_key}
use Rattle.spec.specs.File.{contents}
use Rattle.spec.specs.Decode.{job_of}
use Rattle.spec.specs.Job.{Job}
use Rattle.spec.specs.Run.{run}
use Rattle.spec.specs.Result.{Told, Result, count_under, read_result}
use Rattle.spec.specs.PlainList.{Reply, Replay}
use Rattle.spec.specs.Check.{Lent}
use Rattle.spec.specs.Outcome.{Outcome, result_bytes, outcome, buffer_after}
use Rattle.spec.specs.Report.{printed}
use Rattle.spec.specs.Deal.{dealt}
use Rattle.spec.specs.Claims.{fed}
use Rattle.spec.specs.MostTurns.{longest, most_turns, sharp_turns, under}
use Rattle.spec.specs.Rounds.{below, in_turn, most_rounds, all_turns, sharp_rounds}
use Rattle.spec.specs.Worked.{job_b, result_b, text_b, job_long, job_late, result_late, job_rest, result_rest, job_c, result_c, job_deep, result_deep, job_insert, result_d, result_e2, job_g, result_g, job_h, result_h, job_i, result_i, job_j, result_j, job_rising, result_rising, job_put, result_put, job_taken, result_taken, job_strike, result_struck, result_left, job_bursars, text_bursars}
use Rattle.spec.specs.Counted.{job_flat, job_teased, job_wide, forty}
use Rattle.spec.specs.OneKey.{job_two, result_two, job_three, result_three}
use Rattle.spec.specs.Opened.{opened}

-- what is lent: a result buffer of 1,000 bytes that are all 7, 5 rows, and the least working memory
abbrev lent : Lent
lent = record { output = 1000; rows = 5; work = 24576 }

abbrev buffer : List ℕ
buffer = replicate 1000 7

-- What a row of the table asks of the definitions, and what they say.
data Asked : Type 0 where
  key : ℕ → Asked
  job : List ℕ → Asked
  print : List ℕ → Asked
  list : List ℕ → Asked
  most : ℕ → Kind → Asked
  sharp : ℕ → Kind → Asked
  used : List ℕ → Asked
  most_all : Job → Asked
  sharp_all : Job → Asked
  after : ℕ → List ℕ → Asked
  deal : List ℕ → Asked

data Said : Type 0 where
  number : ℕ → Said
  ends : Outcome → List ℕ → Said
  bytes : List ℕ → Said
  holds : Replay → List Rec → Said
  numbers : List ℕ → Said

-- (`list`: the plain list fed the whole log, as it is read from the result's bytes, and what the file holds at the end; `used`: the turns used, as
-- they are read from them; `after`: how many operations are under way after so many rounds, every operation in turn)
abbrev says : Asked → Said
says (key call) = number (pseudo_key call)
says (job b) = ends (outcome lent b) (buffer_after lent b buffer)
says (print b) = bytes (printed b)
says (list b) =
    let r : Result = read_result (result_bytes b) in
    holds (fed (job_of b) r (length r.log)) (contents (run (job_of b)).file)
says (most g k) = number (most_turns g k)
says (sharp g k) = number (sharp_turns g k)
says (used b) = numbers (map (λ (a : Told). a.used) (read_result (result_bytes b)).answers)
says (most_all j) = number (most_rounds j)
says (sharp_all j) = number (sharp_rounds j)
says (after k b) = number (count_under (under (job_of b) (in_turn (length (job_of b).ops) k)).rows)
says (deal b) = numbers (dealt (job_of b))

record Item : Type 0 where
  asked : Asked
  paper : Said

infix 20 ◌⇒◌
abbrev ◌⇒◌ : Asked → Said → Item
a ⇒ p = record { asked = a; paper = p }

-- a result written over the lent buffer; and a refused job's, which is not written
abbrev ran : List ℕ → Said
ran r = ends (Ok (length r)) (r ++ drop (length r) buffer)

abbrev refused : ℕ → ℕ → Said
refused n p = ends (Err (record { number = n; place = p })) buffer

infix 90 ◌=>◌
abbrev ◌=>◌ : ℕ → ℕ → Rec
a => b = record { call = a; charge = b }

abbrev reply : ℕ → ℕ → Reply
reply k c = record { code = k; charge = c }

-- job E on the plain list: search 3, delete 3, search 3, insert 4
abbrev replay_b : Replay
replay_b = record { replies = reply 1 70 ∷ reply 5 70 ∷ reply 2 0 ∷ reply 3 90 ∷ []; list = 2 => 50 ∷ 4 => 90 ∷ [] }

abbrev marked : List Item
marked =
    (key 1 ⇒ number 0xfb69b604)  -- A
    ∷ (key 6 ⇒ number 0xab3d76f3)
    ∷ (key 0 ⇒ number 0x4b95f515)
    ∷ (key 0x626f6f66 ⇒ number 0x3f5076ef)  -- "as published": the call whose bytes are the text foob
    ∷ (job job_b ⇒ ran result_b)  -- B
    ∷ (print job_b ⇒ bytes text_b)
    ∷ (list job_b ⇒ holds replay_b (4 => 90 ∷ 2 => 50 ∷ []))
    ∷ (job job_c ⇒ ran result_c)  -- C
    ∷ (job (job_insert 3) ⇒ ran (result_d 8 0))  -- D
    ∷ (job (job_insert 9) ⇒ ran result_e2)  -- E2
    ∷ (job job_deep ⇒ ran result_deep)  -- (C) with calls 5 and 6
    ∷ (job (job_insert 1) ⇒ ran (result_d 4 10))  -- F
    ∷ (job job_g ⇒ ran result_g)  -- G
    ∷ (job job_h ⇒ ran result_h)  -- H
    ∷ (job (job_i 9) ⇒ refused 3 2)  -- I
    ∷ (job (job_i 8) ⇒ ran result_i)
    ∷ (job (job_j 4) ⇒ refused 10 116)  -- J
    ∷ (job (job_j 3) ⇒ ran result_j)
    ∷ []

table : map (λ (m : Item). says m.asked) marked ≡ map (λ (m : Item). m.paper) marked
unfolding opened fed
table = refl

-- "records in every page stand by rising call number .. Insert, split and delete all keep this": after a split, after an insert at the front, in the
-- middle and at the end, and after a delete
abbrev rising : List Item
rising =
    (job job_rising ⇒ ran result_rising)
    ∷ (job (job_put 0) ⇒ ran (result_put (0 ∷ 30 ∷ 1 ∷ 10 ∷ 5 ∷ 20 ∷ [])))
    ∷ (job (job_put 3) ⇒ ran (result_put (1 ∷ 10 ∷ 3 ∷ 30 ∷ 5 ∷ 20 ∷ [])))
    ∷ (job (job_put 9) ⇒ ran (result_put (1 ∷ 10 ∷ 5 ∷ 20 ∷ 9 ∷ 30 ∷ [])))
    ∷ (job job_taken ⇒ ran result_taken)
    ∷ []

in_order : map (λ (m : Item). says m.asked) rising ≡ map (λ (m : Item). m.paper) rising
unfolding opened
in_order = refl

-- "the page last read by a search, the page that holds the call at a stored insert's moment, the page read in turn (d) by the rest. For code 0 it stays
-- zero": a search that goes on from page 1 to page 2, a deletion in page 2, and each refusal of an operation in page 2
abbrev told : List Item
told = (job job_late ⇒ ran result_late) ∷ (job job_rest ⇒ ran result_rest) ∷ []

pages-told : map (λ (m : Item). says m.asked) told ≡ map (λ (m : Item). m.paper) told
unfolding opened
pages-told = refl

-- "deletes only where the file's charge is equal. Where the call is there at another charge, the answer is 9, "differs", with the file's charge .. A
-- delete with charge zero strikes out as ever": equal, another, zero asked, zero held, both zero; the highest charge, and one that differs from it
-- in a byte; a call that is missing. Then two bursars at one call: what is printed, and the plain list
abbrev deletes : List Item
deletes =
    (job (job_strike 250 5 250) ⇒ ran (result_struck 250))
    ∷ (job (job_strike 250 5 180) ⇒ ran (result_left 250 9 250))
    ∷ (job (job_strike 250 5 0) ⇒ ran (result_struck 250))
    ∷ (job (job_strike 0 5 180) ⇒ ran (result_left 0 9 0))
    ∷ (job (job_strike 0 5 0) ⇒ ran (result_struck 0))
    ∷ (job (job_strike 0xffffffff 5 0xffffffff) ⇒ ran (result_struck 0xffffffff))
    ∷ (job (job_strike 0xffffffff 5 0x00ffffff) ⇒ ran (result_left 0xffffffff 9 0xffffffff))
    ∷ (job (job_strike 250 6 250) ⇒ ran (result_left 250 6 0))
    ∷ (print job_bursars ⇒ bytes text_bursars)
    ∷ (list job_bursars ⇒ holds (record { replies = reply 9 250 ∷ reply 5 250 ∷ []; list = [] }) [])
    ∷ []

at_charge : map (λ (m : Item). says m.asked) deletes ≡ map (λ (m : Item). m.paper) deletes
unfolding opened fed
at_charge = refl

-- Two calls that share a pseudo key are told apart by their numbers; and where as many as fill a page share all 32 bits with the call that is
-- inserted, no split parts them
abbrev one_key : List Item
one_key =
    (key 474790318 ⇒ number 0x47c607a0)
    ∷ (key 141231736 ⇒ number 0x47c607a0)
    ∷ (job job_two ⇒ ran result_two)
    ∷ (key 2266965870 ⇒ number 0x0004b900)
    ∷ (key 2390834178 ⇒ number 0x0004b900)
    ∷ (key 2723606448 ⇒ number 0x0004b900)
    ∷ (job job_three ⇒ ran result_three)
    ∷ []

kept-apart : map (λ (m : Item). says m.asked) one_key ≡ map (λ (m : Item). m.paper) one_key
unfolding opened
kept-apart = refl

-- "No operation of an accepted job .. uses more than 294 (depth 8)", "No search .. more than 2g + 3"; and what is reached, at depths 0, 1 and 8
abbrev reached : List Item
reached =
    (most 8 Search ⇒ number 19)
    ∷ (most 8 Insert ⇒ number 294)
    ∷ (most 8 Delete ⇒ number 294)
    ∷ (sharp 8 Insert ⇒ number 270)
    ∷ (sharp 8 Delete ⇒ number 30)
    ∷ (used job_flat ⇒ numbers (map (sharp_turns 0) (Insert ∷ Delete ∷ Search ∷ [])))
    ∷ (used job_teased ⇒ numbers (map (sharp_turns 1) (Insert ∷ Delete ∷ Search ∷ [])))
    ∷ (used job_wide ⇒ numbers (sharp_turns 8 Insert ∷ []))
    ∷ []

most-used : map (λ (m : Item). says m.asked) reached ≡ map (λ (m : Item). m.paper) reached
unfolding opened longest most_turns sharp_turns
most-used = refl

-- "A hotel with 40 operations wants to know how long a turn list must be": how many rounds; and job E in rounds, whose searches are finished in the
-- second, the insert in the ninth, and the delete, which then has to let its page go, in the sixteenth
abbrev in_rounds : List Item
in_rounds =
    (most_all forty ⇒ number 1040)
    ∷ (sharp_all forty ⇒ number 560)
    ∷ (most_all (job_of job_b) ⇒ number 48)
    ∷ (sharp_all (job_of job_b) ⇒ number 28)
    ∷ (after 1 job_b ⇒ number 4)
    ∷ (after 2 job_b ⇒ number 2)
    ∷ (after 8 job_b ⇒ number 2)
    ∷ (after 9 job_b ⇒ number 1)
    ∷ (after 15 job_b ⇒ number 1)
    ∷ (after 16 job_b ⇒ number 0)
    ∷ []

rounds-told : map (λ (m : Item). says m.asked) in_rounds ≡ map (λ (m : Item). m.paper) in_rounds
unfolding opened longest sharp_turns under below in_turn all_turns
rounds-told = refl

-- "each unfinished operation gets one turn, and one that would only wait at that moment is passed over until the next round": for job E's operations,
-- of which the delete is passed over while the insert splits its page, and gets its turn in the round in which the insert unlocks; for (C)'s one insert;
-- for the two bursars, one of whom is passed over; and for a charge file
abbrev lists : List Item
lists =
    (deal job_h ⇒ numbers (0 ∷ 1 ∷ 2 ∷ 3 ∷ 0 ∷ 1 ∷ 3 ∷ 0 ∷ 0 ∷ 0 ∷ 0 ∷ 0 ∷ 0 ∷ 0 ∷ 2 ∷ 2 ∷ 2 ∷ 2 ∷ 2 ∷ 2 ∷ 2 ∷ 2 ∷ []))
    ∷ (deal job_c ⇒ numbers (replicate 11 0))
    ∷ (deal job_bursars ⇒ numbers (0 ∷ 1 ∷ 0 ∷ 0 ∷ 0 ∷ 0 ∷ 1 ∷ 1 ∷ 1 ∷ 1 ∷ 1 ∷ []))
    ∷ (deal (job_i 8) ⇒ numbers [])
    ∷ []

dealt-lists : map (λ (m : Item). says m.asked) lists ≡ map (λ (m : Item). m.paper) lists
unfolding opened
dealt-lists = refl

-- a list of some thousand turns computes too
long-list : says (job job_long) ≡ ran result_b
unfolding opened
long-list = refl
