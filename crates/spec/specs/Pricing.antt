-- The tariff by computation: the classes of the hours, charges at the edges of their rules, and calls with each refusal and the buffer afterwards.
use Rattle.std.specs.Prelude.{ℕ, ◌+◌, ◌*◌, ◌≡◌, refl, List, [], ◌∷◌, ◌++◌, map, set, take, replicate, Ok, Err}
use Rattle.spec.specs.Basics.{each}
use Rattle.spec.specs.Bytes.{two, four}
use Rattle.spec.specs.SwitchLog.{Logged}
use Rattle.spec.specs.Tariff.{Band, charge_in, price_outcome, price_buffer}
use Rattle.spec.specs.Outcome.{Outcome}
use Rattle.spec.specs.Opened.{opened}

-- a call of band 7, with this start and so many seconds talked
abbrev talk : ℕ → ℕ → Logged
talk start talked = record { call = 1; extension = 300; band = 7; spare = 0; start = start; talked = talked }

-- ---- the classes

-- a band that tells the class: the first second costs 0, 1 or 2
abbrev telling : Band
telling = record { code = 7; free = 0; unit = 1; fee = 0; prices = 0 ∷ 1 ∷ 2 ∷ [] }

abbrev hours : List ℕ
hours = 0 ∷ 1 ∷ 2 ∷ 3 ∷ 4 ∷ 5 ∷ 6 ∷ 7 ∷ 8 ∷ 9 ∷ 10 ∷ 11 ∷ 12 ∷ 13 ∷ 14 ∷ 15 ∷ 16 ∷ 17 ∷ 18 ∷ 19 ∷ 20 ∷ 21 ∷ 22 ∷ 23 ∷ []

abbrev paper_classes : List ℕ
paper_classes = 0 ∷ 0 ∷ 0 ∷ 0 ∷ 0 ∷ 0 ∷ 0 ∷ 1 ∷ 2 ∷ 2 ∷ 2 ∷ 2 ∷ 2 ∷ 2 ∷ 2 ∷ 2 ∷ 2 ∷ 2 ∷ 1 ∷ 1 ∷ 0 ∷ 0 ∷ 0 ∷ 0 ∷ []

-- each hour at its first and at its last second, on the month's first day and on its thirty-first
classes
    : (map (λ (h : ℕ). charge_in telling (talk (3600 * h) 1)) hours ≡ paper_classes)
    × (map (λ (h : ℕ). charge_in telling (talk (3600 * h + 3599) 1)) hours ≡ paper_classes)
    × (map (λ (h : ℕ). charge_in telling (talk (3600 * (720 + h)) 1)) hours ≡ paper_classes)
    × (map (λ (h : ℕ). charge_in telling (talk (3600 * (720 + h) + 3599) 1)) hours ≡ paper_classes)
unfolding opened
classes = (refl, refl, refl, refl)

-- ---- charges

-- 10 free seconds, units of 60, a fee of 25, prices 2, 3 and 5
abbrev plain : Band
plain = record { code = 7; free = 10; unit = 60; fee = 25; prices = 2 ∷ 3 ∷ 5 ∷ [] }

-- the longest unit, and all free seconds there can be
abbrev wide : Band
wide = record { code = 7; free = 255; unit = 3600; fee = 0; prices = 1 ∷ 1 ∷ 1 ∷ [] }

-- no free seconds, units of a second, with a fee and one price
abbrev steep : ℕ → ℕ → Band
steep fee price = record { code = 7; free = 0; unit = 1; fee = fee; prices = price ∷ price ∷ price ∷ [] }

record Talk : Type 0 where
  band : Band
  start : ℕ
  talked : ℕ
  paper : ℕ

abbrev item : Band → ℕ → ℕ → ℕ → Talk
item b s n c = record { band = b; start = s; talked = n; paper = c }

abbrev talks : List Talk
talks =
    item plain 0 0 0  -- no seconds talked
    ∷ item plain 0 1 25  -- within the free seconds: the fee
    ∷ item plain 0 10 25  -- the last free second
    ∷ item plain 0 11 27  -- and the next: a unit has started
    ∷ item plain 0 70 27  -- the unit's last second
    ∷ item plain 0 71 29  -- and the next
    ∷ item plain 25199 11 27  -- the last second of hour 6, cheap
    ∷ item plain 25200 11 28  -- and the next, standard
    ∷ item plain 28799 71 31  -- the start's hour counts: the call ends in hour 8
    ∷ item plain 28800 11 30  -- dear
    ∷ item plain 2674800 11 27  -- the first second of the month's last hour, number 743
    ∷ item plain 2678399 71 29  -- and the last
    ∷ item plain 2678400 11 27  -- past 31 days, hours go on: 744 is hour 0
    ∷ item plain 2707200 11 30  -- and 752 hour 8
    ∷ item plain 4294967295 4294967295 143165603  -- the last second there is: hour 6
    ∷ item wide 0 255 0  -- without a fee the free seconds cost nothing
    ∷ item wide 0 256 1
    ∷ item wide 0 3855 1
    ∷ item wide 0 3856 2
    ∷ item (steep 0 1) 0 4294967295 4294967295  -- 2^32 − 1
    ∷ item (steep 1 1) 0 4294967295 4294967296  -- and one more
    ∷ item (steep 4294967295 4294967295) 0 4294967295 18446744069414584320  -- the largest: 2^64 − 2^32
    ∷ []

charges : map (λ (k : Talk). charge_in k.band (talk k.start k.talked)) talks ≡ map (λ (k : Talk). k.paper) talks
unfolding opened
charges = refl

-- ---- calls

abbrev band_bytes : ℕ → ℕ → ℕ → ℕ → ℕ → ℕ → ℕ → List ℕ
band_bytes code free unit fee cheap standard dear = (code ∷ free ∷ []) ++ two unit ++ four fee ++ four cheap ++ four standard ++ four dear

abbrev logged_bytes : ℕ → ℕ → ℕ → ℕ → List ℕ
logged_bytes call band start talked = four call ++ two 300 ++ (band ∷ 0 ∷ []) ++ four start ++ four talked

-- bands 7 and 9
abbrev tariff : List ℕ
tariff = band_bytes 7 10 60 25 2 3 5 ++ band_bytes 9 0 1 1 1 4 6

-- four calls: in hour 0, in hour 7, without seconds, and in hour 8
abbrev log : List ℕ
log = logged_bytes 5 9 0 4 ++ logged_bytes 6 7 25200 70 ++ logged_bytes 4 9 28800 0 ++ logged_bytes 3 7 28800 71

abbrev output : List ℕ
output =
    (2 ∷ 0 ∷ 5 ∷ 0 ∷ 0 ∷ 0 ∷ 5 ∷ 0 ∷ 0 ∷ 0 ∷ [])  -- insert, call 5: 1 + 4 × 1
    ++ (2 ∷ 0 ∷ 6 ∷ 0 ∷ 0 ∷ 0 ∷ 28 ∷ 0 ∷ 0 ∷ 0 ∷ [])  -- call 6: 25 + 1 × 3
    ++ (2 ∷ 0 ∷ 4 ∷ 0 ∷ 0 ∷ 0 ∷ 0 ∷ 0 ∷ 0 ∷ 0 ∷ [])
    ++ (2 ∷ 0 ∷ 3 ∷ 0 ∷ 0 ∷ 0 ∷ 35 ∷ 0 ∷ 0 ∷ 0 ∷ [])  -- call 3: 25 + 2 × 5

-- 32 bands, with the codes 0 to 23, 100 to 106 and 255. Each has its code for a fee, and costs 1 a second
abbrev full : List ℕ
full = each (λ (k : ℕ). band_bytes k 0 1 k 1 1 1) (hours ++ (100 ∷ 101 ∷ 102 ∷ 103 ∷ 104 ∷ 105 ∷ 106 ∷ 255 ∷ []))

-- What a call comes to, and what is left in a buffer of `room` bytes that are all 7 before.
record Case : Type 0 where
  tariff : List ℕ
  log : List ℕ
  room : ℕ
  outcome : Outcome
  left : List ℕ

abbrev priced : List ℕ → List ℕ → ℕ → ℕ → List ℕ → Case
priced t l room n x = record { tariff = t; log = l; room = room; outcome = Ok n; left = x }

abbrev refused : List ℕ → List ℕ → ℕ → ℕ → ℕ → Case
refused t l room n p = record { tariff = t; log = l; room = room; outcome = Err (record { number = n; place = p }); left = replicate room 7 }

abbrev cases : List Case
cases =
    priced tariff log 40 40 output
    ∷ priced tariff log 43 40 (output ++ (7 ∷ 7 ∷ 7 ∷ []))  -- bytes past the output keep their values
    ∷ priced [] [] 2 0 (7 ∷ 7 ∷ [])
    ∷ priced full [] 0 0 []
    ∷ priced full (logged_bytes 1 0 0 3 ++ logged_bytes 2 255 0 4) 20 20 (2 ∷ 0 ∷ 1 ∷ 0 ∷ 0 ∷ 0 ∷ 3 ∷ 0 ∷ 0 ∷ 0 ∷ 2 ∷ 0 ∷ 2 ∷ 0 ∷ 0 ∷ 0 ∷ 3 ∷ 1 ∷ 0 ∷ 0 ∷ [])  -- codes 0 and 255, the first and the last of 32 bands: 3 and 259
    ∷ refused (take 39 tariff) (take 63 log) 40 1 39  -- 1: the tariff is not whole bands
    ∷ refused (full ++ (0 ∷ [])) log 40 1 641
    ∷ refused (set tariff 2 0) (take 63 log) 40 1 63  -- then the log is not whole records
    ∷ refused tariff (log ++ (0 ∷ [])) 40 1 65
    ∷ refused (full ++ band_bytes 0 0 0 0 0 0 0) (set log 7 1) 0 16 660  -- 16: 33 bands
    ∷ refused (set (set tariff 20 7) 2 0) (set log 7 1) 0 16 0  -- the first band at fault
    ∷ refused (set tariff 20 7) log 40 16 20  -- an earlier band's code
    ∷ refused (set tariff 2 0) log 40 16 0  -- unit 0
    ∷ refused (set (set tariff 22 17) 23 14) log 40 16 20  -- unit 3,601
    ∷ priced (set (set tariff 22 16) 23 14) log 40 40 (set output 6 2)  -- unit 3,600
    ∷ refused tariff (set (set log 7 1) 6 8) 0 9 0  -- 9, before 14
    ∷ refused tariff (set (set log 23 1) 6 8) 0 14 0  -- 14: record by record
    ∷ refused tariff (set log 39 1) 40 9 32  -- a call of no seconds needs its zero byte
    ∷ refused tariff (set log 38 8) 40 14 32  -- and its band
    ∷ refused [] log 40 14 0
    ∷ refused (band_bytes 9 0 1 1 1 1 1) (logged_bytes 5 9 0 4294967295) 0 15 0  -- 15: a charge of 2^32
    ∷ priced (band_bytes 9 0 1 0 1 1 1) (logged_bytes 5 9 0 4294967295) 10 10 (2 ∷ 0 ∷ 5 ∷ 0 ∷ 0 ∷ 0 ∷ 255 ∷ 255 ∷ 255 ∷ 255 ∷ [])  -- 2^32 − 1
    ∷ refused (set tariff 27 1) (set (set log 15 255) 23 1) 0 15 0  -- before 9 of the next record
    ∷ refused tariff log 39 11 0  -- 11: the buffer comes last
    ∷ refused tariff (set log 38 8) 39 14 32
    ∷ []

-- the buffer before
abbrev sevens : Case → List ℕ
sevens c = replicate c.room 7

outcomes : map (λ (c : Case). price_outcome c.room c.tariff c.log) cases ≡ map (λ (c : Case). c.outcome) cases
unfolding opened
outcomes = refl

buffers : map (λ (c : Case). price_buffer c.tariff c.log (sevens c)) cases ≡ map (λ (c : Case). c.left) cases
unfolding opened
buffers = refl
