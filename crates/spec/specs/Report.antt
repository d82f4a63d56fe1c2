-- "Jobs worked through": what `chargelog` prints, as bytes.
use Rattle.std.specs.Prelude.{ℕ, zero, suc, ◌+◌, ◌/◌, ◌%◌, List, [], ◌∷◌, ◌++◌, length, get_or, ltb, Option, None, Some}
use Rattle.spec.specs.declared.Rec.{Rec}
use Rattle.spec.specs.declared.Op.{Op}
use Rattle.spec.specs.declared.Kind.{Kind}
use Rattle.spec.specs.declared.Kind.TheVariants.{Search, Insert, Delete}
use Rattle.spec.specs.Basics.{if, each}
use Rattle.spec.specs.Bytes.{text}
use Rattle.spec.specs.File.{Page, pages_in_use}
use Rattle.spec.specs.Job.{Job, no_op}
use Rattle.spec.specs.Decode.{file_of, job_of}
use Rattle.spec.specs.Result.{Told, Line, Result, result}
use Rattle.spec.specs.Check.{Fault, job_fault}

-- the decimal digits of n before those of acc; `fuel` above n is enough
unfoldable pub digits : ℕ → ℕ → List ℕ → List ℕ
digits zero n acc = acc
digits (suc fuel) n acc =
    let more = digits fuel (n / 10) ((48 + n % 10) ∷ acc) in
    if (ltb n 10) ((48 + n) ∷ acc) more

unfoldable pub decimal : ℕ → List ℕ
decimal n = digits (suc n) n []

abbrev pub newline : List ℕ
newline = 10 ∷ []

unfoldable pub kind_word : Kind → List ℕ
kind_word Search = text "search"
kind_word Insert = text "insert"
kind_word Delete = text "delete"

-- "0 not yet, 1 found, 2 none, 3 stored, 4 already there, 5 deleted, 6 absent, 7 no depth, 8 no page"; "9, "differs""
abbrev pub code_words : List (List ℕ)
code_words =
    text "not yet"
    ∷ text "found"
    ∷ text "none"
    ∷ text "stored"
    ∷ text "already there"
    ∷ text "deleted"
    ∷ text "absent"
    ∷ text "no depth"
    ∷ text "no page"
    ∷ text "differs"
    ∷ []

unfoldable pub code_word : ℕ → List ℕ
code_word k = get_or code_words k []

-- "The `job` line has g, c, P, m and the turn count"
unfoldable pub job_line : Job → List ℕ
job_line j =
    text "job depth " ++ decimal j.file.g
    ++ text " capacity " ++ decimal j.file.c
    ++ text " pages " ++ decimal j.file.limit
    ++ text " operations " ++ decimal (length j.ops)
    ++ text " turns " ++ decimal (length j.turns)
    ++ newline

-- "an `op` line has number, kind, call, answer in words, charge, turns used"
unfoldable pub op_line : ℕ → Op → Told → List ℕ
op_line i o a =
    text "op " ++ decimal i
    ++ text " " ++ kind_word o.kind
    ++ text " " ++ decimal o.call
    ++ text " " ++ code_word a.code
    ++ text " " ++ decimal a.charge
    ++ text " turns " ++ decimal a.used
    ++ newline

unfoldable pub op_lines : ℕ → List Op → List Told → List ℕ
op_lines i ops [] = []
op_lines i ops (a ∷ rest) = op_line i (get_or ops i no_op) a ++ op_lines (suc i) ops rest

-- "an `at` line has moment and operation"
unfoldable pub at_line : Line → List ℕ
at_line l = text "at " ++ decimal l.moment ++ text " op " ++ decimal l.op ++ newline

-- "ends in call=charge for each record, in the page's order"
unfoldable pub record_word : Rec → List ℕ
record_word r = text " " ++ decimal r.call ++ text "=" ++ decimal r.charge

unfoldable pub page_line : ℕ → Page → List ℕ
page_line x p =
    text "page " ++ decimal x
    ++ text " depth " ++ decimal p.depth
    ++ text " pattern " ++ decimal p.pattern
    ++ text " :" ++ each record_word p.records
    ++ newline

unfoldable pub page_lines : ℕ → List Page → List ℕ
page_lines x [] = []
page_lines x (p ∷ ps) = page_line x p ++ page_lines (suc x) ps

-- "a `page` line, only with a charge file and for pages in use"
unfoldable pub pages_part : Option (List ℕ) → List ℕ
pages_part None = []
pages_part (Some f) = page_lines 1 (pages_in_use (file_of f))

unfoldable pub report : Job → Result → List ℕ
report j r = job_line j ++ op_lines 0 j.ops r.answers ++ each at_line r.log ++ pages_part r.file

-- "A refused job prints one line: `refused`, number, place"
unfoldable pub refused_line : Fault → List ℕ
refused_line f = text "refused " ++ decimal f.number ++ text " " ++ decimal f.place ++ newline

unfoldable pub printed_by : Option Fault → List ℕ → List ℕ
printed_by None b = report (job_of b) (result (job_of b))
printed_by (Some f) b = refused_line f

-- (`chargelog` lends enough for every job, so that row 11 never holds)
unfoldable pub printed : List ℕ → List ℕ
printed b = printed_by (job_fault b) b
