-- What the lines say of the bytes that they are written from, piece by piece. No contract cites this file.
use Rattle.std.proofs.Common.{◌≡◌, refl, List, ◌++◌, ℕ, append_assoc}
use Rattle.spec.specs.Bytes.{byte, word, long, text}
use Rattle.spec.specs.Job.{kind_of}
use Rattle.spec.specs.Decode.{header_of, op_of, file_of, job_of}
use Rattle.spec.specs.Report.{decimal, newline, kind_word, code_word, job_line, op_line, at_line}
use Rattle.spec.specs.Result.{answer_of, line_of}
use Rattle.laws.specs.Codec.Rows.{counted}

pub job_said
    : (b : List ℕ) (g c limit ops turns : ℕ)
    → g ≡ byte b 2
    → c ≡ byte b 3
    → limit ≡ word b 4
    → ops ≡ word b 8
    → turns ≡ word b 10
    → (text "job depth " ++ decimal g)
    ++ (text " capacity " ++ decimal c)
    ++ (text " pages " ++ decimal limit)
    ++ (text " operations " ++ decimal ops)
    ++ (text " turns " ++ decimal turns)
    ++ newline
    ≡ job_line (job_of b)
unfolding job_line job_of file_of header_of
job_said b g c limit ops turns is-g is-c is-limit is-ops is-turns =
    let n = counted b in
    rw (is-g, is-c, is-limit, is-ops, is-turns, n.ops, n.turns) (simp append_assoc refl)

pub op_said
    : (i : ℕ) (o a kind code : List ℕ) (call charge used : ℕ)
    → kind ≡ kind_word (kind_of (byte o 0))
    → call ≡ long o 2
    → code ≡ code_word (byte a 0)
    → charge ≡ long a 4
    → used ≡ word a 2
    → (text "op " ++ decimal i)
    ++ text " "
    ++ kind
    ++ (text " " ++ decimal call)
    ++ text " "
    ++ code
    ++ (text " " ++ decimal charge)
    ++ (text " turns " ++ decimal used)
    ++ newline
    ≡ op_line i (op_of o) (answer_of a)
unfolding op_line op_of answer_of
op_said i o a kind code call charge used is-kind is-call is-code is-charge is-used =
    rw (is-kind, is-call, is-code, is-charge, is-used) (simp append_assoc refl)

pub at_said
    : (l : List ℕ) (moment op : ℕ)
    → moment ≡ word l 0
    → op ≡ word l 2
    → (text "at " ++ decimal moment) ++ (text " op " ++ decimal op) ++ newline ≡ at_line (line_of l)
unfolding at_line line_of
at_said l moment op is-moment is-op = rw (is-moment, is-op) (simp append_assoc refl)
