-- Byte strings: every number in them is below 256. What is written of a proper job is one.
use Rattle.std.specs.Prelude.{ℕ, ◌-◌, ◌*◌, ◌/◌, ◌%◌, ◌<◌, ◌≤◌, List, [], ◌∷◌, ◌++◌, length, get_or, replicate}
use Rattle.std.proofs.Common.{arith}
use Rattle.spec.specs.declared.Kind.{Kind}
use Rattle.spec.specs.declared.Kind.TheVariants.{Search, Insert, Delete}
use Rattle.spec.specs.declared.Rec.{Rec}
use Rattle.spec.specs.declared.Op.{Op}
use Rattle.spec.specs.Basics.{each, Each, end, next}
use Rattle.spec.specs.Bytes.{AreBytes, two, four}
use Rattle.spec.specs.File.{Page}
use Rattle.spec.specs.Job.{Job, Header, kind_number, record_size, max_depth, max_capacity}
use Rattle.spec.specs.Encode.{header_bytes, record_bytes, page_bytes, op_bytes, header_for, encode_job}
use Rattle.spec.specs.Proper.{PageOk}
use Rattle.laws.specs.Tools.{each_imp, each_append, replicate_all}
use Rattle.laws.specs.Codec.Tools.{every, each_places}
use Rattle.laws.specs.Codec.Proper.{JobProper, pages_proper}

-- a byte string, by its places
pub are_bytes : (b : List ℕ) → ((k : ℕ) → get_or b k 0 < 256) → AreBytes b
are_bytes b h = (each_places b 0).1 (λ k l. h k)

infixl 60 ◌and◌
◌and◌ : {x y : List ℕ} → AreBytes x → AreBytes y → AreBytes (x ++ y)
h and k = each_append _ _ h k

pair_are : (x y : ℕ) → x < 256 → y < 256 → AreBytes (x ∷ y ∷ [])
pair_are x y l u = next l (next u end)

two_are : (n : ℕ) → AreBytes (two n)
unfolding two
two_are n = pair_are (n % 256) (n / 256 % 256) (omega arith) (omega arith)

four_are : (n : ℕ) → AreBytes (four n)
unfolding four
four_are n = two_are _ and two_are _

zeros_are : (n : ℕ) → AreBytes (replicate n 0)
zeros_are n = are_bytes _ (replicate_all (λ x. x < 256) n 0 0 (omega arith) (omega arith))

each_are : {A : Type 0} {enc : A → List ℕ} {xs : List A} → Each (λ x. AreBytes (enc x)) xs → AreBytes (each enc xs)
unfolding each
each_are end = end
each_are (next h t) = h and each_are t

record_are : (r : Rec) → AreBytes (record_bytes r)
unfolding record_bytes
record_are r = four_are _ and four_are _

page_are : {g c : ℕ} → g ≤ max_depth → c ≤ max_capacity → (p : Page) → PageOk g c p → AreBytes (page_bytes c p)
unfolding page_bytes
page_are {c = c} l u p ok =
    pair_are p.depth (length p.records) (omega (arith, ok.deep)) (omega (arith, ok.room))
    and two_are _
    and each_are (every record_are p.records)
    and zeros_are (record_size * (c - length p.records))

op_are : (o : Op) → AreBytes (op_bytes o)
unfolding op_bytes kind_number
op_are o = pair_are (kind_number o.kind) 0 (kind o.kind) (omega arith) and four_are _ and four_are _
  where
    kind : (k : Kind) → kind_number k < 256
    kind Search = omega arith
    kind Insert = omega arith
    kind Delete = omega arith

header_are : (h : Header) → h.g ≤ max_depth → h.c ≤ max_capacity → AreBytes (header_bytes h)
unfolding header_bytes
header_are h l u =
    two_are _ and pair_are h.g h.c (omega arith) (omega arith) and two_are _ and two_are _ and two_are _ and two_are _
    and four_are _ and four_are _ and four_are _ and four_are _ and four_are _

-- A WRITTEN JOB IS A BYTE STRING
pub written-bytes : (j : Job) → JobProper j → AreBytes (encode_job j)
unfolding encode_job header_for
written-bytes j P =
    let f = P.file.fit in
    header_are _ f.depth f.capacity.1
    and each_are (every two_are j.file.directory)
    and each_are (each_imp (page_are f.depth f.capacity.1) (pages_proper j.file P.file))
    and each_are (every op_are j.ops)
    and each_are (every two_are j.turns)
