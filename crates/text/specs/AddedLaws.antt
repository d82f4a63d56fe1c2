-- Laws of `Added`: nothing, one text behind another; the text by another name, a wider bound; the room that is left.
use Rattle.std.specs.Prelude.{◌≡◌, refl, List, [], ◌++◌, ℕ, ◌+◌, ◌≤◌}
use Rattle.std.proofs.Common.{◌∙◌, arith}
use Rattle.wire.specs.WroteLaws as law
use Rattle.text.specs.declared.Text.{Text}
use Rattle.text.specs.Added.{Added, Room}

pub none : (t : Text) → Added 0 [] t t
none t = record { lent = refl; kept = refl; wrote = law.none t.out.now t.len }

pub then : {k l : ℕ} {x y : List ℕ} {a b c : Text} → Added k x a b → Added l y b c → Added (k + l) (x ++ y) a c
then p q = record { lent = q.lent ∙ p.lent; kept = q.kept ∙ p.kept; wrote = law.then p.wrote q.wrote }

pub same : {k : ℕ} {x y : List ℕ} {a b : Text} → x ≡ y → Added k x a b → Added k y a b
same e p = rw e at p

pub wider : {k l : ℕ} {x : List ℕ} {a b : Text} → k ≤ l → Added k x a b → Added l x a b
wider h p = record { lent = p.lent; kept = p.kept; wrote = law.wider h p.wrote }

-- behind what was put there is room for m bytes more
pub room : {k : ℕ} {x : List ℕ} {a b : Text} (m : ℕ) → Added k x a b → Room (k + m) a → Room m b
room m p h = omega (arith, p.kept, p.wrote.near)
