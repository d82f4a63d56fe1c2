-- The operations of a round, one after another: none, and one operation more.
use mathlib.Core.Path.{◌≡◌, refl, sym, subst}
use mathlib.Core.List.{List}
use Prim.Native.Nat.{ℕ, ◌+◌}
use native.Mathlib.Numerals.{add-one}
use Rattle.header.specs.declared.Header.{Header}
use Rattle.rounds.specs.OnTable.{Dealing, give_to, give_up_to}

pub none_given : (h : Header) (b : List ℕ) (u : Dealing) → give_up_to h b 0 u ≡ u
unfolding give_up_to
none_given h b u = refl

pub one_more : (h : Header) (b : List ℕ) (k : ℕ) (u : Dealing) → give_to h b k (give_up_to h b k u) ≡ give_up_to h b (k + 1) u
unfolding give_up_to
one_more h b k u = subst (λ (j : ℕ). give_to h b k (give_up_to h b k u) ≡ give_up_to h b j u) (sym (add-one k)) refl
