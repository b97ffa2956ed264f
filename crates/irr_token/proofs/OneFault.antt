-- A list of numbers has one first fault.
--   zero-unique, beyond-unique      the place of the first number that is 0, or beyond its limit
--   zero-none, beyond-none          where there is one, not all are different from 0, or within their limits
use Rattle.std.proofs.Common.{◌≡◌, sym, ◌∙◌, ℕ, ◌<◌, ◌≤◌, List, [], ◌∷◌, inl, inr, arith}
use Rattle.irr_token.specs.Token.{PlacedNumber, value_of}
use Rattle.irr_token.specs.Fault.{Limited, AreNotZero, IsFirstZero, AreWithin, IsFirstBeyond}

pub zero-unique : (ns : List PlacedNumber) (p q : ℕ) → IsFirstZero ns p → IsFirstZero ns q → p ≡ q
zero-unique [] p q a b = absurd a
zero-unique (n ∷ ns) p q (inl a) (inl b) = a.1 ∙ sym b.1
zero-unique (n ∷ ns) p q (inl a) (inr b) = let e = a.0 in let l : 0 < value_of n = b.0 in absurd (omega (arith, e, l))
zero-unique (n ∷ ns) p q (inr a) (inl b) = let e = b.0 in let l : 0 < value_of n = a.0 in absurd (omega (arith, e, l))
zero-unique (n ∷ ns) p q (inr a) (inr b) = zero-unique ns p q a.1 b.1

pub zero-none : (ns : List PlacedNumber) (p : ℕ) → IsFirstZero ns p → AreNotZero ns → ⊥
zero-none [] p a b = a
zero-none (n ∷ ns) p (inl a) b = let e = a.0 in let l : 0 < value_of n = b.0 in omega (arith, e, l)
zero-none (n ∷ ns) p (inr a) b = zero-none ns p a.1 b.1

pub beyond-unique : (ls : List Limited) (p q : ℕ) → IsFirstBeyond ls p → IsFirstBeyond ls q → p ≡ q
beyond-unique [] p q a b = absurd a
beyond-unique (l ∷ ls) p q (inl a) (inl b) = a.1 ∙ sym b.1
beyond-unique (l ∷ ls) p q (inl a) (inr b) = let x : l.limit < value_of l.number = a.0 in let y : value_of l.number ≤ l.limit = b.0 in absurd (omega (arith, x, y))
beyond-unique (l ∷ ls) p q (inr a) (inl b) = let x : l.limit < value_of l.number = b.0 in let y : value_of l.number ≤ l.limit = a.0 in absurd (omega (arith, x, y))
beyond-unique (l ∷ ls) p q (inr a) (inr b) = beyond-unique ls p q a.1 b.1

pub beyond-none : (ls : List Limited) (p : ℕ) → IsFirstBeyond ls p → AreWithin ls → ⊥
beyond-none [] p a b = a
beyond-none (l ∷ ls) p (inl a) b = let x : l.limit < value_of l.number = a.0 in let y : value_of l.number ≤ l.limit = b.0 in omega (arith, x, y)
beyond-none (l ∷ ls) p (inr a) b = beyond-none ls p a.1 b.1
