-- The numbers, one by one.
use Rattle.std.proofs.Common.{List, subst, ◌≤◌, ℕ, ℤ, pos, unsigned_abs, get_or, FitsSigned, to_z, of_z, rules}
use Rattle.std.specs.Int.{w64}
use Rattle.std.proofs.lemmas.Int.{to_z-of_z}
use Rattle.irr_kvec.proofs.Products.{at_places}
use Rattle.irr_subduce.proofs.tests.are_within.Goals as goal

read : (x : ℤ) (n : ℕ) → FitsSigned w64 x → unsigned_abs (to_z w64 (of_z w64 x)) ≤ n → unsigned_abs x ≤ n
read x n f h = subst (λ y. unsigned_abs y ≤ n) (to_z-of_z w64 x f) h

pub returns : goal.returns
returns c = λ t. at_places (λ x. unsigned_abs x ≤ c.args.limit) c.args.numbers.now
    (read (get_or c.args.numbers.now 0 (pos 0)) c.args.limit (search rules) (c.is_at_most.ensures c.if-not-is_at_most.false))
    (read (get_or c.args.numbers.now 1 (pos 0)) c.args.limit (search rules) (c.is_at_most-2.ensures c.if-not-is_at_most-2.false))
    (read (get_or c.args.numbers.now 2 (pos 0)) c.args.limit (search rules) (c.is_at_most-3.ensures t))
