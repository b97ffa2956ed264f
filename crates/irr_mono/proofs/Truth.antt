-- Answers of tests.
--   is-true, not-true         true is true, and false is not
use Rattle.std.proofs.Common.{◌≡◌, Bool, true, false, IsTrue, rules}

pub is-true : (b : Bool) → b ≡ true → IsTrue b
is-true b e = search rules

pub not-true : (b : Bool) → b ≡ false → IsTrue b → ⊥
not-true b e t = search rules
