use Rattle.std.proofs.Common.{◌≡◌, ◌∙◌, ap₂, subst, sym, ◌≤◌, ◌^◌, ℤ, pos, ◌+ℤ◌, ◌*ℤ◌, unsigned_abs, get_or, FitsSigned, ℕ, to_z, of_z, rules}
use Rattle.std.specs.Int.{w64, w128}
use Rattle.std.proofs.lemmas.Int.{to_z-of_z}
use Rattle.irr_kvec.proofs.Products.{at_first, at_second, at_third}
use Rattle.irr_little.proofs.phase.product.Goals as goal

small : (x : ℤ) (m : ℕ) → FitsSigned w64 x → unsigned_abs x ≤ m → unsigned_abs (to_z w64 (of_z w64 x)) ≤ m
small x m f h = subst (λ a. unsigned_abs a ≤ m) (sym (to_z-of_z w64 x f)) h

pub term-requires-clause-first : goal.term-requires-clause-first
term-requires-clause-first c = small (get_or c.args.row.now 0 (pos 0)) (2 ^ 62) (search rules) (at_first
    (λ x. unsigned_abs x ≤ 2 ^ 62) c.args.row.now c.requires.row)

pub term-requires-clause-second : goal.term-requires-clause-second
term-requires-clause-second c = small (get_or c.args.column.now 0 (pos 0)) (10 ^ 12) (search rules) (at_first
    (λ x. unsigned_abs x ≤ 10 ^ 12) c.args.column.now c.requires.column)

pub term-requires-2-clause-first : goal.term-requires-2-clause-first
term-requires-2-clause-first c = small (get_or c.args.row.now 1 (pos 0)) (2 ^ 62) (search rules) (at_second
    (λ x. unsigned_abs x ≤ 2 ^ 62) c.args.row.now c.requires.row)

pub term-requires-2-clause-second : goal.term-requires-2-clause-second
term-requires-2-clause-second c = small (get_or c.args.column.now 1 (pos 0)) (10 ^ 12) (search rules) (at_second
    (λ x. unsigned_abs x ≤ 10 ^ 12) c.args.column.now c.requires.column)

pub term-requires-3-clause-first : goal.term-requires-3-clause-first
term-requires-3-clause-first c = small (get_or c.args.row.now 2 (pos 0)) (2 ^ 62) (search rules) (at_third
    (λ x. unsigned_abs x ≤ 2 ^ 62) c.args.row.now c.requires.row)

pub term-requires-3-clause-second : goal.term-requires-3-clause-second
term-requires-3-clause-second c = small (get_or c.args.column.now 2 (pos 0)) (10 ^ 12) (search rules) (at_third
    (λ x. unsigned_abs x ≤ 10 ^ 12) c.args.column.now c.requires.column)

read : (r x y : ℤ) → FitsSigned w64 x → FitsSigned w64 y → r ≡ to_z w64 (of_z w64 x) *ℤ to_z w64 (of_z w64 y) → r ≡ x *ℤ y
read r x y g h e = e ∙ ap₂ ◌*ℤ◌ (to_z-of_z w64 x g) (to_z-of_z w64 y h)

kept : (r : ℤ) → FitsSigned w128 r → to_z w128 (of_z w128 r) ≡ r
kept r f = to_z-of_z w128 r f

pub returns-clause-value : goal.returns-clause-value
returns-clause-value c = kept c.sum.result (record { sfits = c.sum.type_inv }) ∙ c.sum.ensures.value
    ∙ ap₂ ◌+ℤ◌ (ap₂ ◌+ℤ◌
    (kept c.term.result (record { sfits = c.term.type_inv }) ∙ read c.term.result (get_or c.args.row.now 0 (pos 0)) (get_or c.args.column.now 0
    (pos 0)) (search rules) (search rules) c.term.ensures.value)
    (kept c.term-2.result (record { sfits = c.term-2.type_inv }) ∙ read c.term-2.result (get_or c.args.row.now 1 (pos 0))
    (get_or c.args.column.now 1 (pos 0)) (search rules) (search rules) c.term-2.ensures.value))
    (kept c.term-3.result (record { sfits = c.term-3.type_inv }) ∙ read c.term-3.result (get_or c.args.row.now 2 (pos 0))
    (get_or c.args.column.now 2 (pos 0)) (search rules) (search rules) c.term-3.ensures.value)
