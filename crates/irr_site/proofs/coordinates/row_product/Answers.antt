-- The numerators are small.
use Rattle.std.proofs.Common.{◌≡◌, sym, ◌∙◌, ap₂, subst, ◌≤◌, ℤ, pos, ◌+ℤ◌, ◌*ℤ◌, unsigned_abs, get_or, FitsSigned, to_z, of_z, rules}
use Rattle.std.specs.Int.{w16, w64}
use Rattle.std.proofs.lemmas.Int.{to_z-of_z}
use Rattle.irr_algebra.specs.Fin.{to_nat}
use Rattle.irr_algebra.specs.Fin.Fin.{first, next}
use Rattle.irr_site.proofs.coordinates.row_product.Goals as goal

small : (x : ℤ) → FitsSigned w64 x → unsigned_abs x ≤ 1000000 → unsigned_abs (to_z w64 (of_z w64 x)) ≤ 1000000
small x f h = subst (λ a. unsigned_abs a ≤ 1000000) (sym (to_z-of_z w64 x f)) h

pub term-requires : goal.term-requires
unfolding to_nat
term-requires c = small (get_or c.args.num.now 0 (pos 0)) (search rules) (c.requires first)

pub term-requires-2 : goal.term-requires-2
unfolding to_nat
term-requires-2 c = small (get_or c.args.num.now 1 (pos 0)) (search rules) (c.requires (next first))

pub term-requires-3 : goal.term-requires-3
unfolding to_nat
term-requires-3 c = small (get_or c.args.num.now 2 (pos 0)) (search rules) (c.requires (next (next first)))
