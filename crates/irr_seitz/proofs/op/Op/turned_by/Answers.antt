use Rattle.std.proofs.Common.{sym, subst, ◌≤◌, ◌^◌, pos, get_or, unsigned_abs, FitsSigned, rules}
use Rattle.std.specs.Int.{w64}
use Rattle.std.proofs.lemmas.Int.{to_z-of_z}
use Rattle.irr_algebra.specs.Fin.{to_nat}
use Rattle.irr_algebra.specs.Fin.Fin.{first, next}
use Rattle.irr_seitz.proofs.op.Op.turned_by.Goals as goal

pub dot-requires-clause-x : goal.dot-requires-clause-x
unfolding to_nat
dot-requires-clause-x c = let f : FitsSigned w64 (get_or c.args.self.now.num 0 (pos 0)) = search rules in subst (λ a. unsigned_abs a ≤ 10 ^ 12) (sym (to_z-of_z w64 _ f)) (c.requires first)

pub dot-requires-clause-y : goal.dot-requires-clause-y
unfolding to_nat
dot-requires-clause-y c = let f : FitsSigned w64 (get_or c.args.self.now.num 1 (pos 0)) = search rules in subst (λ a. unsigned_abs a ≤ 10 ^ 12) (sym (to_z-of_z w64 _ f)) (c.requires (next first))

pub dot-requires-clause-z : goal.dot-requires-clause-z
unfolding to_nat
dot-requires-clause-z c = let f : FitsSigned w64 (get_or c.args.self.now.num 2 (pos 0)) = search rules in subst (λ a. unsigned_abs a ≤ 10 ^ 12) (sym (to_z-of_z w64 _ f)) (c.requires (next (next first)))
