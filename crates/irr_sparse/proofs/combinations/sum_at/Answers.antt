-- One term, or none.
use Rattle.std.proofs.Common.{sym, subst, ℕ, ◌<◌, ◌^◌, arith}
use Rattle.irr_sparse.specs.TermList.{AreTerms}
use Rattle.irr_sparse.proofs.Lists.{terms-none}
use Rattle.irr_sparse.proofs.Pairs.{pair-none, pair-one, pair-terms}
use Rattle.irr_sparse.proofs.Words.{sum_ne_zero, sum_read, sum_zero}
use Rattle.irr_sparse.proofs.combinations.sum_at.Goals as goal

wider : (n : ℕ) → n < 2 ^ 126 → n < 2 ^ 127
wider n h = omega (arith, h)

pub returns-then-sum-eq0-clause-terms : goal.returns-then-sum-eq0-clause-terms
returns-then-sum-eq0-clause-terms c = λ n t. subst (AreTerms n 0) (sym c.new.ensures.items) (terms-none n 0)

pub returns-then-sum-eq0-clause-sum : goal.returns-then-sum-eq0-clause-sum
returns-then-sum-eq0-clause-sum c = λ n. pair-none n c.args.exponent c.args.first c.args.second c.new.result.items c.new.ensures.items (sum_zero c.args.first c.args.second (wider _ c.requires) c.if-sum-eq0.true)

pub returns-clause-terms : goal.returns-clause-terms
returns-clause-terms c = λ n t. pair-terms n c.args.exponent c.args.first c.args.second c.from_buf.result.items _ c.from_buf.ensures.items (sum_read c.args.first c.args.second (wider _ c.requires)) (sum_ne_zero c.args.first c.args.second (wider _ c.requires) c.if-sum-eq0.false) t

pub returns-clause-sum : goal.returns-clause-sum
returns-clause-sum c = λ n. pair-one n c.args.exponent c.args.first c.args.second c.from_buf.result.items _ c.from_buf.ensures.items (sum_read c.args.first c.args.second (wider _ c.requires))
