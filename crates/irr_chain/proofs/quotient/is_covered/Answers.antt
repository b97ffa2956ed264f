-- One coset more.
use Rattle.std.proofs.Common.{◌≡◌, sym, ◌∙◌, ap, true, false, get_or}
use Rattle.irr_algebra.specs.Fin.{to_nat}
use Rattle.irr_rep.specs.Twisted.{phase_table}
use Rattle.irr_chain.specs.Marks.{Marked}
use Rattle.irr_chain.specs.Quotient.{power}
use Rattle.irr_chain.proofs.Walks.{cover-more, cover-none, part-more, part-start}
use Rattle.irr_chain.proofs.quotient.is_covered.Goals as goal

pub loop-e-init : goal.loop-e-init
loop-e-init c =
    let T = phase_table c.args.t.now in
    record {
      within = c.requires.place;
      is_part = λ a b s r. sym r ∙ ap to_nat (part-start T a b);
      none = λ a b s r. cover-none T (Marked c.args.inner.now) a b;
    }

pub loop-e-preserved : goal.loop-e-preserved
loop-e-preserved c =
    let T = phase_table c.args.t.now in
    let e = c.loop-e._e in
    record {
      within = c.table-part.ensures.within;
      is_part = λ a b s r.
          c.table-part.ensures.product (T.opposite a) (T.product (T.opposite (power T a e)) b) (sym (c.inverse-back.ensures.inverse a s)) (sym (c.loop-e.invariant.is_part a b s r))
          ∙ ap to_nat (part-more T a b e);
      none = λ a b s r. cover-more T (Marked c.args.inner.now) a b e (c.loop-e.invariant.none a b s r)
          (λ m. let d : true ≡ false = sym m ∙ sym (ap (λ k. get_or c.args.inner.now k false) (c.loop-e.invariant.is_part a b s r)) ∙ c.if-inner-part.false in cc);
    }
