-- One pass over the pairs of places.
--   Pass T old new grown i j     the products of the pairs before i, j are marked
--   pass-start, pass-step, pass-row, pass-end
--   closed-marks                 marks with their products are those of a subgroup
use Rattle.std.specs.Prelude.{ℕ, ◌≡◌, ◌<◌, ◌≤◌, ◌+◌, ◌⊎◌, List, Bool, true, false}
use Rattle.std.proofs.Common.{sym, ◌∙◌, ap, subst, refl, inl, inr, arith}
use Rattle.irr_algebra.specs.Fin.{Fin, to_nat}
use Rattle.irr_algebra.proofs.Indices.{to_nat-lt}
use Rattle.irr_number.specs.SumLaws.{same_or_not}
use Rattle.irr_space.specs.PhaseTable.{PhaseTable}
use Rattle.irr_chain.specs.Marks.{IsMarked, Marked, Grows, unmarked}
use Rattle.irr_chain.specs.Quotient.{IsClosed}
use Rattle.irr_chain.proofs.GroupLaws.{closed_from_products}
use Rattle.irr_chain.proofs.Markings.{grows-same, grows-join}

-- the pair stands before i, j
abbrev pub Earlier : ℕ → ℕ → ℕ → ℕ → Type 0
Earlier i j a b = (a < i) ⊎ ((a ≡ i) × (b < j))

pub record Pass {h : ℕ} (T : PhaseTable h) (old new : List Bool) (grown : Bool) (i j : ℕ) : Type 0 where
  pub grows : Grows T old new
  pub fewer : grown ≡ true → unmarked new < unmarked old
  pub same : grown ≡ false → new ≡ old
  pub done : grown ≡ false → (p q : Fin h) → Earlier i j (to_nat p) (to_nat q) → Marked new p → Marked new q → Marked new (T.product p q)

module _ {h : ℕ} (T : PhaseTable h) where
  pub pass-start : (old : List Bool) → Pass T old old false 0 0
  pass-start old = record {
    grows = grows-same T old;
    fewer = λ e. cc;
    same = λ e. refl;
    done = λ e p q earlier. absurd (elim earlier [ inl l ↦ omega arith | inr l ↦ (let m : to_nat q < 0 = l.1 in omega arith) ]);
  }

  pub pass-new : (old new newer : List Bool) (grown : Bool) (i j : ℕ) → Pass T old new grown i j
      → Grows T new newer → unmarked newer < unmarked new → Pass T old newer true i (j + 1)
  pass-new old new newer grown i j pass grows less = record {
    grows = grows-join T old new newer pass.grows grows;
    fewer = λ e. fewer_still grown pass.fewer pass.same;
    same = λ e. cc;
    done = λ e. cc;
  }
    where
      fewer_still : (b : Bool) → (b ≡ true → unmarked new < unmarked old) → (b ≡ false → new ≡ old) → unmarked newer < unmarked old
      fewer_still true f s = let l : unmarked new < unmarked old = f refl in omega arith
      fewer_still false f s = let e : unmarked new ≡ unmarked old = ap unmarked (s refl) in omega arith

  pub pass-old : (old new newer : List Bool) (grown : Bool) (i j : ℕ) → Pass T old new grown i j
      → newer ≡ new → ((p q : Fin h) → to_nat p ≡ i → to_nat q ≡ j → Marked newer p → Marked newer q → Marked newer (T.product p q))
      → Pass T old newer grown i (j + 1)
  pass-old old new newer grown i j pass e here = record {
    grows = subst (Grows T old) (sym e) pass.grows;
    fewer = λ d. subst (λ v. unmarked v < unmarked old) (sym e) (pass.fewer d);
    same = λ d. e ∙ pass.same d;
    done = λ d p q earlier m n. elim (split (to_nat p) (to_nat q) earlier) [
      | inl before ↦ subst (λ v. Marked v (T.product p q)) (sym e) (pass.done d p q before (subst (λ v. Marked v p) e m) (subst (λ v. Marked v q) e n))
      | inr at ↦ here p q at.0 at.1 m n
    ];
  }
    where
      split : (a b : ℕ) → Earlier i (j + 1) a b → Earlier i j a b ⊎ ((a ≡ i) × (b ≡ j))
      split a b (inl l) = inl (inl l)
      split a b (inr (e, l)) = elim (same_or_not b j) [ inl d ↦ inr (e, d) | inr f ↦ inl (inr (e, omega (arith, f))) ]

  pub pass-row : (old new : List Bool) (grown : Bool) (i j : ℕ) → h ≤ j → Pass T old new grown i j → Pass T old new grown (i + 1) 0
  pass-row old new grown i j all pass = record {
    grows = pass.grows;
    fewer = pass.fewer;
    same = pass.same;
    done = λ d p q earlier. pass.done d p q (split (to_nat p) (to_nat q) (to_nat-lt q) earlier);
  }
    where
      split : (a b : ℕ) → b < h → Earlier (i + 1) 0 a b → Earlier i j a b
      split a b l (inl m) = elim (same_or_not a i) [ inl e ↦ inr (e, omega arith) | inr f ↦ inl (omega (arith, f)) ]
      split a b l (inr m) = absurd (let n : b < 0 = m.1 in omega arith)

  pub pass-end : (old new : List Bool) (i : ℕ) → h ≤ i → Pass T old new false i 0
      → (p q : Fin h) → Marked new p → Marked new q → Marked new (T.product p q)
  pass-end old new i all pass p q = pass.done refl p q (inl (let l = to_nat-lt p in omega arith))

  pub closed-marks : (old new : List Bool) → IsMarked old 0 → Grows T old new
      → ((p q : Fin h) → Marked new p → Marked new q → Marked new (T.product p q)) → IsClosed T (Marked new)
  closed-marks old new unit grows products =
      closed_from_products T (Marked new) (grows.kept T.start (subst (IsMarked old) (sym T.start_first) unit)) products
