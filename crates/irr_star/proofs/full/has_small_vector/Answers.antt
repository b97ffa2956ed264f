-- The numerators, one by one.
use Rattle.std.proofs.Common.{◌≡◌, ◌≤◌, ◌*◌, sym, subst, ℕ, ℤ, pos, unsigned_abs, get_or, FitsSigned, to_z, of_z, rules}
use Rattle.std.specs.Int.{w64}
use Rattle.std.proofs.lemmas.Int.{to_z-of_z}
use Rattle.irr_kvec.proofs.Products.{at_first, at_places, at_second, at_third}
use Rattle.irr_star.proofs.full.has_small_vector.Goals as goal

read : (x : ℤ) (n m : ℕ) → FitsSigned w64 x → n ≡ m → unsigned_abs (to_z w64 (of_z w64 x)) ≤ 100000 * n
    → unsigned_abs x ≤ 100000 * m
read x n m f e h = subst (λ k. unsigned_abs x ≤ 100000 * k) e
    (subst (λ y. unsigned_abs y ≤ 100000 * n) (to_z-of_z w64 x f) h)

back : (x : ℤ) (n m : ℕ) → FitsSigned w64 x → n ≡ m → unsigned_abs x ≤ 100000 * m
    → unsigned_abs (to_z w64 (of_z w64 x)) ≤ 100000 * n
back x n m f e h = subst (λ y. unsigned_abs y ≤ 100000 * n) (sym (to_z-of_z w64 x f))
    (subst (λ k. unsigned_abs x ≤ 100000 * k) (sym e) h)

pub returns : goal.returns
returns c =
    let num = c.args.op.now.num in
    let n = c.from-limit.result in
    let m = c.args.op.now.den in
    let fits_x : FitsSigned w64 (get_or num 0 (pos 0)) = search rules in
    let fits_y : FitsSigned w64 (get_or num 1 (pos 0)) = search rules in
    let fits_z : FitsSigned w64 (get_or num 2 (pos 0)) = search rules in (
      λ t.
          let s = c.are_all.ensures.0 t in
          at_places (λ x. unsigned_abs x ≤ 100000 * m) num
          (read (get_or num 0 (pos 0)) n m fits_x c.from-limit.ensures (c.is_at_most.ensures.0 s.0))
          (read (get_or num 1 (pos 0)) n m fits_y c.from-limit.ensures (c.is_at_most-2.ensures.0 s.1))
          (read (get_or num 2 (pos 0)) n m fits_z c.from-limit.ensures (c.is_at_most-3.ensures.0 s.2)),
      λ h. c.are_all.ensures.1 (
        c.is_at_most.ensures.1 (back (get_or num 0 (pos 0)) n m fits_x c.from-limit.ensures
            (at_first (λ x. unsigned_abs x ≤ 100000 * m) num h)),
        c.is_at_most-2.ensures.1 (back (get_or num 1 (pos 0)) n m fits_y c.from-limit.ensures
            (at_second (λ x. unsigned_abs x ≤ 100000 * m) num h)),
        c.is_at_most-3.ensures.1 (back (get_or num 2 (pos 0)) n m fits_z c.from-limit.ensures
            (at_third (λ x. unsigned_abs x ≤ 100000 * m) num h)),
      ),
    )
