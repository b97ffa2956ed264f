-- A least common multiple is at most the product.
use Rattle.std.proofs.Common.{◌≡◌, refl, sym, ◌∙◌, subst, ◌<◌, ◌≤◌, ◌*◌, ◌^◌, ℕ, Option, None, Some, IsNone, arith}
use Rattle.std.specs.Option.{IsSome, IfSome}
use native.Mathlib.Nat as Nat
use Rattle.irr_rat.specs.Lcm.{IsLcm}
use Rattle.irr_rat.proofs.Multiples.{lcm_exists, lcm_positive}
use Rattle.irr_little.proofs.line.common_multiple.Goals as goal

some_of : (r : Option ℕ) → ¬ (IsNone r) → IsSome r
some_of None f = absurd (f refl)
some_of (Some x) f = refl

value_of : (r : Option ℕ) (x : ℕ) (P : ℕ → Type 0) → r ≡ Some x → IfSome r P → P x
value_of r x P e h = rw e at h

small : (a b m : ℕ) → 0 < a → a ≤ 12000 → 0 < b → b < 2 ^ 32 → IsLcm a b m → m ≤ 2 ^ 46
small a b m p w q l h =
    let d : m ≤ a * b = Nat.le_of_dvd (Nat.mul-pos p q) (h.2 (a * b) (Nat.dvd-mul_right a b) (Nat.dvd-mul_left b a)) in
    let r : b ≤ 2 ^ 32 = omega (arith, l) in let t : a * b ≤ 12000 * 2 ^ 32 = Nat.mul-le-mul w r in
    omega (arith, d, t)

pub unwrap-requires : goal.unwrap-requires
unwrap-requires c =
    let period : c.args.period < 2 ^ 32 = c.ranges.period.fits in
    let b : 0 < c.from.result = subst (λ n. 0 < n) (sym c.from.ensures) c.requires.period in
    let e = lcm_exists c.args.common c.from.result c.requires.positive in
    some_of c.lcm_checked.result (λ none. let t : 2 ^ 64 ≤ e.0 = c.lcm_checked.ensures.none.0 none e.0 e.1 in
    let s : e.0 ≤ 2 ^ 46 = small c.args.common c.from.result e.0 c.requires.positive c.requires.within b (subst (λ n. n < 2 ^ 32) (sym c.from.ensures) period) e.1 in
    omega (arith, t, s))

pub returns-clause-least : goal.returns-clause-least
returns-clause-least c = subst (λ b. IsLcm c.args.common b c.unwrap.result) c.from.ensures
    (value_of c.lcm_checked.result c.unwrap.result (IsLcm c.args.common c.from.result) c.unwrap.ensures c.lcm_checked.ensures.least)

pub returns-clause-positive : goal.returns-clause-positive
returns-clause-positive c = lcm_positive c.args.common c.args.period c.unwrap.result c.requires.positive c.requires.period
    (subst (λ b. IsLcm c.args.common b c.unwrap.result) c.from.ensures
    (value_of c.lcm_checked.result c.unwrap.result (IsLcm c.args.common c.from.result) c.unwrap.ensures c.lcm_checked.ensures.least))

pub returns-clause-small : goal.returns-clause-small
returns-clause-small c =
    let period : c.args.period < 2 ^ 32 = c.ranges.period.fits in
    small c.args.common c.args.period c.unwrap.result c.requires.positive c.requires.within c.requires.period period
    (subst (λ b. IsLcm c.args.common b c.unwrap.result) c.from.ensures
    (value_of c.lcm_checked.result c.unwrap.result (IsLcm c.args.common c.from.result) c.unwrap.ensures c.lcm_checked.ensures.least))
