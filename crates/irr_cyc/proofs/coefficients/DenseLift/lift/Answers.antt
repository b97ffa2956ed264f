-- The moved coefficients stand for the lift.
use Rattle.std.proofs.Common.{◌≡◌, sym, ◌∙◌, ap, subst, ℕ, ℤ, ◌*◌, ◌/◌, ◌%◌, ◌<◌, List, length}
use Rattle.std.specs.Int.{◌∣◌}
use Rattle.irr_number.specs.Element.{delta, weighted_sum}
use Rattle.irr_number.specs.Integers.{integers}
use Rattle.irr_cyc.specs.Form.{at}
use Rattle.irr_cyc.proofs.Combined.{through}
use Rattle.irr_cyc.proofs.Lifted.{factor-equal, factor-pos, lift-bound, lift-value}
use Rattle.irr_cyc.proofs.coefficients.DenseLift.lift.Goals as goal

-- the order as the program has it divides the new one
divides : (n m n' m' : ℕ) → n' ≡ n → m' ≡ m → n ∣ m → n' ∣ m'
divides n m n' m' e g v = subst (λ x. n' ∣ x) (sym g) (subst (λ x. x ∣ m) (sym e) v)

-- entries of a slice as entries of the list
entries : (slice xs zs : List ℤ) (n count m : ℕ) → slice ≡ xs → n ≡ length xs → count ≡ m
    → ((k : ℕ) → k < count → at zs k ≡ weighted_sum (length slice) (at slice) (λ i. delta integers ((count / n * i) % count) k))
    → (k : ℕ) → k < m → at zs k ≡ weighted_sum (length xs) (at xs) (λ i. delta integers ((m / length xs * i) % m) k)
entries slice xs zs n count m e p q h = subst (λ y. (k : ℕ) → k < m → at zs k ≡ weighted_sum (length xs) (at xs) (λ i. delta integers ((m / y * i) % m) k)) p
    (subst (λ y. (k : ℕ) → k < y → at zs k ≡ weighted_sum (length xs) (at xs) (λ i. delta integers ((y / n * i) % y) k)) q
    (subst (λ (ys : List ℤ). (k : ℕ) → k < count → at zs k ≡ weighted_sum (length ys) (at ys) (λ i. delta integers ((count / n * i) % count) k)) e h))

pub stretched-requires-clause-positive : goal.stretched-requires-clause-positive
stretched-requires-clause-positive c =
    let order : c.len.result ≡ length c.args.self.now.coefficients.items = c.len.ensures ∙ sym c.as_slice.ensures.len ∙ ap length c.as_slice.ensures.value in
    factor-pos c.len.result c.n-count.result c.n-count.ensures.positive (divides (length c.args.self.now.coefficients.items) c.args.order.now.n c.len.result c.n-count.result order c.n-count.ensures.value c.requires.divides)

pub stretched-requires-clause-equal : goal.stretched-requires-clause-equal
stretched-requires-clause-equal c =
    let order : c.len.result ≡ length c.args.self.now.coefficients.items = c.len.ensures ∙ sym c.as_slice.ensures.len ∙ ap length c.as_slice.ensures.value in
    factor-equal c.len.result c.n-count.result (divides (length c.args.self.now.coefficients.items) c.args.order.now.n c.len.result c.n-count.result order c.n-count.ensures.value c.requires.divides)
    ∙ ap (λ x. x * (c.n-count.result / c.len.result)) (c.len.ensures ∙ sym c.as_slice.ensures.len)

pub stretched-requires-clause-small : goal.stretched-requires-clause-small
stretched-requires-clause-small c = lift-bound c.args.self.now.coefficients.items c.args.self.now.den c.args.self.now.form c.as_slice.result.now c.as_slice.ensures.value c.requires.size

pub returns-clause-value : goal.returns-clause-value
returns-clause-value c =
    let order : c.len.result ≡ length c.args.self.now.coefficients.items = c.len.ensures ∙ sym c.as_slice.ensures.len ∙ ap length c.as_slice.ensures.value in
    through c.args.order.now.n (length c.in_ok-moved.moved.items) c.of_powers.result.coefficients.items c.in_ok-moved.moved.items c.of_powers.result.den c.args.self.now.den (c.in_ok-moved.ensures.len ∙ c.n-count.ensures.value) c.of_powers.ensures.value
    ∙ lift-value c.args.self.now.coefficients.items c.args.self.now.den c.args.self.now.form c.args.order.now.n c.requires.divides c.in_ok-moved.moved.items
    (entries c.as_slice.result.now c.args.self.now.coefficients.items c.in_ok-moved.moved.items c.len.result c.n-count.result c.args.order.now.n c.as_slice.ensures.value order c.n-count.ensures.value c.in_ok-moved.ensures.value)
