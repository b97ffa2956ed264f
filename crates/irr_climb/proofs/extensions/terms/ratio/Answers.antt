-- The number d over h.
use Rattle.std.proofs.Common.{◌≡◌, ◌∙◌, ap, ℕ, pos, [], ◌∷◌, Result, Ok, Err, IfOk, ◌≤◌, arith, to_z}
use Rattle.std.proofs.lemmas.Int.{ints}
use mir.Syntax.{w64}
use Rattle.irr_algebra.specs.Ring.{whole}
use Rattle.irr_number.specs.Number.{numbers, root_power}
use Rattle.irr_number.proofs.RootPowers.{root_power-zero}
use Rattle.irr_rational.specs.Integer.{integer}
use Rattle.irr_cyc.specs.Terms.{terms_sum}
use Rattle.irr_climb.proofs.extensions.terms.ratio.Goals as goal

-- one term of the exponent 0
one_term : (n d : ℕ) → terms_sum n ((0, pos d) ∷ []) ≡ whole (numbers n) d
unfolding terms_sum integer
one_term n d = (numbers n).add-zero ((numbers n).mul (whole (numbers n) d) (root_power n 0))
    ∙ ap ((numbers n).mul (whole (numbers n) d)) (root_power-zero n) ∙ (numbers n).mul-one (whole (numbers n) d)

as_integer : (d : ℕ) → d ≤ 48 → to_z w64 d ≡ pos d
as_integer d l = omega (arith, ints, l)

if_ok : {A E : Type 0} (r : Result A E) (P Q : A → Type 0) → ((x : A) → P x → Q x) → IfOk r P → IfOk r Q
if_ok (Ok x) P Q f p = f x p
if_ok (Err e) P Q f p = p

pub returns-clause-value : goal.returns-clause-value
returns-clause-value g c = if_ok c.from_terms.result _ _ (λ y e. e ∙ ap (λ k. terms_sum c.args.order.now.n ((0, k) ∷ []))
    (as_integer c.args.d c.requires.few)
    ∙ one_term c.args.order.now.n c.args.d) c.from_terms.ensures.value
