-- The limits that generators pass.
--   limit_once               they pass one limit first
--   refused_or_accepted      or none
use Rattle.std.proofs.Common.{◌≡◌, ◌≢◌, refl, sym, ◌∙◌, ap, subst, Some, None, List}
use Rattle.irr_seitz.specs.declared.op.Op.{Op}
use Rattle.irr_close.specs.StandsFor.{IsRefusal, IsAccepted}
use Rattle.irr_close.specs.declared.CloseError.{CloseError}
use Rattle.irr_close.specs.declared.CloseError.TheVariants.{Rotations as many_rotations, Denominator as large_denominator, Centrings as many_centrings, Memory as no_memory}
use Rattle.irr_top.specs.PassedLimit.{passed_limit}
use Rattle.irr_top.specs.declared.status.Kind.{Kind}

pub passes : (e : CloseError) {kind : Kind} → passed_limit e ≡ Some kind → e ≢ no_memory
passes e {kind} p f = let n : None ≡ Some kind = subst (λ x. passed_limit x ≡ Some kind) f p in cc

refusal_unique : (gens : List Op) (d e : CloseError) → d ≢ no_memory → e ≢ no_memory → IsRefusal gens d
    → IsRefusal gens e → d ≡ e
refusal_unique gens no_memory e m n p q = absurd (m refl)
refusal_unique gens many_rotations many_rotations m n p q = refl
refusal_unique gens many_rotations large_denominator m n p q = absurd (p q.0)
refusal_unique gens many_rotations many_centrings m n p q = absurd (p q.0)
refusal_unique gens many_rotations no_memory m n p q = absurd (n refl)
refusal_unique gens large_denominator many_rotations m n p q = absurd (q p.0)
refusal_unique gens large_denominator large_denominator m n p q = refl
refusal_unique gens large_denominator many_centrings m n p q = absurd (p.1 q.1)
refusal_unique gens large_denominator no_memory m n p q = absurd (n refl)
refusal_unique gens many_centrings many_rotations m n p q = absurd (q p.0)
refusal_unique gens many_centrings large_denominator m n p q = absurd (q.1 p.1)
refusal_unique gens many_centrings many_centrings m n p q = refl
refusal_unique gens many_centrings no_memory m n p q = absurd (n refl)

pub refused_or_accepted : (gens : List Op) (e : CloseError) → e ≢ no_memory → IsRefusal gens e → IsAccepted gens → ⊥
refused_or_accepted gens many_rotations n r a = r a.rotations
refused_or_accepted gens large_denominator n r a = r.1 a.denominator
refused_or_accepted gens many_centrings n r a = r.2 a.centrings
refused_or_accepted gens no_memory n r a = n refl

pub limit_once : (gens : List Op) (d e : CloseError) {k l : Kind} → passed_limit d ≡ Some k → passed_limit e ≡ Some l
    → IsRefusal gens d
    → IsRefusal gens e → k ≡ l
limit_once gens d e {k} {l} p q r u =
    let same : d ≡ e = refusal_unique gens d e (passes d p) (passes e q) r u in
    let some : Some k ≡ Some l = sym p ∙ ap passed_limit same ∙ q in
    cc
