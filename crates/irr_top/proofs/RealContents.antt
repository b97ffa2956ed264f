-- What is said of types in a group of operations holds in each with the same operations.
--   type_along, each_along     types of full representations
--   content_along              contents of the text
use Rattle.std.proofs.Common.{◌↔◌, ℕ, ℤ}
use Rattle.std.specs.Int.{◌∣◌}
use Rattle.irr_algebra.specs.Ring.{Ring}
use Rattle.irr_algebra.specs.Matrix.{Matrix}
use Rattle.irr_algebra.specs.Pair.{times}
use Rattle.irr_number.specs.Number.{numbers}
use Rattle.irr_theory.specs.FactorSystem.{Representation}
use Rattle.irr_space.specs.Operation.{Operation, WaveVector}
use Rattle.irr_space.specs.Reciprocal.{Sign}
use Rattle.irr_space.specs.PhaseTable.{phases_at, phases_over}
use Rattle.irr_space.specs.CompleteList.{over}
use Rattle.irr_forms.specs.Form.{FormType, HasType, IsInvariantForm}
use Rattle.irr_forms.specs.Form.FormType.{symmetric, skew, none}
use Rattle.irr_full.specs.GroupRepresentation.{family, raised}
use Rattle.irr_full.specs.Star.{Star}
use Rattle.irr_full.specs.Full.{IsFullOf}
use Rattle.irr_full_text.proofs.Along.{full_along, little_along, reduced_along, star_along}
use Rattle.irr_real.specs.Answer.{IsTypeOf, IsTypeOverEach}
use Rattle.irr_top.specs.RealCommand.{RealContent, IsRealContent}

module _ (G H : Operation → Type 0) (same : (g : Operation) → G g ↔ H g) where
  form_along : {R : Ring} {d : ℕ} (A : Operation → Matrix R d d) (B : Matrix R d d) → IsInvariantForm (family G A) B
      → IsInvariantForm (family H A) B
  form_along A B i = record { invariant = λ g. i.invariant (g.0, (same g.0).1 g.1) }

module _ (G H : Operation → Type 0) (same : (g : Operation) → G g ↔ H g) where
  back : (g : Operation) → H g ↔ G g
  back g = ((same g).1, (same g).0)

  has_type_along : {R : Ring} {d : ℕ} (x : FormType) (A : Operation → Matrix R d d) → HasType x (family G A)
      → HasType x (family H A)
  has_type_along symmetric A t = record {
    form = t.form;
    is_invariant = form_along G H same A t.form t.is_invariant;
    is_symmetric = t.is_symmetric;
    not_null = t.not_null;
  }
  has_type_along skew A t = record {
    form = t.form;
    is_invariant = form_along G H same A t.form t.is_invariant;
    is_skew = t.is_skew;
    not_null = t.not_null;
  }
  has_type_along none A t = record { only_null = λ B i. t.only_null B (form_along H G back A B i) }

module _ (G H : Operation → Type 0) (same : (g : Operation) → G g ↔ H g) where
  other : (g : Operation) → H g ↔ G g
  other g = ((same g).1, (same g).0)

  module _ {s : Sign} {k : WaveVector} (S : Star s G k) where
    -- a full representation on the star of H is one on that of G
    full_back : (M : ℕ) (v : S.table.order ∣ M) {d : ℕ} (D : Representation (phases_over S.table M v) d)
        (A : Operation → Matrix (numbers M) (times S.arms d) (times S.arms d))
        → IsFullOf (star_along G H same S) M v D A → IsFullOf S M v D A
    full_back M v D A full = record {
      carried = λ g m i j n in_n e x is. full.carried g ((same g).0 m) i j n (little_along G H same k n in_n) e x is;
      apart = λ g m i j none. full.apart g ((same g).0 m) i j (λ n in_n e. none n (little_along H G other k n in_n) e);
    }

    pub type_along : (M : ℕ) (v : S.table.order ∣ M) {d : ℕ} (D : Representation (phases_over S.table M v) d) (r : ℤ)
        → IsTypeOf S M v D r → IsTypeOf (star_along G H same S) M v D r
    type_along M v D r t = record {
      form_type = t.form_type;
      number = t.number;
      has_type = λ A full. has_type_along G H same t.form_type A (t.has_type A (full_back M v D A full));
      only = λ A full x has. t.only A (full_back M v D A full) x (has_type_along H G other x A has);
    }

    pub each_along : (M : ℕ) (v : S.table.order ∣ M) {d : ℕ} (D : Representation (phases_at S.table) d) (r : ℤ)
        → IsTypeOverEach S M v D r → IsTypeOverEach (star_along G H same S) M v D r
    each_along M v D r t = record {
      form_type = t.form_type;
      number = t.number;
      has_type = λ positive K above w u A full. has_type_along G H same t.form_type (raised M K positive w A)
          (t.has_type positive K above w u A (full_back M v (over S.table M v D) A full));
    }

  pub content_along : (s : Sign) (k : WaveVector) (c : RealContent) → IsRealContent s G k c → IsRealContent s H k c
  content_along s k c t = record {
    wave = t.wave;
    reduced = reduced_along G H same k t.wave t.reduced;
    star = star_along G H same t.star;
    list = t.list;
    complete = t.complete;
    in_order = t.in_order;
    full = t.full;
    is_full = λ v m. full_along G H same t.star t.star.table.order v
        (over t.star.table t.star.table.order v (t.list.member m)) (t.full m) (t.is_full v m);
    types = t.types;
    is_type = λ v m. type_along t.star t.star.table.order v
        (over t.star.table t.star.table.order v (t.list.member m)) (t.types m) (t.is_type v m);
    over_each = λ v m. each_along t.star t.star.table.order v (t.list.member m) (t.types m) (t.over_each v m);
    content = t.content;
  }
