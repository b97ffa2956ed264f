-- The text of compatibility relations, from the table of the program.
--   some_points, few_points, points_limited     how many points there are, and their limits
--   moved                  the table at equal lists of points
--   compat_reply_of        the text is the reply for the group of generators
--   compat_refused         of the orders that are needed, one is the first above the limit
use Rattle.std.proofs.Common.{◌≡◌, sym, ◌∙◌, ap, subst, refl, ℕ, suc, ◌<◌, ◌≤◌, Option, None, Some, List, [], ◌∷◌, length, map, get_or, arith}
use Rattle.std.specs.Prelude.{IfSome}
use Rattle.std.specs.List.{All}
use Rattle.std.proofs.lemmas.List.{get_or-map, length-map}
use Rattle.std.proofs.lemmas.List.Elements.{All-cons, All-nil}
use native.Mathlib.Nat as Nat
use mathlib.Core.Path.{fun_ext}
use Rattle.std.specs.Int.{◌∣◌}
use Rattle.irr_algebra.specs.Fin.{Fin, to_nat}
use Rattle.irr_algebra.proofs.Indices.{from_nat, to_nat-from_nat, to_nat-lt}
use Rattle.irr_number.specs.Number.{Number}
use Rattle.irr_space.specs.Operation.{Operation, WaveVector}
use Rattle.irr_space.specs.Reciprocal.Sign.{minus}
use Rattle.irr_seitz.specs.PhaseMeaning.{sign_of}
use Rattle.irr_seitz.specs.declared.op.Op.{Op}
use Rattle.irr_seitz.specs.declared.phase.Phase.{Phase}
use Rattle.irr_seitz.specs.declared.phase.Phase.TheVariants.{Minus}
use Rattle.irr_cyc.specs.declared.orders.TheConstants.{ORDER_LIMIT}
use Rattle.irr_rep.specs.Twisted.{phase_table, table_of}
use Rattle.irr_rep.specs.declared.table.Twisted.{Twisted}
use Rattle.irr_kvec.specs.Centrings.{IsWithinLimits}
use Rattle.irr_kvec.specs.WaveMeaning.{wave_vector}
use Rattle.irr_kvec.specs.declared.wave.Wave.{Wave}
use Rattle.irr_close.specs.StandsFor.{stands_for}
use Rattle.irr_close.specs.declared.group.Group.{Group}
use Rattle.irr_line.specs.LineGroup.{IsLineOrder}
use Rattle.irr_line.proofs.Orders.{some_order-divides}
use Rattle.irr_little.specs.Line.{line_points, IsFirstAbove}
use Rattle.irr_compat.specs.LineTables.{IsCompatTable}
use Rattle.irr_compat.specs.declared.table.LineTable.{LineTable}
use Rattle.irr_compat_text.specs.CompatText.{CompatContent, compat_content, compat_text, IsCompatContent}
use Rattle.irr_top.specs.Answer.{AreWithin, IsTooLargeAt, order_limit}
use Rattle.irr_top.specs.CompatCommand.{IsCompatReply, other_points, point_of}
use Rattle.irr_top.specs.GroupOf.{IsGroupOf, group_of}
use Rattle.irr_top.specs.Question.Question.{compat}
use Rattle.irr_top.specs.declared.status.Status.TheVariants.{Done}
use Rattle.irr_top.proofs.CompatsAlong.{content_along, line_order_along}

pub some_points : (first : Wave) (rest points : List Wave) → points ≡ first ∷ rest → 0 < length points
some_points first rest points e = subst (λ (xs : List Wave). 0 < length xs) (sym e) (omega arith)

pub few_points : (first second : Wave) (third : Option Wave) (points : List Wave) → points ≡ first ∷ other_points second third → length points ≤ 3
few_points first second None points e = subst (λ (xs : List Wave). length xs ≤ 3) (sym e) (omega arith)
few_points first second (Some third) points e = subst (λ (xs : List Wave). length xs ≤ 3) (sym e) (omega arith)

pub points_limited : (first second : Wave) (third : Option Wave) (points : List Wave) → points ≡ first ∷ other_points second third
    → IsWithinLimits first → IsWithinLimits second → IfSome third IsWithinLimits → All IsWithinLimits points
points_limited first second None points e p q r = subst (All IsWithinLimits) (sym e)
    (All-cons IsWithinLimits first (second ∷ []) p (All-cons IsWithinLimits second [] q (All-nil IsWithinLimits)))
points_limited first second (Some third) points e p q r = subst (All IsWithinLimits) (sym e)
    (All-cons IsWithinLimits first (second ∷ third ∷ []) p (All-cons IsWithinLimits second (third ∷ []) q
    (All-cons IsWithinLimits third [] r (All-nil IsWithinLimits))))

pub moved : {S : Type 0} {order : S → ℕ} {value : (n : ℕ) → S → Number n} {group : Group} (n : ℕ) (d : Wave) (points others : List Wave) {t : LineTable S} → points ≡ others
    → IsCompatTable order value group (line_points n points d) t → IsCompatTable order value group (line_points n others d) t
moved {order = order} {value = value} {group = group} n d points others {t = t} e is = subst (λ (xs : List Wave). IsCompatTable order value group (line_points n xs d) t) e is

-- the numbers of a table have an order within the limit
order_within : (t : Twisted) → (phase_table t).order ≤ ORDER_LIMIT
unfolding phase_table table_of
order_within t = t.order_within

-- the order of some points in front divides that of all
front_divides : (G : Operation → Type 0) (k : WaveVector) (others : List WaveVector) (i n m order : ℕ) → i ≤ n → IsLineOrder G (point_of i k others) m
    → IsLineOrder G (point_of n k others) order → m ∣ order
front_divides G k others i n m order l some all = some_order-divides G inside (point_of n k others) m order
    (subst (λ (p : Fin (suc i) → WaveVector). IsLineOrder G p m) (fun_ext (λ j. ap (λ a. get_or (k ∷ others) a k) (sym (same j)))) some) all
  where
    below : (j : Fin (suc i)) → to_nat j < suc n
    below j = let b = to_nat-lt j in omega (arith, b, l)

    inside : Fin (suc i) → Fin (suc n)
    inside j = from_nat (suc n) (to_nat j) (below j)

    same : (j : Fin (suc i)) → to_nat (inside j) ≡ to_nat j
    same j = to_nat-from_nat (suc n) (to_nat j) (below j)

at_most : (m n limit : ℕ) → m ≤ n → n ≤ limit → m ≤ limit
at_most m n limit f w = omega arith

-- so it is within each limit that the order of all points is within
all_within : (G : Operation → Type 0) (k : WaveVector) (others : List WaveVector) (order : ℕ) → 0 < order → IsLineOrder G (point_of (length others) k others) order
    → order ≤ order_limit → AreWithin (compat k others) G
all_within G k others order positive whole within i m needed = at_most m order order_limit
    (Nat.le_of_dvd positive (front_divides G k others i (length others) m order needed.0 needed.1 whole)) within

-- the points of the program
module _ (first : Wave) (rest : List Wave) where
  abbrev start : WaveVector
  start = wave_vector first

  abbrev others : List WaveVector
  others = map wave_vector rest

  pub count_of : length (first ∷ rest) ≡ suc (length others)
  count_of = ap suc (sym (length-map rest wave_vector))

  same_points : (n : ℕ) → n ≤ length others → (d : Wave) → line_points n (first ∷ rest) d ≡ point_of n start others
  same_points n l d = fun_ext (λ i. sym (get_or-map wave_vector (first ∷ rest) (to_nat i) d start
      (let b = to_nat-lt i in let c = count_of in omega (arith, b, c, l))))

  module _ (group : Group) (gens : List Op) (is : IsGroupOf group gens) where
    order_there : (n m : ℕ) → n ≤ length others → (d : Wave) → IsLineOrder (stands_for group) (line_points n (first ∷ rest) d) m
        → IsLineOrder (group_of gens) (point_of n start others) m
    order_there n m l d o = line_order_along (stands_for group) (group_of gens) is.stands (point_of n start others) m
        (subst (λ (p : Fin (suc n) → WaveVector). IsLineOrder (stands_for group) p m) (same_points n l d) o)

    order_back : (n m : ℕ) → n ≤ length others → (d : Wave) → IsLineOrder (group_of gens) (point_of n start others) m
        → IsLineOrder (stands_for group) (line_points n (first ∷ rest) d) m
    order_back n m l d o = subst (λ (p : Fin (suc n) → WaveVector). IsLineOrder (stands_for group) p m) (sym (same_points n l d))
        (line_order_along (group_of gens) (stands_for group) (λ g. ((is.stands g).1, (is.stands g).0)) (point_of n start others) m o)

    content_there : (d : Wave) (c : CompatContent) → IsCompatContent (sign_of group.phase) (stands_for group) (line_points (length others) (first ∷ rest) d) c
        → IsCompatContent minus (group_of gens) (point_of (length others) start others) c
    content_there d c h = subst (λ s. IsCompatContent s (group_of gens) (point_of (length others) start others) c) (sign_minus is.phase)
        (content_along (stands_for group) (group_of gens) is.stands (sign_of group.phase) (point_of (length others) start others) c
        (subst (λ (p : Fin (suc (length others)) → WaveVector). IsCompatContent (sign_of group.phase) (stands_for group) p c)
        (same_points (length others) (Nat.le_refl (length others)) d) h))
      where
        sign_minus : group.phase ≡ Minus → sign_of group.phase ≡ minus
        sign_minus e = ap sign_of e

    pub compat_reply_of : {S : Type 0} (order : S → ℕ) (value : (n : ℕ) → S → Number n) (d : Wave) (t : LineTable S)
        (e : IsCompatTable order value group (line_points (length others) (first ∷ rest) d) t) (text : List ℕ)
        → text ≡ compat_text 1 (sign_of group.phase) (compat_content e.relations)
        → AreWithin (compat start others) (group_of gens) × IsCompatReply (group_of gens) start others Done text
    compat_reply_of order value d t e text made = (
      all_within (group_of gens) start others (phase_table t.line).order (phase_table t.line).order_positive
          (order_there (length others) (phase_table t.line).order (Nat.le_refl (length others)) d e.relations.is_table.is_order) (order_within t.line),
      (
        refl,
        record {
          content = compat_content e.relations;
          is_content = content_there d (compat_content e.relations) (record {
            places = _;
            table = phase_table t.line;
            relations = e.relations;
            content = refl;
          });
          is_text = made ∙ ap (λ s. compat_text 1 s (compat_content e.relations)) (ap sign_of is.phase);
        },
      ),
    )

    -- from the lists of the program
    pub compat_reply_at : {S : Type 0} (order : S → ℕ) (value : (n : ℕ) → S → Number n) (points : List Wave) → first ∷ rest ≡ points → (d : Wave) (t : LineTable S)
        (e : IsCompatTable order value group (line_points (length others) points d) t) (text : List ℕ) (p : Phase) → p ≡ group.phase
        → text ≡ compat_text 1 (sign_of p) (compat_content e.relations)
        → AreWithin (compat start others) (group_of gens) × IsCompatReply (group_of gens) start others Done text
    compat_reply_at order value points same d t e text p phase made = subst (λ (xs : List Wave). (h : IsCompatTable order value group (line_points (length others) xs d) t)
        → text ≡ compat_text 1 (sign_of p) (compat_content h.relations) → AreWithin (compat start others) (group_of gens) × IsCompatReply (group_of gens) start others Done text) same
        (λ h told. compat_reply_of order value d t h text (told ∙ ap (λ x. compat_text 1 (sign_of x) (compat_content h.relations)) phase)) e made

    pub compat_refused : (n : ℕ) → IsFirstAbove group (first ∷ rest) n → IsTooLargeAt (compat start others) (group_of gens) n
    compat_refused n f = record {
      place = f.last;
      is_order = (inside, order_there f.last n inside first (f.is_order first));
      above = f.above;
      first = λ i m lt o. f.first i m first lt (order_back i m o.0 first o.1);
    }
      where
        inside : f.last ≤ length others
        inside = let l = f.inside in let c = count_of in omega (arith, l, c)
