-- The text of types, from a list of small representations on the table of the little group of a reduced wave vector.
--   typed_family           a small family whose traces can be worked out
--   typeable               the types of the families of the list can be found
--   few_arms               the star has few arms
--   real_text_at           the text is that of types
--   real_reply_of          the text is the reply for the group of generators
--   head-parts             the parts of the first lines
use Rattle.std.proofs.Common.{◌≡◌, sym, ◌∙◌, ap, ap₂, subst, refl, ℕ, ℤ, suc, pos, ◌*◌, ◌^◌}
use Rattle.std.proofs.Common.{◌<◌, ◌≤◌, List, ◌∷◌, [], ◌++◌, length, get_or, arith}
use Rattle.std.specs.Prelude.{codes}
use Rattle.std.specs.Int.{◌∣◌}
use Rattle.std.specs.Fmt.{decimal, signed_decimal}
use Rattle.std.specs.List.{All}
use Rattle.std.proofs.lemmas.List.{get_or_default}
use native.Mathlib.Nat as Nat
use mathlib.Core.Path.{fun_ext}
use Rattle.irr_algebra.specs.Fin.{Fin, to_nat}
use Rattle.irr_algebra.specs.Matrix.{Matrix}
use Rattle.irr_algebra.specs.Pair.{times}
use Rattle.irr_algebra.specs.Action.{IsSimple}
use Rattle.irr_algebra.proofs.Indices.{from_nat, to_nat-from_nat, to_nat-lt}
use Rattle.irr_algebra.proofs.Pairs.{times-mul}
use Rattle.irr_number.specs.Number.{numbers}
use Rattle.irr_theory.specs.FactorSystem.{Representation}
use Rattle.irr_space.specs.Operation.{Operation, WaveVector}
use Rattle.irr_space.specs.Reciprocal.{Sign, IsOrder, IsReduced}
use Rattle.irr_space.specs.Reciprocal.Sign.{minus}
use Rattle.irr_space.specs.PhaseTable.{PhaseTable, phases_over}
use Rattle.irr_space.specs.CompleteList.{over}
use Rattle.irr_text.specs.ReportText.{pieces, line, next_word}
use Rattle.irr_seitz.specs.PhaseMeaning.{sign_of}
use Rattle.irr_seitz.specs.declared.op.Op.{Op}
use Rattle.irr_cyc.specs.declared.scalars.Scalar.{Ghosts}
use Rattle.irr_rep.specs.Twisted.{phase_table, place_count, operation_places}
use Rattle.irr_rep.specs.declared.family.Family.{Family}
use Rattle.irr_rep.specs.declared.table.Twisted.{Twisted}
use Rattle.irr_rep.proofs.Families.{at_own_order-over}
use Rattle.irr_climb.specs.Lists.{IsSmallList}
use Rattle.irr_climb.specs.Sizes.{HasSharpSizes}
use Rattle.irr_close.specs.StandsFor.{stands_for}
use Rattle.irr_close.specs.declared.group.Group.{Group}
use Rattle.irr_close.proofs.SpaceGroups.{space_group}
use Rattle.irr_little.specs.Arms.{AreArms}
use Rattle.irr_little.specs.Table.{IsLittleTable}
use Rattle.irr_little.specs.declared.arms.Arm.{Arm}
use Rattle.irr_little.proofs.Spaces.{has_canonical}
use Rattle.irr_report.specs.Printed.{numbered}
use Rattle.irr_report.proofs.LineTexts.{head_regroup}
use Rattle.irr_report.proofs.Pieces.{pieces-numbered}
use Rattle.irr_star.specs.Sizes.{IsSmallFamily as IsInducibleFamily}
use Rattle.irr_full_text.proofs.CompleteContents.{full_of_list, full_of_list-is}
use Rattle.irr_real.specs.Families.{IsFamilyOf, IsSmallFamily}
use Rattle.irr_top.specs.Answer.{AreWithin, order_limit}
use Rattle.irr_top.specs.RealCommand.{RealContent, IsRealContent, IsRealReply, IsRealText, real_content}
use Rattle.irr_top.specs.RealCommand.{real_text, type_line}
use Rattle.irr_top.specs.RealFamilies.{AreTyped, IsTypeable, IsTyped, head_text, row_text, rows_text}
use Rattle.irr_top.specs.GroupOf.{IsGroupOf, group_of}
use Rattle.irr_top.specs.Question.Question.{real}
use Rattle.irr_top.specs.declared.real.TypedRep.{TypedRep}
use Rattle.irr_top.specs.declared.status.Status.TheVariants.{Done}
use Rattle.irr_top.proofs.FullTexts.{printed, reduced_through, small_family, star}
use Rattle.irr_top.proofs.Members.{some_item}
use Rattle.irr_top.proofs.Orders.{one_within}
use Rattle.irr_top.proofs.RealContents.{content_along}

-- families

room : (d n e : ℕ) → d ≤ 48 → n ≤ 12000 → e ≤ 2 ^ 11 → d * 13824 * n * e < 2 ^ 110
room d n e few order small =
    let same : 13824 ≤ 13824 = omega arith in
    let l : d * 13824 * n * e ≤ 48 * 13824 * 12000 * 2 ^ 11 = Nat.mul-le-mul
    (Nat.mul-le-mul (Nat.mul-le-mul few same) order) small in
    let b : 48 * 13824 * 12000 * 2 ^ 11 < 2 ^ 110 = omega arith in
    Nat.lt_of_le_of_lt l b

small_square : (e : ℕ) → e ≤ 2 ^ 11 → e * e ≤ 2 ^ 60
small_square e small =
    let l : e * e ≤ 2 ^ 11 * 2 ^ 11 = Nat.mul-le-mul small small in
    let b : 2 ^ 11 * 2 ^ 11 ≤ 2 ^ 60 = omega arith in
    Nat.le_trans l b

pub typed_family : {X : Type 0} {V : Ghosts X} (M : ℕ) {h d : ℕ} (D : Fin h → Matrix (numbers M) d d) (f : Family X V)
    → M ≤ 12000 → IsInducibleFamily M D f → IsFamilyOf M D f
typed_family M {h} {d} D f within s = record {
  size = s.size;
  shape = s.shape;
  matrices = s.matrices;
  few = s.few;
  fits = λ i. record {
    s = 13824;
    d = s.denominator;
    within = s.entries i;
    denominators = small_square s.denominator s.small;
    sums = room d M s.denominator s.few within s.small;
  };
}

as_small : {X : Type 0} {V : Ghosts X} {h : ℕ} (T : PhaseTable h) (M : ℕ) (v : T.order ∣ M) (d : ℕ)
    (D : Representation (phases_over T M v) d) (f : Family X V) → IsFamilyOf M D.at f → IsSmallFamily T M f
as_small T M v d D f is = subst
    (λ n. (E : Representation (phases_over T M v) n) → IsFamilyOf M E.at f → IsSmallFamily T M f) is.size
    (λ E i. record { divides = v; small = E; family = i }) D is

-- past the end of the rows
no_row : TypedRep
no_row = record { dim = 0; kind = pos 0 }

pub few_arms : (group : Group) (w : WaveVector) (arms : List Arm) (t : Twisted) → AreArms group w arms
    → IsLittleTable group w (operation_places t) (phase_table t) → IsReduced (stands_for group) w w → length arms ≤ 48
few_arms group w arms t are table reduced = (printed group w arms t are table reduced).star.are_arms.few

-- the list on the star of its table
module _ (group : Group) (w : WaveVector) (arms : List Arm) (t : Twisted) (are : AreArms group w arms)
    (table : IsLittleTable group w (operation_places t) (phase_table t)) (within : (phase_table t).order ≤ 12000)
    {X : Type 0} {V : Ghosts X} (fs : List (Family X V)) (s : IsSmallList (phase_table t) fs)
    (sizes : All (HasSharpSizes (phase_table t).order (place_count t)) fs) where
  abbrev N : ℕ
  N = (phase_table t).order

  family_at : (v : N ∣ N) (m : Fin s.list.count) (other : Family X V)
      → IsFamilyOf N (over (phase_table t) N v (s.list.member m)).at (get_or fs (to_nat m) other)
  family_at v m other = typed_family N (over (phase_table t) N v (s.list.member m)).at
      (get_or fs (to_nat m) other) within
      (small_family (phase_table t) t.places_within v fs s sizes m other)

  pub typeable : All (IsTypeable t) fs
  typeable k f l =
      let below : k < s.list.count = subst (λ n. k < n) s.read.count l in
      let m : Fin s.list.count = from_nat s.list.count k below in
      let v : N ∣ N = Nat.dvd_refl N in (
        N,
        as_small (phase_table t) N v (s.list.size m) (over (phase_table t) N v (s.list.member m)) (get_or fs k f)
            (subst (λ n. IsFamilyOf N (over (phase_table t) N v (s.list.member m)).at (get_or fs n f))
            (to_nat-from_nat s.list.count k below) (family_at v m f)),
      )

  inside : (m : Fin s.list.count) → to_nat m < length fs
  inside m = subst (λ n. to_nat m < n) (sym s.read.count) (to_nat-lt m)

  simple_over : (v : N ∣ N) (m : Fin s.list.count) → IsSimple (over (phase_table t) N v (s.list.member m)).at
  simple_over v m = subst
      (λ (f : Fin (place_count t) → Matrix (numbers N) (s.list.size m) (s.list.size m)). IsSimple f)
      (sym (fun_ext (λ i. at_own_order-over (phase_table t) v (s.list.member m) i))) (s.simple m)

  module _ (rows : List TypedRep) (made : AreTyped group w (length arms) fs rows) where
    abbrev row : Fin s.list.count → TypedRep
    row m = get_or rows (to_nat m) no_row

    abbrev types : Fin s.list.count → ℤ
    types m = (row m).kind

    some_family : (m : Fin s.list.count) → Family X V
    some_family m = some_item fs (to_nat m) (inside m)

    typed : (m : Fin s.list.count) → IsTyped group w (length arms) (get_or fs (to_nat m) (some_family m)) (row m)
    typed m = made.each (to_nat m) (some_family m) no_row (inside m)

    size-row : (m : Fin s.list.count) → times (length arms) (s.list.size m) ≡ (row m).dim
    size-row m = times-mul (length arms) (s.list.size m)
        ∙ ap (λ d. length arms * d) (sym (family_at (Nat.dvd_refl N) m (some_family m)).size) ∙ sym (typed m).dim

    abbrev content : RealContent
    content = real_content w (star group w arms t are table) s.list types

    count-rows : length rows ≡ s.list.count
    count-rows = made.count ∙ s.read.count

    line-row : (m : Fin s.list.count) (x : TypedRep) → to_nat m < length rows → x ≡ get_or rows (to_nat m) x
        → type_line content m ≡ row_text (suc (to_nat m)) x
    unfolding type_line
    line-row m x l is =
        let here : row m ≡ x = get_or_default rows (to_nat m) no_row x l ∙ sym is in
        ap₂ (λ (n : ℕ) (z : ℤ).
        line (codes "rep" ++ next_word (83 ∷ decimal (suc (to_nat m))) ++ next_word (codes "dim")
        ++ next_word (decimal n) ++ next_word (codes "type") ++ next_word (signed_decimal z)))
        (size-row m ∙ ap (λ (r : TypedRep). r.dim) here) (ap (λ (r : TypedRep). r.kind) here)

    lines-rows : pieces s.list.count (λ m. type_line content m) ≡ numbered row_text 1 rows
    lines-rows = pieces-numbered row_text rows s.list.count count-rows (λ m. type_line content m) line-row

    text-rows : rows_text w N rows ≡ real_text content
    unfolding real_text
    text-rows = ap₂ (λ (n : ℕ) (u : List ℕ). head_text w N n ++ u ++ line (codes "end")) count-rows (sym lines-rows)

    pub real_text_at : IsReduced (stands_for group) w w → (text : List ℕ) → text ≡ rows_text w N rows
        → IsRealText (sign_of group.phase) (stands_for group) w text
    real_text_at reduced text is = record {
      content = content;
      is_content = record {
        wave = w;
        reduced = reduced;
        star = star group w arms t are table;
        list = s.list;
        complete = s.complete;
        in_order = s.ordered;
        full = full_of_list (stands_for group) (space_group group).is_group (has_canonical group)
            (star group w arms t are table) s.list;
        is_full = λ v m. full_of_list-is (stands_for group) (space_group group).is_group (has_canonical group)
            (star group w arms t are table) s.list v m;
        types = types;
        is_type = λ v m. (typed m).type_of (star group w arms t are table) N v (s.list.size m)
            (over (phase_table t) N v (s.list.member m)) (family_at v m (some_family m)) (simple_over v m);
        over_each = λ v m. (typed m).every_order (star group w arms t are table) N v (s.list.size m)
            (s.list.member m) (family_at v m (some_family m)) (s.simple m);
        content = refl;
      };
      is_text = is ∙ text-rows;
    }

-- what stands at a reduced wave vector stands at each that it is the reduced one of
content_through : (G : Operation → Type 0) (s : Sign) (k r : WaveVector) (c : RealContent) → IsReduced G k r
    → IsRealContent s G r c
    → IsRealContent s G k c
content_through G s k r c p q = record {
  wave = q.wave;
  reduced = reduced_through G k r q.wave p q.reduced;
  star = q.star;
  list = q.list;
  complete = q.complete;
  in_order = q.in_order;
  full = q.full;
  is_full = q.is_full;
  types = q.types;
  is_type = q.is_type;
  over_each = q.over_each;
  content = q.content;
}

-- at a wave vector of the group of generators
module _ (group : Group) (gens : List Op) (is : IsGroupOf group gens) (k w : WaveVector)
    (reduced : IsReduced (group_of gens) k w) where
  text_of : (text : List ℕ) → IsRealText (sign_of group.phase) (stands_for group) w text
      → IsRealText minus (group_of gens) k text
  text_of text t = record {
    content = t.content;
    is_content = content_through (group_of gens) minus k w t.content reduced
        (subst (λ s. IsRealContent s (group_of gens) w t.content) (ap sign_of is.phase)
        (content_along (stands_for group) (group_of gens) is.stands (sign_of group.phase) w t.content t.is_content));
    is_text = t.is_text;
  }

  pub real_reply_of : (n : ℕ) → IsOrder (group_of gens) k n → n ≤ order_limit → (text : List ℕ)
      → IsRealText (sign_of group.phase) (stands_for group) w text
      → AreWithin (real k) (group_of gens) × IsRealReply (group_of gens) k Done text
  real_reply_of n order within text t = (one_within (group_of gens) k n order within, (refl, text_of text t))

-- the parts of the first lines
pub head-parts : (w n a : List ℕ)
    → codes "real 1\nwave " ++ (w ++ (codes "\norder " ++ (n ++ (codes "\nreps " ++ (a ++ codes "\n")))))
    ≡ line (codes "real 1") ++ line (codes "wave" ++ next_word w) ++ line (codes "order" ++ next_word n)
    ++ line (codes "reps" ++ next_word a)
head-parts w n a = head_regroup (codes "real 1\n") (codes "wave ") (codes "order ") (codes "reps ") (10 ∷ []) w n a
